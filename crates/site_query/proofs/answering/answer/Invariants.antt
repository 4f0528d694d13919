use Rattle.std.proofs.Common.{◌≡◌, ◌++◌, drop, map}
use Rattle.std.specs.List.{flat_map}
use Rattle.site_model.specs.PlainSite.{check_view}
use Rattle.site_posts.specs.Books.{histories_of}
use Rattle.site_query.specs.Answers.{all_shown, asked_of, first_of, row_text}
use Rattle.site_query.proofs.AnswerLaws.{rows_of}
use Rattle.site_query.proofs.answering.answer.Given as goal

-- the lines so far, with those of the rest, are all of them
abbrev pub invariant-loop-i : goal.invariant-loop-i
invariant-loop-i l =
    l.out ++ rows_of l.columns l.left (asked_of l.query (drop l.i (all_shown (map check_view l.specs) (histories_of l.books) l.moment))) ≡ flat_map (row_text l.columns) (first_of l.query.limit (asked_of l.query (all_shown (map check_view l.specs) (histories_of l.books) l.moment)))
