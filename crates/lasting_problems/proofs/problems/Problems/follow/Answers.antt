-- One segment after the other is noted.
use Rattle.std.proofs.Common.{◌<◌, ◌+◌, ◌∷◌, length, drop, Some, sym, ap, ◌∙◌, subst, arith}
use Rattle.std.proofs.lemmas.List.{drop_all}
use Rattle.std.proofs.lemmas.Option.{slice_get-get_or}
use Rattle.notify_rules.proofs.Lists.{drop_next}
use Rattle.run_meaning.specs.Runs.{joined}
use Rattle.lasting_problems.specs.Lasting.{lasting}
use Rattle.lasting_problems.specs.Noted.{noted}
use Rattle.lasting_problems.proofs.Rounding.{all_after, all_noted, book_lasts, many_lasting, now, one_so_far}
use Rattle.lasting_problems.proofs.problems.Problems.follow.Goals as goal

pub loop-segment-init : goal.loop-segment-init
loop-segment-init c = λ s moment before round are many stand gathered old.
    record {
      moments = lasting s before;
      are = old;
      many = many_lasting 0 s.checkables before;
      on = ap (λ xs. all_noted (now s before (joined before round)) xs (lasting s before)) gathered ∙ all_after s before round many;
    }

pub loop-segment-preserved : goal.loop-segment-preserved
loop-segment-preserved c = λ s moment before round are many stand gathered old.
    let i = c.loop-segment.segment-index in
    let xs = c.args.segments.now in
    let books = c.args.books.now in
    let x = c.segment-item.result in
    let book = c.index-books-segment.result in
    let l = c.loop-segment-test.true in
    let within : x.checkable < length books = subst (λ y. y.checkable < length books) (sym c.segment-item.is) (c.requires i x l) in
    let at = slice_get-get_or books x.checkable book within ∙ ap Some (sym c.index-books-segment.is) in
    let whole = are.whole in
    one_so_far (now s before (joined before round)) x (drop (i + 1) xs) (drop i xs) (lasting s (joined before round)) (length s.checkables) c.loop-segment.self c.note.new.self c.lasting_of.result
    (drop_next i xs x l ∙ ap (λ y. y ∷ drop (i + 1) xs) (sym c.segment-item.is))
    (omega (arith, within, whole))
    (c.lasting_of.ensures ∙ book_lasts s moment books x.checkable book (joined before round) are at stand)
    c.in_ok-note.ensures.noted
    (c.loop-segment.invariant s moment before round are many stand gathered old)

pub returns : goal.returns
returns c = λ s moment before round are many stand gathered old.
    let so_far = c.loop-segment.invariant s moment before round are many stand gathered old in
    so_far.are ∙ ap noted (sym (ap (λ xs. all_noted (now s before (joined before round)) xs so_far.moments) (drop_all c.loop-segment.segment-index c.args.segments.now c.loop-segment-test.false)) ∙ so_far.on)
