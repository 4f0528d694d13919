-- One downtime more, in the last run or in a run of its own.
use Rattle.std.proofs.Common.{◌<◌, ◌∷◌, List, length, IsPermutation, sym, subst, rules}
use Rattle.std.proofs.lemmas.List.Sorted.{IsPermutation-trans}
use Rattle.downtime_book.specs.declared.downtime.Downtime.{Downtime}
use Rattle.downtime_book.specs.Contents.{together}
use Rattle.downtime_book.proofs.Order.{on_answer}
use Rattle.downtime_book.proofs.Together.{put_in, put_behind}
use Rattle.downtime_book.proofs.runs.put.Goals as goal

pub returns-clause-ok : goal.returns-clause-ok
returns-clause-ok c =
    let xs = c.args.runs.now.items in
    let within : c.in-Some.last < length xs = search rules in
    on_answer c.put.result _ _ c.put.ensures.ok (put_in xs c.in-Some.last c.args.downtime c.index_mut.result.now c.put.new.self within c.index_mut.ensures.value)

pub returns-2-clause-ok : goal.returns-2-clause-ok
returns-2-clause-ok c =
    let xs = c.args.runs.now.items in
    let d = c.args.downtime in
    let more = put_behind xs d c.new-run.result c.put-2.new.self c.new-run.ensures c.in_ok-put.ensures.ok in
    IsPermutation-trans _ _ _ (subst (λ (l : List (List Downtime)). IsPermutation (d ∷ together xs) (together l)) (sym c.in_ok-push.ensures.items) more) c.join_older.ensures
