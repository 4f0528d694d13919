-- Each turn changes one run, and the filters go over all of them.
use Rattle.std.proofs.Common.{ℕ, ◌≡◌, ◌==◌, ◌++◌, not, List, filter, refl, sym, ap, ap₂, ◌∙◌, arith}
use Rattle.std.proofs.lemmas.List.Elements.{filter-append}
use Rattle.downtime_book.specs.declared.downtime.Downtime.{Downtime}
use Rattle.downtime_book.specs.Downtime.{is_live}
use Rattle.downtime_book.proofs.Together.{met_more, met_whole}
use Rattle.downtime_book.proofs.runs.cancel.Goals as goal

abbrev Kept : ℕ → ℕ → List Downtime → List Downtime → Type 0
Kept number moment xs ys = ys ≡ filter (is_live moment) (filter (λ (d : Downtime). not (d.number == number)) xs)

both : (number moment : ℕ) (xs ys us vs : List Downtime) → Kept number moment xs ys → Kept number moment us vs → Kept number moment (xs ++ us) (ys ++ vs)
both number moment xs ys us vs e f =
    let test : Downtime → _ = λ (d : Downtime). not (d.number == number) in
    ap₂ (λ (a b : List Downtime). a ++ b) e f ∙ sym (filter-append (is_live moment) (filter test xs) (filter test us)) ∙ ap (filter (is_live moment)) (sym (filter-append test xs us))

pub loop-run-init : goal.loop-run-init
loop-run-init c = record { done = refl; rest = refl; long = refl }

pub loop-run-preserved : goal.loop-run-preserved
loop-run-preserved c =
    met_more (Kept c.args.number c.args.moment) (both c.args.number c.args.moment) c.args.runs.now c.loop-run.runs c.loop-run.run-index c.run-item.result _ c.loop-run.invariant (omega arith) c.run-item.is (c.cancel.ensures ∙ ap (λ (l : List Downtime). filter (is_live c.args.moment) (filter (λ (d : Downtime). not (d.number == c.args.number)) l)) (sym c.run-item.is))

pub returns-clause-length : goal.returns-clause-length
returns-clause-length c = c.loop-run.invariant.long

pub returns-clause-kept : goal.returns-clause-kept
returns-clause-kept c = met_whole (Kept c.args.number c.args.moment) c.args.runs.now c.loop-run.runs c.loop-run.run-index (omega arith) c.loop-run.invariant
