-- A downtime that is live is kept; one that is past leaves the book as it was.
use Rattle.std.proofs.Common.{◌≤◌, ◌<◌, [], ◌∷◌, ◌++◌, sym, subst, IsPermutation, tests, arith}
use Rattle.std.proofs.lemmas.List.Sorted.{length_permutation}
use Rattle.downtime_book.specs.declared.kind.Kind.{Kind}
use Rattle.downtime_book.specs.Calls.{added}
use Rattle.downtime_book.specs.Contents.{Contents, StandsFor, together}
use Rattle.downtime_book.proofs.Order.{live-new, past-new, with_kind}
use Rattle.downtime_book.proofs.Steps.{contents, StandsFor-added, StandsFor-added_past}
use Rattle.downtime_book.proofs.book.Book.add.Goals as goal

pub invariant_of-self-2 : goal.invariant_of-self-2
invariant_of-self-2 c =
    let longer = length_permutation _ _ c.in_ok-put.ensures.ok in
    omega (arith, longer, c.self.invariant, c.in-Some.ensures)

pub returns-clause-ok : goal.returns-clause-ok
returns-clause-ok c = λ calls s.
    let a = c.args in
    let xs = together c.self.inside.runs.items in
    let before = contents c.self.inside.latest xs in
    let later : c.self.inside.latest < a.end = grind (arith, tests, c.le.ensures, c.if-le.false) in
    let stood : StandsFor before calls = subst (λ (b : Contents). StandsFor b calls) (sym c.self.view_is) s in
    StandsFor-added before calls a.number a.start a.end a.fixed a.duration (together c.put.new.runs.items) stood
    (live-new a.number a.start a.end a.fixed a.duration c.self.inside.latest later)
    (subst (λ (k : Kind). IsPermutation (with_kind a.number a.start a.end k ∷ xs) (together c.put.new.runs.items)) c.new.ensures c.in_ok-put.ensures.ok)

pub returns-then-le-clause-ok : goal.returns-then-le-clause-ok
returns-then-le-clause-ok c = λ calls s.
    let a = c.args in
    let before = contents c.self.inside.latest (together c.self.inside.runs.items) in
    let stood : StandsFor before calls = subst (λ (b : Contents). StandsFor b calls) (sym c.self.view_is) s in
    let past : a.end ≤ c.self.inside.latest = grind (arith, tests, c.le.ensures, c.if-le.true) in
    let stands = StandsFor-added_past before calls a.number a.start a.end a.fixed a.duration stood (past-new a.number a.start a.end a.fixed a.duration c.self.inside.latest past) in
    subst (λ (b : Contents). StandsFor b (calls ++ added a.number a.start a.end a.fixed a.duration ∷ [])) c.self.view_is stands
