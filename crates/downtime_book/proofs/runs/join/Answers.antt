-- What the join makes of two neighbours stands in their places.
use Rattle.std.proofs.Common.{◌≡◌, ◌-◌, ◌<◌, ◌++◌, suc, List, length, set, get_or, IsPermutation, ◌∙◌, ap, sym, subst, arith, get_or-set_other}
use Rattle.downtime_book.specs.declared.downtime.Downtime.{Downtime}
use Rattle.downtime_book.specs.Contents.{together}
use Rattle.downtime_book.proofs.Together.{joined}
use Rattle.downtime_book.proofs.runs.join.Goals as goal

pub returns-clause-same : goal.returns-clause-same
returns-clause-same c =
    let xs = c.args.runs.now.items in
    let n = c.args.newer in
    let older = c.index_mut-2.result.now in
    let newer = c.index_mut.result.now in
    let none = c.take-run.new.self in
    let a = c.join-left.new.self in
    let b = c.join-left.result in
    let next : suc (n - 1) ≡ n = omega (arith, c.requires.some) in
    let within : suc (n - 1) < length xs = omega (arith, next, c.requires.place) in
    let first : older ≡ get_or xs (n - 1) older = c.index_mut-2.ensures.value ∙ get_or-set_other xs n (n - 1) none older (λ e. omega (arith, e, c.requires.some)) in
    let second : newer ≡ get_or xs (suc (n - 1)) newer = c.index_mut.ensures.value ∙ ap (λ k. get_or xs k newer) (sym next) in
    let both : IsPermutation (older ++ newer) (a ++ b) = subst (λ (l : List Downtime). IsPermutation (older ++ l) (a ++ b)) c.take-run.ensures.taken c.join-left.ensures in
    subst (λ k. IsPermutation (together xs) (together (set (set (set xs k none) (n - 1) a) k b))) next (joined a b xs (n - 1) none older newer within first second both)
