-- Sorted, those that equal the one before them are left out.
use Rattle.std.proofs.Common.{◌<◌, All, eqb, subst, sym}
use Rattle.std.proofs.lemmas.List.Filters.{All-dedup, dedup_is}
use Rattle.std.proofs.lemmas.List.Kept.{AllPairs-from_increasing, Contains-dedup_nat}
use Rattle.std.proofs.lemmas.List.Sorted.{All-permutation, Contains-permutation}
use Rattle.std.proofs.lemmas.Map.Keys.{IsStrictlyIncreasing-dedup}
use Rattle.site_posts.proofs.touched.each_once.Goals as goal

pub returns-clause-ascends : goal.returns-clause-ascends
returns-clause-ascends c = λ i j.
    let is = dedup_is _ _ _ c.dedup.ensures.filtered in
    AllPairs-from_increasing c.dedup.new.self.items (rw is (IsStrictlyIncreasing-dedup _ c.sort_unstable.ensures.sorted)) i j 0

pub returns-clause-keeps : goal.returns-clause-keeps
returns-clause-keeps c = λ k there.
    let is = dedup_is _ _ _ c.dedup.ensures.filtered in
    rw is (Contains-dedup_nat _ k (Contains-permutation _ _ k c.sort_unstable.ensures.permutation there))

pub returns-clause-no_others : goal.returns-clause-no_others
returns-clause-no_others c = λ n below.
    let is = dedup_is _ _ _ c.dedup.ensures.filtered in
    subst (All (λ k. k < n)) (sym is) (All-dedup eqb (λ k. k < n) _ (All-permutation (λ k. k < n) _ _ c.sort_unstable.ensures.permutation below))
