use Rattle.std.proofs.Common.{◌≢◌, ℕ, List, AllPairs, subst}
use Rattle.site_model.proofs.Places.{distinct_names}
use Rattle.site_model.proofs.names.Names.len.Goals as goal

pub returns-clause-distinct : goal.returns-clause-distinct
returns-clause-distinct c =
    let P : List (List ℕ) → Type 0 = λ ns. AllPairs (λ x y. x ≢ y) ns in
    subst P c.self.view_is (distinct_names c.self.inside.set.keys c.len.ensures.unique)
