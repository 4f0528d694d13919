-- Parents are checkables of the site.
use Rattle.std.proofs.Common.{◌≡◌, ◌<◌, ◌≤◌, ℕ, List, [], length, get_or, ◌⊎◌, inl, inr, All, refl, sym, ap, ◌∙◌, subst, arith}
use Rattle.std.proofs.lemmas.Bool.{cases_lt}
use Rattle.site_model.specs.PlainSite.{PlainSite}
use Rattle.run_meaning.specs.Turns.{of_index}
use Rattle.depend_graph.specs.Parents.{AreParents, has, HasParents}
use Rattle.depend_graph.specs.Search.{AreBelow}
use Rattle.depend_graph.proofs.Building.{parent_in}
use Rattle.depend_graph.proofs.Has.{stands_at}
use Rattle.depend_graph.proofs.Rows.{row_beyond}

none_below : (n : ℕ) → All (λ p. p < n) []
none_below n k d l = absurd (omega (arith, l))

pub parents_below : (s : PlainSite) (sound : HasParents s) (ls : List (List ℕ)) → AreParents s ls → AreBelow (length ls) ls
parents_below s sound ls are c = by (cases_lt c (length s.checkables))
  where
    by : (c < length s.checkables) ⊎ (length s.checkables ≤ c) → All (λ p. p < length ls) (of_index c ls)
    by (inl l) = λ i d h.
        let q = get_or (of_index c ls) i d in
        let p = parent_in s sound c q (ap (has q) (sym (are.parents c l)) ∙ stands_at q (of_index c ls) i d h refl) in
        let e = are.many in omega (arith, p, e)
    by (inr g) = let e = are.many in subst (All (λ p. p < length ls)) (sym (row_beyond ls c (omega (arith, g, e)))) (none_below (length ls))
