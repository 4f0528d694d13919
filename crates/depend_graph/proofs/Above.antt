-- What stands above a checkable: one step more, and that a closed list has all of it.
use Rattle.std.proofs.Common.{◌≡◌, ℕ, zero, suc, List, get_or, nat_eq, ◌||◌, ◌⊎◌, inl, inr, true, false, sym, subst, eq-eqb, eqb-true}
use Rattle.std.proofs.lemmas.Bool.{or_cases, or_left, or_right}
use Rattle.site_model.specs.PlainSite.{PlainSite}
use Rattle.run_meaning.specs.Reachability.{is_above, parents_of}
use Rattle.depend_graph.specs.Parents.{has, IsAbove}
use Rattle.depend_graph.proofs.Has.{any_weaker, eq_back, has_at, has_own, place_of}

pub parent_above : (s : PlainSite) (c p : ℕ) → has p (parents_of s c) ≡ true → IsAbove s c p
parent_above s c p h = (1, any_weaker (nat_eq p) (λ q. nat_eq q p || false) (parents_of s c) (λ q e. or_left (nat_eq q p) false (eq_back p q e)) h)

-- a parent of one that stands above
pub step_up : (s : PlainSite) (p q steps c : ℕ) → is_above s steps p c ≡ true → has q (parents_of s p) ≡ true → is_above s (suc steps) q c ≡ true
step_up s p q zero c h up = absurd cc
step_up s p q (suc steps) c h up =
    any_weaker (λ r. nat_eq r p || is_above s steps p r) (λ r. nat_eq r q || is_above s (suc steps) q r) (parents_of s c)
    (λ r e. or_right (nat_eq r q) (is_above s (suc steps) q r) (by (λ r e. step_up s p q steps r e up) r (or_cases (nat_eq r p) (is_above s steps p r) e))) h
  where
    by : ((r : ℕ) → is_above s steps p r ≡ true → is_above s (suc steps) q r ≡ true) → (r : ℕ) → (nat_eq r p ≡ true) ⊎ (is_above s steps p r ≡ true) → is_above s (suc steps) q r ≡ true
    by f r (inl e) =
        subst (λ z. is_above s (suc steps) q z ≡ true) (sym (eqb-true r p e))
        (any_weaker (nat_eq q) (λ t. nat_eq t q || is_above s steps q t) (parents_of s p) (λ t e. or_left (nat_eq t q) (is_above s steps q t) (eq_back q t e)) up)
    by f r (inr e) = f r e

pub above_up : (s : PlainSite) (c p q : ℕ) → IsAbove s c p → has q (parents_of s p) ≡ true → IsAbove s c q
above_up s c p q a up = (suc a.0, step_up s p q a.0 c a.1 up)

-- one step towards what stands above: to a parent that it is, or above which it stands
pub first_step : (s : PlainSite) (steps p c : ℕ) → is_above s (suc steps) p c ≡ true → (q : ℕ) × (has q (parents_of s c) ≡ true) × ((q ≡ p) ⊎ (is_above s steps p q ≡ true))
first_step s steps p c h =
    let found = has_own (λ q. nat_eq q p || is_above s steps p q) (parents_of s c) h in
    let q = found.1 in
    (q, has_at (nat_eq q) (parents_of s c) found.0 q found.2 (eq-eqb q (get_or (parents_of s c) found.0 q) (sym (found.3 q))), by q (or_cases (nat_eq q p) (is_above s steps p q) found.4))
  where
    by : (q : ℕ) → (nat_eq q p ≡ true) ⊎ (is_above s steps p q ≡ true) → (q ≡ p) ⊎ (is_above s steps p q ≡ true)
    by q (inl e) = inl (eqb-true q p e)
    by q (inr e) = inr e

-- with a parent that it has, and what stands above the parent
pub above_parent : (s : PlainSite) (steps p c q : ℕ) → has q (parents_of s c) ≡ true → is_above s steps p q ≡ true → is_above s (suc steps) p c ≡ true
above_parent s steps p c q up h =
    let place = place_of q (parents_of s c) up in
    has_at (λ r. nat_eq r p || is_above s steps p r) (parents_of s c) place.0 0 place.1
    (or_right (nat_eq (get_or (parents_of s c) place.0 0) p) (is_above s steps p (get_or (parents_of s c) place.0 0)) (subst (λ z. is_above s steps p z ≡ true) (sym (place.2 0)) h))

-- a list that has the parents of each of its own, and those of this one, has all that stands above
pub all_found : (s : PlainSite) (found : List ℕ) → ((x q : ℕ) → has x found ≡ true → has q (parents_of s x) ≡ true → has q found ≡ true)
    → (steps p c : ℕ) → ((q : ℕ) → has q (parents_of s c) ≡ true → has q found ≡ true) → is_above s steps p c ≡ true → has p found ≡ true
all_found s found closed zero p c from h = absurd cc
all_found s found closed (suc steps) p c from h = by (λ q g more. all_found s found closed steps p q g more) (first_step s steps p c h)
  where
    by : ((q : ℕ) → ((r : ℕ) → has r (parents_of s q) ≡ true → has r found ≡ true) → is_above s steps p q ≡ true → has p found ≡ true)
        → (q : ℕ) × (has q (parents_of s c) ≡ true) × ((q ≡ p) ⊎ (is_above s steps p q ≡ true)) → has p found ≡ true
    by f (q, up, inl e) = subst (λ z. has z found ≡ true) e (from q up)
    by f (q, up, inr more) = f q (λ r. closed q r (from q up)) more
