-- Ancestors are the parents, and theirs.
use Rattle.std.proofs.Common.{◌≡◌, ◌<◌, ◌&&◌, ◌||◌, ◌⊎◌, inl, inr, ℕ, zero, suc, Bool, true, false, length, get_or, nat_eq, sym, ap, ◌∙◌, subst, arith, eqb-true}
use Rattle.std.specs.List.{list_any}
use Rattle.std.proofs.lemmas.Bool.{and_parts, or_cases}
use Rattle.depend_graph.specs.Graph.{HasOrder}
use Rattle.depend_graph.specs.Parents.{has}
use Rattle.depend_graph.proofs.Ancestors.{ancestor_in, has_filter, range_has}
use Rattle.depend_graph.proofs.Has.{any_weaker, eq_self, has_at, has_own, same_tests}
use Rattle.run_meaning.specs.Reachability.{ancestors, is_above, parents_of}
use Rattle.run_meaning.specs.Turns.{from_on}
use Rattle.site_model.specs.PlainSite.{PlainSite}

both_true : (a b : Bool) → a ≡ true → b ≡ true → (a && b) ≡ true
both_true true b h k = k
both_true false b h k = absurd cc

right_weaker : (a b c : Bool) → (b ≡ true → c ≡ true) → (a || b) ≡ true → (a || c) ≡ true
right_weaker true b c f h = h
right_weaker false b c f h = f h

module _ (s : PlainSite) where
  abbrev count : ℕ
  count = length s.checkables

  -- what is above is so over more steps too
  more_steps : (steps p q : ℕ) → is_above s steps p q ≡ true → is_above s (suc steps) p q ≡ true
  more_steps zero p q h = absurd cc
  more_steps (suc steps) p q h =
      any_weaker (λ r. nat_eq r p || is_above s steps p r) (λ r. nat_eq r p || is_above s (suc steps) p r) (parents_of s q)
      (λ r. right_weaker (nat_eq r p) (is_above s steps p r) (is_above s (suc steps) p r) (more_steps steps p r)) h

  by_parents : (steps p c : ℕ) → is_above s steps p c ≡ true → list_any (λ q. nat_eq q p || is_above s steps p q) (parents_of s c) ≡ true
  by_parents zero p c h = absurd cc
  by_parents (suc steps) p c h =
      any_weaker (λ q. nat_eq q p || is_above s steps p q) (λ q. nat_eq q p || is_above s (suc steps) p q) (parents_of s c)
      (λ q. right_weaker (nat_eq q p) (is_above s steps p q) (is_above s (suc steps) p q) (more_steps steps p q)) h

  is_ancestor : (p q : ℕ) → p < count → is_above s count p q ≡ true → has p (ancestors s q) ≡ true
  is_ancestor p q below h =
      has_filter (λ r. is_above s count r q) (from_on 0 count) p
      ∙ both_true (has p (from_on 0 count)) (is_above s count p q) (range_has 0 count p (omega arith) (omega (arith, below))) h

  through_parents : (c p : ℕ) → has p (ancestors s c) ≡ true → list_any (λ q. nat_eq q p || has p (ancestors s q)) (parents_of s c) ≡ true
  through_parents c p h =
      let both = and_parts (has p (from_on 0 count)) (is_above s count p c) (sym (has_filter (λ r. is_above s count r c) (from_on 0 count) p) ∙ h) in
      any_weaker (λ q. nat_eq q p || is_above s count p q) (λ q. nat_eq q p || has p (ancestors s q)) (parents_of s c)
      (λ q. right_weaker (nat_eq q p) (is_above s count p q) (has p (ancestors s q)) (is_ancestor p q (ancestor_in s c p h))) (by_parents count p c both.1)

  -- some parent by its place among the parents
  parent_there : (c k q : ℕ) → k < length (parents_of s c) → ((d : ℕ) → get_or (parents_of s c) k d ≡ q) → has q (parents_of s c) ≡ true
  parent_there c k q l at = has_at (nat_eq q) (parents_of s c) k q l (ap (nat_eq q) (at q) ∙ eq_self q)

  module _ (order : HasOrder s) (c : ℕ) (within : c < count) where
    -- what is above an ancestor is one
    further_up : (steps p q : ℕ) → has q (ancestors s c) ≡ true → is_above s steps p q ≡ true → has p (ancestors s c) ≡ true
    further_up zero p q here h = absurd cc
    further_up (suc steps) p q here h =
        let (k, r, l, at, is) = has_own (λ r. nat_eq r p || is_above s steps p r) (parents_of s q) h in
        let up = order.further c q r within here (parent_there q k r l at) in
        by r up (λ e. further_up steps p r up e) (or_cases (nat_eq r p) (is_above s steps p r) is)
      where
        by : (r : ℕ) → has r (ancestors s c) ≡ true → (is_above s steps p r ≡ true → has p (ancestors s c) ≡ true) → (nat_eq r p ≡ true) ⊎ (is_above s steps p r ≡ true) → has p (ancestors s c) ≡ true
        by r up more (inl e) = subst (λ z. has z (ancestors s c) ≡ true) (eqb-true r p e) up
        by r up more (inr e) = more e

    from_parents : (p : ℕ) → list_any (λ q. nat_eq q p || has p (ancestors s q)) (parents_of s c) ≡ true → has p (ancestors s c) ≡ true
    from_parents p h =
        let (k, q, l, at, is) = has_own (λ q. nat_eq q p || has p (ancestors s q)) (parents_of s c) h in
        let up = order.parents c q within (parent_there c k q l at) in
        by q up (or_cases (nat_eq q p) (has p (ancestors s q)) is)
      where
        by : (q : ℕ) → has q (ancestors s c) ≡ true → (nat_eq q p ≡ true) ⊎ (has p (ancestors s q) ≡ true) → has p (ancestors s c) ≡ true
        by q up (inl e) = subst (λ z. has z (ancestors s c) ≡ true) (eqb-true q p e) up
        by q up (inr e) =
            let both = and_parts (has p (from_on 0 count)) (is_above s count p q) (sym (has_filter (λ r. is_above s count r q) (from_on 0 count) p) ∙ e) in
            further_up count p q up both.1

    pub above_is : (p : ℕ) → has p (ancestors s c) ≡ list_any (λ q. nat_eq q p || has p (ancestors s q)) (parents_of s c)
    above_is p = same_tests (has p (ancestors s c)) (list_any (λ q. nat_eq q p || has p (ancestors s q)) (parents_of s c)) (through_parents c p) (from_parents p)
