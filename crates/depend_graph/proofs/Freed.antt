-- What is cleared stands above nothing that leads back to it, since its parents do so too.
use Rattle.std.proofs.Common.{◌≡◌, ◌<◌, ◌≤◌, ◌+◌, ◌++◌, ℕ, zero, suc, List, [], ◌∷◌, length, get_or, set, cond, ◌⊎◌, inl, inr, Bool, true, false, All, refl, sym, ap, ◌∙◌, subst, arith, length-set, get_or-set_other, get_or-set_same}
use Rattle.std.proofs.lemmas.Bool.{cases_eq}
use Rattle.std.proofs.lemmas.List.{append_assoc, get_or_append_left, length_push}
use Rattle.std.proofs.lemmas.List.Elements.{All-push, All-tail}
use Rattle.site_model.specs.PlainSite.{PlainSite}
use Rattle.site_model.specs.declared.depend_spec.DependSpec.{DependSpec}
use Rattle.run_meaning.specs.Reachability.{is_above, parents_of}
use Rattle.run_meaning.specs.Turns.{of_index}
use Rattle.depend_graph.specs.declared.clearing.Climb.{Climb}
use Rattle.depend_graph.specs.Clearing.{AreCleared, AreClearedUpTo, IsClearing, IsClimb, is_cleared, left}
use Rattle.depend_graph.specs.Cycles.{IsOnCycle}
use Rattle.depend_graph.specs.Parents.{AreParents, has, IsAbove}
use Rattle.depend_graph.proofs.Above.{above_parent, above_up, first_step, parent_above}
use Rattle.depend_graph.proofs.Has.{place_of}

-- one doesn't stand above itself where none of its parents does
free_of : (s : PlainSite) (c : ℕ) → ((q : ℕ) → has q (parents_of s c) ≡ true → ¬ IsAbove s q q) → ¬ IsAbove s c c
free_of s c up (zero, a) = absurd cc
free_of s c up (suc n, a) = by (first_step s n c c a)
  where
    by : (q : ℕ) × (has q (parents_of s c) ≡ true) × ((q ≡ c) ⊎ (is_above s n c q ≡ true)) → ⊥
    by (q, mine, inl e) = up q mine (subst (λ z. IsAbove s z z) (sym e) (suc n, a))
    by (q, mine, inr more) = up q mine (above_up s q c q (n, more) mine)

-- a dependency of a child that doesn't stand above itself is on no cycle
pub off_cycle : (s : PlainSite) (d : DependSpec) → has d.parent (parents_of s d.child) ≡ true → ¬ IsAbove s d.child d.child → ¬ IsOnCycle s d
off_cycle s d mine free (inl e) = free (parent_above s d.child d.child (subst (λ z. has z (parents_of s d.child) ≡ true) (sym e) mine))
off_cycle s d mine free (inr a) = free (suc a.0, above_parent s a.0 d.child d.child d.parent mine a.1)

-- One more is cleared.

stays : (cleared : List Bool) (c k : ℕ) → c < length cleared → is_cleared cleared k ≡ true → is_cleared (set cleared c true) k ≡ true
stays cleared c k l h = by (cases_eq k c)
  where
    by : (k ≡ c) ⊎ (k ≡ c → ⊥) → is_cleared (set cleared c true) k ≡ true
    by (inl e) = ap (is_cleared (set cleared c true)) e ∙ get_or-set_same cleared c true false l
    by (inr ne) = get_or-set_other cleared c k true false ne ∙ h

pub climb_stays : (parents : List (List ℕ)) (cleared : List Bool) (c : ℕ) (x : Climb) → c < length cleared → IsClimb parents cleared x → IsClimb parents (set cleared c true) x
climb_stays parents cleared c x l is = record {
  inside = is.inside;
  passed = λ k m h. stays cleared c (get_or (of_index x.checkable parents) k 0) l (is.passed k m h);
}

pub clear_more : (parents : List (List ℕ)) (cleared : List Bool) (c next : ℕ) → c < length parents → AreCleared parents cleared → AreClearedUpTo (of_index c parents) cleared next
    → length (of_index c parents) ≤ next → AreCleared parents (set cleared c true)
clear_more parents cleared c next l are passed past = record {
  many = length-set cleared c true ∙ are.many;
  free = λ s is k h. by s is k h (cases_eq k c);
}
  where
    own : (s : PlainSite) → AreParents s parents → (q : ℕ) → has q (parents_of s c) ≡ true → is_cleared cleared q ≡ true
    own s is q mine =
        let many = is.many in
        let place = place_of q (of_index c parents) (ap (has q) (is.parents c (omega (arith, l, many))) ∙ mine) in
        let low = place.1 in
        ap (is_cleared cleared) (sym (place.2 0)) ∙ passed place.0 (omega (arith, low, past)) low

    by : (s : PlainSite) → AreParents s parents → (k : ℕ) → is_cleared (set cleared c true) k ≡ true → (k ≡ c) ⊎ (k ≡ c → ⊥) → ¬ IsAbove s k k
    by s is k h (inl e) = subst (λ z. ¬ IsAbove s z z) (sym e) (free_of s c (λ q mine. are.free s is q (own s is q mine)))
    by s is k h (inr ne) = are.free s is k (sym (get_or-set_other cleared c k true false ne) ∙ h)

-- How many are left.

pub left_met : (met : List Bool) (c : ℕ) → get_or met c true ≡ false → left (set met c true) + 1 ≡ left met
left_met [] c h = absurd cc
left_met (m ∷ ms) zero h = let e : left ms + 1 ≡ suc (left ms) = omega arith in e ∙ ap (λ t. cond t (left ms) (suc (left ms))) (sym h)
left_met (m ∷ ms) (suc c) h = by m (left_met ms c h)
  where
    by : (t : Bool) → left (set ms c true) + 1 ≡ left ms → cond t (left (set ms c true)) (suc (left (set ms c true))) + 1 ≡ cond t (left ms) (suc (left ms))
    by true e = e
    by false e = omega (arith, e)

-- none is cleared at first
pub none_cleared : (parents : List (List ℕ)) (flags : List Bool) → length flags ≡ length parents → ((k : ℕ) → get_or flags k false ≡ false) → AreCleared parents flags
none_cleared parents flags many none = record { many = many; free = λ s is k h. let e : true ≡ false = sym h ∙ none k in absurd cc }

-- Those that are begun.

pub first_climb : (parents : List (List ℕ)) (cleared : List Bool) (c : ℕ) → c < length parents → IsClimb parents cleared (record { checkable = c; next = 0 })
first_climb parents cleared c l = record { inside = l; passed = λ k m h. absurd (omega (arith, m)) }

all_two : (P : Climb → Type 0) (before : List Climb) (x y : Climb) → All P before → P x → P y → All P (before ++ x ∷ y ∷ [])
all_two P before x y h p q = subst (All P) (append_assoc before (x ∷ []) (y ∷ [])) (All-push P (before ++ x ∷ []) y (All-push P before x h p) q)

pub one_begun : (P : Climb → Type 0) (before after : List Climb) (x : Climb) (met : Bool) → after ≡ cond met before (before ++ x ∷ []) → All P before → P x → All P after
one_begun P before after x true is h p = subst (All P) (sym is) h
one_begun P before after x false is h p = subst (All P) (sym is) (All-push P before x h p)

pub two_begun : (P : Climb → Type 0) (before after : List Climb) (x y : Climb) (met : Bool) → after ≡ cond met before (before ++ x ∷ y ∷ []) → All P before → P x → P y → All P after
two_begun P before after x y true is h p q = subst (All P) (sym is) h
two_begun P before after x y false is h p q = subst (All P) (sym is) (all_two P before x y h p q)

pub all_rest : (P : Climb → Type 0) (before rest : List Climb) (x : Climb) → before ≡ rest ++ x ∷ [] → All P before → All P rest
all_rest P before rest x is h k d l =
    let all = subst (All P) is h in
    subst P (get_or_append_left rest (x ∷ []) d k l) (all k d (omega (arith, l, length_push rest x)))

pub last_of : (P : Climb → Type 0) (before rest : List Climb) (x : Climb) → before ≡ rest ++ x ∷ [] → All P before → P x
last_of P before [] x is h = subst (All P) is h 0 x (omega arith)
last_of P before (r ∷ rest) x is h = last_of P (rest ++ x ∷ []) rest x refl (All-tail P r (rest ++ x ∷ []) (subst (All P) is h))
