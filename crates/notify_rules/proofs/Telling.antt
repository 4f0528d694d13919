-- Listeners, as one user after another is told.
use Rattle.std.proofs.Common.{◌≡◌, ◌≢◌, ◌||◌, ℕ, nat_eq, Bool, true, false, List, [], ◌∷◌, map, get_or, set, Option, Some, None, refl, sym, ap, ◌∙◌, eqb-true, eq-eqb}
use Rattle.site_model.specs.Sound.{AreDistinct}
use Rattle.run_meaning.specs.Decisions.{is_among}
use Rattle.notify_rules.specs.Sent.{user_of, told_by, is_user, IsAt}
use Rattle.notify_rules.specs.declared.listeners.Listener.{Listener}
use Rattle.notify_rules.proofs.Lists.{one_changed, none_changed, at_within, at_passes}

or_none : (b : Bool) → (b || false) ≡ b
or_none true = refl
or_none false = refl

or_assoc : (a b c : Bool) → ((a || b) || c) ≡ (a || (b || c))
or_assoc true b c = refl
or_assoc false b c = refl

abbrev pub listener : ℕ → Bool → Listener
listener u b = record { user = u; told = b }

pub told_none : (l : Listener) → told_by (Some []) l ≡ l
told_none l = ap (listener l.user) (or_none l.told)

pub told_nobody : (l : Listener) → told_by None l ≡ l
told_nobody l = ap (listener l.user) (or_none l.told)

-- one and then others
told_more : (u : ℕ) (us : List ℕ) (l : Listener) → told_by (Some us) (told_by (Some (u ∷ [])) l) ≡ told_by (Some (u ∷ us)) l
told_more u us l =
    ap (listener l.user) (or_assoc l.told (nat_eq l.user u || false) (is_among l.user (Some us)) ∙ ap (λ b. l.told || (b || is_among l.user (Some us))) (or_none (nat_eq l.user u)))

pub all_told_more : (u : ℕ) (us : List ℕ) (ls : List Listener) → map (told_by (Some us)) (map (told_by (Some (u ∷ []))) ls) ≡ map (told_by (Some (u ∷ us))) ls
all_told_more u us [] = refl
all_told_more u us (l ∷ ls) = rw (told_more u us l, all_told_more u us ls) refl

pub all_told_none : (ls : List Listener) → map (told_by (Some [])) ls ≡ ls
all_told_none [] = refl
all_told_none (l ∷ ls) = rw (told_none l, all_told_none ls) refl

-- the users stay
pub users_kept : (us : Option (List ℕ)) (ls : List Listener) → map user_of (map (told_by us) ls) ≡ map user_of ls
users_kept us [] = refl
users_kept us (l ∷ ls) = ap (λ ns. l.user ∷ ns) (users_kept us ls)

other_user : (u : ℕ) (l : Listener) → l.user ≢ u → told_by (Some (u ∷ [])) l ≡ l
other_user u l h = by (nat_eq l.user u) refl
  where
    by : (b : Bool) → nat_eq l.user u ≡ b → listener l.user (l.told || (b || false)) ≡ l
    by true e = absurd (h (eqb-true l.user u e))
    by false e = ap (listener l.user) (or_none l.told)

pub told_at : (ls : List Listener) (u p : ℕ) (d v : Listener) → AreDistinct (map user_of ls) → IsAt (is_user u) ls (Some p) → v ≡ listener (get_or ls p d).user true → set ls p v ≡ map (told_by (Some (u ∷ []))) ls
told_at ls u p d v once at e =
    let l = get_or ls p d in
    let is : l.user ≡ u = eqb-true l.user u (at_passes (is_user u) ls p d at) in
    let or_true : (b : Bool) → (b || true) ≡ true = λ b. elim b as (λ b. (b || true) ≡ true) [ true ↦ refl | false ↦ refl ] in
    let told : v ≡ told_by (Some (u ∷ [])) l = e ∙ ap (listener l.user) (sym (ap (λ b. l.told || (b || false)) (at_passes (is_user u) ls p d at) ∙ or_true l.told)) in
    one_changed user_of (told_by (Some (u ∷ []))) u (other_user u) ls p d v once (at_within (is_user u) ls p at) is told

pub told_nowhere : (ls : List Listener) (u : ℕ) → IsAt (is_user u) ls None → map (told_by (Some (u ∷ []))) ls ≡ ls
told_nowhere ls u h =
    none_changed user_of (told_by (Some (u ∷ []))) u (other_user u) ls (is_user u) (λ l fails same. not_eq l.user u fails same) h
  where
    not_eq : (a b : ℕ) → nat_eq a b ≡ false → a ≢ b
    not_eq a b fails same = let holds : nat_eq a b ≡ true = eq-eqb a b same in absurd cc
