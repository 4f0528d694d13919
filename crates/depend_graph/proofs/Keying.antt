-- A map of the first dependency of each child in each group, as dependencies come.
use Rattle.std.proofs.Common.{◌≡◌, ◌+◌, ◌&&◌, ℕ, List, [], ◌∷◌, ◌++◌, length, nat_eq, cond, Bool, true, false, Option, None, Some, unwrap_or, refl, sym, ap, ◌∙◌, subst, arith, eqb-true, eq-eqb}
use Rattle.std.specs.HashMap.{HashMap, get_by}
use Rattle.std.specs.Option.{option_or}
use Rattle.std.specs.Str.{bytes_eq}
use Rattle.std.proofs.lemmas.Bool.{and_parts, and_from}
use Rattle.site_model.specs.declared.depend_spec.DependSpec.{DependSpec}
use Rattle.run_meaning.specs.Reachability.{same_group}
use Rattle.depend_graph.specs.Teams.{AreFirsts, first_keyed, leader_in}
use Rattle.depend_graph.proofs.Firsts.{bytes_self, same_bytes}
use Rattle.depend_graph.proofs.Has.{false_from, never_both}
use Rattle.depend_graph.proofs.Leaders.{alone_leader, keyed_leader, keyed_push}

pub alone_in : (ds : List DependSpec) (d : DependSpec) (place : ℕ) → length ds ≡ place → d.group ≡ None → place ≡ leader_in ds d
alone_in ds d place long none = sym long ∙ sym (ap (λ r. unwrap_or r (length ds)) (alone_leader ds d 0 none))

pub known_in : (ds : List DependSpec) (d : DependSpec) (g : List ℕ) (l : ℕ) → d.group ≡ Some g → first_keyed d.child g 0 ds ≡ Some l → l ≡ leader_in ds d
known_in ds d g l group first = sym (ap (λ r. unwrap_or r (length ds)) (keyed_leader ds d g 0 group ∙ first))

pub new_in : (ds : List DependSpec) (d : DependSpec) (g : List ℕ) (place : ℕ) → length ds ≡ place → d.group ≡ Some g → first_keyed d.child g 0 ds ≡ None → place ≡ leader_in ds d
new_in ds d g place long group none = sym long ∙ sym (ap (λ r. unwrap_or r (length ds)) (keyed_leader ds d g 0 group ∙ none))

or_none : (o : Option ℕ) → option_or o None ≡ o
or_none None = refl
or_none (Some x) = refl

last_false : (t : Bool) → (t && false) ≡ false
last_false true = refl
last_false false = refl

abbrev key_eq : {R : Type 0} → (R → List ℕ) → ℕ × R → ℕ × R → Bool
key_eq text x y = nat_eq x.0 y.0 && bytes_eq (text x.1) (text y.1)

module _ {R S : Type 0} (text : R → List ℕ) where
  pub firsts_none : (m : HashMap (ℕ × R) ℕ S) (ds : List DependSpec) (d : DependSpec) → d.group ≡ None → AreFirsts m text ds → AreFirsts m text (ds ++ d ∷ [])
  firsts_none m ds d none firsts q =
      firsts q ∙ sym (keyed_push q.0 (text q.1) 0 ds d
      ∙ ap (λ t. option_or (first_keyed q.0 (text q.1) 0 ds) (cond t (Some (0 + length ds)) None)) (ap (λ g. nat_eq q.0 d.child && same_group (Some (text q.1)) g) none ∙ last_false (nat_eq q.0 d.child))
      ∙ or_none (first_keyed q.0 (text q.1) 0 ds))

  pub firsts_known : (m : HashMap (ℕ × R) ℕ S) (ds : List DependSpec) (d : DependSpec) (g : List ℕ) (l : ℕ) → d.group ≡ Some g → first_keyed d.child g 0 ds ≡ Some l → AreFirsts m text ds → AreFirsts m text (ds ++ d ∷ [])
  firsts_known m ds d g l group first firsts q =
      firsts q ∙ sym (keyed_push q.0 (text q.1) 0 ds d ∙ ap (λ z. option_or (first_keyed q.0 (text q.1) 0 ds) (cond (nat_eq q.0 d.child && same_group (Some (text q.1)) z) (Some (0 + length ds)) None)) group ∙ by (nat_eq q.0 d.child && bytes_eq (text q.1) g) refl)
    where
      by : (t : Bool) → (nat_eq q.0 d.child && bytes_eq (text q.1) g) ≡ t → option_or (first_keyed q.0 (text q.1) 0 ds) (cond t (Some (0 + length ds)) None) ≡ first_keyed q.0 (text q.1) 0 ds
      by false e = or_none (first_keyed q.0 (text q.1) 0 ds)
      by true e =
          let both = and_parts (nat_eq q.0 d.child) (bytes_eq (text q.1) g) e in
          let here : first_keyed q.0 (text q.1) 0 ds ≡ Some l = ap (λ c. first_keyed c (text q.1) 0 ds) (eqb-true q.0 d.child both.0) ∙ ap (λ h. first_keyed d.child h 0 ds) (same_bytes (text q.1) g both.1) ∙ first in
          ap (λ o. option_or o (Some (0 + length ds))) here ∙ sym here

  pub firsts_new : (m n : HashMap (ℕ × R) ℕ S) (ds : List DependSpec) (d : DependSpec) (r : R) (place : ℕ) → length ds ≡ place → d.group ≡ Some (text r) → first_keyed d.child (text r) 0 ds ≡ None
      → ((q : ℕ × R) → get_by (key_eq text q) n ≡ cond (key_eq text (d.child, r) q) (Some place) (get_by (key_eq text q) m)) → AreFirsts m text ds → AreFirsts n text (ds ++ d ∷ [])
  firsts_new m n ds d r place long group none updates firsts q =
      updates q ∙ ap (λ o. cond (nat_eq d.child q.0 && bytes_eq (text r) (text q.1)) (Some place) o) (firsts q) ∙ by (nat_eq d.child q.0 && bytes_eq (text r) (text q.1)) refl
      ∙ sym (keyed_push q.0 (text q.1) 0 ds d ∙ ap (λ z. option_or (first_keyed q.0 (text q.1) 0 ds) (cond (nat_eq q.0 d.child && same_group (Some (text q.1)) z) (Some (0 + length ds)) None)) group)
    where
      flip : (c e : ℕ) (g h : List ℕ) → (nat_eq c e && bytes_eq g h) ≡ true → (nat_eq e c && bytes_eq h g) ≡ true
      flip c e g h t =
          let both = and_parts (nat_eq c e) (bytes_eq g h) t in
          and_from (nat_eq e c) (bytes_eq h g) (eq-eqb e c (sym (eqb-true c e both.0))) (subst (λ z. bytes_eq z g ≡ true) (same_bytes g h both.1) (bytes_self g))

      by : (t : Bool) → (nat_eq d.child q.0 && bytes_eq (text r) (text q.1)) ≡ t
          → cond t (Some place) (first_keyed q.0 (text q.1) 0 ds) ≡ option_or (first_keyed q.0 (text q.1) 0 ds) (cond (nat_eq q.0 d.child && bytes_eq (text q.1) (text r)) (Some (0 + length ds)) None)
      by true e =
          let both = and_parts (nat_eq d.child q.0) (bytes_eq (text r) (text q.1)) e in
          let here : first_keyed q.0 (text q.1) 0 ds ≡ None = ap (λ c. first_keyed c (text q.1) 0 ds) (sym (eqb-true d.child q.0 both.0)) ∙ ap (λ h. first_keyed d.child h 0 ds) (sym (same_bytes (text r) (text q.1) both.1)) ∙ none in
          let same : place ≡ 0 + length ds = omega (arith, long) in
          ap Some same
          ∙ sym (ap (λ o. option_or o (cond (nat_eq q.0 d.child && bytes_eq (text q.1) (text r)) (Some (0 + length ds)) None)) here
          ∙ ap (λ t. cond t (Some (0 + length ds)) None) (flip d.child q.0 (text r) (text q.1) e))
      by false e =
          let other : (nat_eq q.0 d.child && bytes_eq (text q.1) (text r)) ≡ false =
          false_from (nat_eq q.0 d.child && bytes_eq (text q.1) (text r)) (λ t. never_both (flip q.0 d.child (text q.1) (text r) t) e) in
          sym (ap (λ t. option_or (first_keyed q.0 (text q.1) 0 ds) (cond t (Some (0 + length ds)) None)) other ∙ or_none (first_keyed q.0 (text q.1) 0 ds))
