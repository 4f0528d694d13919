-- What all callers give back, by what each of them gives.
use Rattle.std.proofs.Common.{◌≡◌, ℕ, zero, suc, ◌<◌, List, [], ◌∷◌, length, map, slice_get, get_or, Some, sym, ap, ◌∙◌, subst}
use Rattle.std.specs.Prelude.{IfOk, Result, Ok, Err}
use Rattle.std.specs.List.{AllZip}
use Rattle.std.proofs.lemmas.List.{length-map}
use Rattle.std.proofs.lemmas.Option.{same_Some, slice_get_within, get_or_from_slice_get}
use Rattle.post_rounds.proofs.Places.{zip_from}

-- what follows from what is said of the value of an Ok
pub if_ok : {A F : Type 0} (P Q : A → Type 0) → ((x : A) → P x → Q x) → (r : Result A F) → IfOk r P → IfOk r Q
if_ok P Q f (Ok x) p = f x p
if_ok P Q f (Err e) p = p

abbrev ok_of : {A F : Type 0} → A → Result A F
ok_of y = Ok y

get_map_ok : {A F : Type 0} (xs : List A) (i : ℕ) (x : A) → slice_get xs i ≡ Some x → slice_get (map (ok_of {F = F}) xs) i ≡ Some (Ok x)
get_map_ok [] i x h = absurd cc
get_map_ok (y ∷ ys) zero x h = ap Some (ap Ok (same_Some y x h))
get_map_ok (y ∷ ys) (suc i) x h = get_map_ok ys i x h

module _ {C H F : Type 0} (R : C → H → Type 0) (callers : List C) (answers : List (Result H F)) where
  -- an answer of each caller, and none of them is a want of memory
  pub all_gave : length answers ≡ length callers → ((i : ℕ) (d : Result H F) → i < length callers → (c : C) × ((e : C) → get_or callers i e ≡ c) × IfOk (get_or answers i d) (R c))
      → (hands : List H) → map (λ y. Ok y) hands ≡ answers → AllZip R callers hands
  all_gave whole each hands same = zip_from R callers hands (sym (length-map hands (λ y. Ok y)) ∙ ap length same ∙ whole) (λ i c hand at_c at_hand.
      let within = slice_get_within callers i c at_c in
      let one = each i (Ok hand) within in
      let there : get_or answers i (Ok hand) ≡ Ok hand = get_or_from_slice_get answers i (Ok hand) (Ok hand) (ap (λ rs. slice_get rs i) (sym same) ∙ get_map_ok hands i hand at_hand) in
      let whose : one.0 ≡ c = sym (one.1 c) ∙ get_or_from_slice_get callers i c c at_c in
      subst (λ d. R d hand) whose (subst (λ s. IfOk s (R one.0)) there one.2))
