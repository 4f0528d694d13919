-- Filling the places of checkables that aren't named.
use Rattle.std.proofs.Common.{◌≡◌, ℕ, zero, suc, ◌+◌, ◌<◌, List, [], ◌∷◌, ◌++◌, length, slice_get, Option, Some, None, IfSome, refl, sym, ap, ◌∙◌, arith, subst, append-nil, length-append}
use Rattle.std.proofs.lemmas.Option.{same_Some}
use Rattle.checkable_core.specs.Contents.{Contents}
use Rattle.run_meaning.specs.Turns.{Histories}
use Rattle.site_model.specs.PlainSite.{PlainSite}
use Rattle.site_posts.specs.Books.{histories_of}
use Rattle.site_keep.specs.Reading.{histories_told}
use Rattle.site_keep.specs.Slots.{entries_or, told_of, AreOf, AreSlots, IsOf}

abbrev Slots : Type 0
Slots = List (Option Contents)

-- what is filled so far and the places that are left come to these
pub record Fills (s : PlainSite) (slots : Slots) (books : List Contents) (left : Slots) : Type 0 where
  pub histories : histories_of books ++ histories_told (told_of left) ≡ histories_told (told_of slots)
  pub many : length books + length left ≡ length s.checkables
  pub each : (k : ℕ) (book : Contents) → slice_get books k ≡ Some book → IsOf s k book
  pub rest : (j : ℕ) (book : Contents) → slice_get left j ≡ Some (Some book) → IsOf s (length books + j) book

begun : (s : PlainSite) (slots : Slots) → AreSlots s slots → Fills s slots [] slots
begun s slots are = record { histories = refl; many = omega (arith, are.whole); each = λ k book at. absurd cc; rest = λ j book at. subst (λ i. IsOf s i book) (up j) (are.each j book at) }
  where
    up : (j : ℕ) → j ≡ 0 + j
    up j = omega arith

pub begin_filling : (s : PlainSite) (slots : Slots) (books : List Contents) (all : Slots) → books ≡ [] → all ≡ slots → AreSlots s slots → Fills s slots books all
begin_filling s slots books all none same are = subst (λ xs. Fills s slots books xs) (sym same) (subst (λ bs. Fills s slots bs slots) (sym none) (begun s slots are))

pub pushed_at : (s : PlainSite) (books : List Contents) (first : ℕ) (new : Contents) → ((k : ℕ) (book : Contents) → slice_get books k ≡ Some book → IsOf s (first + k) book) → IsOf s (first + length books) new
    → (k : ℕ) (book : Contents) → slice_get (books ++ new ∷ []) k ≡ Some book → IsOf s (first + k) book
pushed_at s [] first new each own zero book at = subst (IsOf s (first + 0)) (same_Some new book at) own
pushed_at s [] first new each own (suc k) book at = absurd cc
pushed_at s (b ∷ books) first new each own zero book at = each zero book at
pushed_at s (b ∷ books) first new each own (suc k) book at =
    let up : (n : ℕ) → first + suc n ≡ suc first + n = λ n. omega arith in
    subst (λ i. IsOf s i book) (sym (up k))
    (pushed_at s books (suc first) new (λ j other here. subst (λ i. IsOf s i other) (up j) (each (suc j) other here)) (subst (λ i. IsOf s i new) (up (length books)) own) k book at)

pub histories_pushed : (books : List Contents) (new : Contents) (more : Histories) → histories_of (books ++ new ∷ []) ++ more ≡ histories_of books ++ new.entries ∷ more
histories_pushed [] new more = refl
histories_pushed (b ∷ books) new more = ap (λ hs. b.entries ∷ hs) (histories_pushed books new more)

pub fill_more : (s : PlainSite) (slots : Slots) (books : List Contents) (slot : Option Contents) (left : Slots) (new : Contents) → Fills s slots books (slot ∷ left) → new.entries ≡ entries_or slot → IsOf s (length books) new
    → Fills s slots (books ++ new ∷ []) left
fill_more s slots books slot left new f same own = record {
  histories = histories_pushed books new (histories_told (told_of left)) ∙ ap (λ h. histories_of books ++ h ∷ histories_told (told_of left)) same ∙ f.histories;
  many = omega (arith, f.many, length-append books (new ∷ []));
  each = λ k book at. subst (λ i. IsOf s i book) (down k) (pushed_at s books 0 new (λ j other here. subst (λ i. IsOf s i other) (sym (down j)) (f.each j other here)) (subst (λ i. IsOf s i new) (sym (down (length books))) own) k book at);
  rest = λ j book at. subst (λ i. IsOf s i book) (up j) (f.rest (suc j) book at);
}
  where
    up : (j : ℕ) → length books + suc j ≡ length (books ++ new ∷ []) + j
    up j = omega (arith, length-append books (new ∷ []))

    down : (j : ℕ) → 0 + j ≡ j
    down j = omega arith

pub fill_step : (s : PlainSite) (slots : Slots) (books pushed : List Contents) (slot : Option Contents) (all left : Slots) (new : Contents) → Fills s slots books all → all ≡ slot ∷ left → new.entries ≡ entries_or slot → IsOf s (length books) new
    → pushed ≡ books ++ new ∷ [] → Fills s slots pushed left
fill_step s slots books pushed slot all left new f step same own added =
    subst (λ bs. Fills s slots bs left) (sym added) (fill_more s slots books slot left new (subst (Fills s slots books) step f) same own)

first_of : (s : PlainSite) (slots : Slots) (books : List Contents) (slot : Option Contents) (left : Slots) → Fills s slots books (slot ∷ left) → IfSome slot (IsOf s (length books))
first_of s slots books None left f = tt
first_of s slots books (Some book) left f = let none : length books + 0 ≡ length books = omega arith in subst (λ i. IsOf s i book) none (f.rest 0 book refl)

pub first_slot : (s : PlainSite) (slots : Slots) (books : List Contents) (slot : Option Contents) (all left : Slots) → Fills s slots books all → all ≡ slot ∷ left → IfSome slot (IsOf s (length books))
first_slot s slots books slot all left f step = first_of s slots books slot left (subst (Fills s slots books) step f)

pub fill_within : (s : PlainSite) (slots : Slots) (books : List Contents) (slot : Option Contents) (all left : Slots) → Fills s slots books all → all ≡ slot ∷ left → length books < length s.checkables
fill_within s slots books slot all left f step = omega (arith, f.many, ap length step)

pub filled_all : (s : PlainSite) (slots : Slots) (books : List Contents) (left : Slots) → length left ≡ 0 → Fills s slots books left → (histories_of books ≡ histories_told (told_of slots)) × AreOf s books
filled_all s slots books [] none f = (sym (append-nil (histories_of books)) ∙ f.histories, record { whole = omega (arith, f.many); each = f.each })
filled_all s slots books (slot ∷ left) none f = absurd (omega (arith, none))
