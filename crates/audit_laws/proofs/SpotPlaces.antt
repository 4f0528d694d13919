-- Where spots stand among those of all entries, and which is earlier.
use Rattle.std.proofs.Common.{◌≡◌, ◌+◌, ◌*◌, ◌^◌, ◌<◌, ◌≤◌, ◌&&◌, ℕ, zero, suc, nat_lt, Bool, true, false, List, [], ◌∷◌, length, slice_get, refl, sym, ap, ◌∙◌, arith, Some, eq-eqb}
use Rattle.std.proofs.lemmas.Bool.Decides.{nat_tests}
use Rattle.std.proofs.lemmas.Nat.{div-mul-add}
use Rattle.site_model.specs.declared.sight.Sight.{Sight}
use Rattle.run_meaning.proofs.Lists.{get_front, get_of_map, within}
use Rattle.site_audit.specs.Spots.{kind_of, kind_spot, own_spot, sight_spot, spots_of, track_at}
use Rattle.site_audit.specs.Tracks.{is_earlier, same_track, track_of}
use Rattle.audit_laws.specs.Types.{EntryLine, Said, Spot}
use Rattle.audit_laws.specs.Orders.{IsEarlierThing}
use Rattle.audit_laws.specs.Retaken.{spots_from}
use Rattle.audit_laws.proofs.Places.{get_behind}

-- ---- spots among all

pub record Stood (spots : List Spot) (y : Spot) : Type 0 where
  pub place : ℕ
  pub is : slice_get spots place ≡ Some y

pub spot_there : (k t j : ℕ) (xs : List EntryLine) (ss : List Said) (x : EntryLine) (s : Said) (y : Spot) → slice_get xs t ≡ Some x → slice_get ss t ≡ Some s → slice_get (spots_of (k + t) x s) j ≡ Some y → Stood (spots_from k xs ss) y
spot_there k t j [] ss x s y h g e = absurd cc
spot_there k t j (z ∷ xs) [] x s y h g e = absurd cc
spot_there k zero j (z ∷ xs) (r ∷ ss) x s y h g e =
    let same : z ≡ x = cc in
    let said : r ≡ s = cc in
    let n : k + 0 ≡ k = omega arith in
    let here : slice_get (spots_of k z r) j ≡ Some y = ap (λ v. slice_get (spots_of k v r) j) same ∙ (ap (λ v. slice_get (spots_of k x v) j) said ∙ (sym (ap (λ v. slice_get (spots_of v x s) j) n) ∙ e)) in
    record { place = j; is = get_front (spots_of k z r) (spots_from (suc k) xs ss) j (within (spots_of k z r) j y here) ∙ here }
spot_there k (suc t) j (z ∷ xs) (r ∷ ss) x s y h g e =
    let n : k + suc t ≡ suc k + t = omega arith in
    let m = spot_there (suc k) t j xs ss x s y h g (sym (ap (λ v. slice_get (spots_of v x s) j) n) ∙ e) in
    record { place = length (spots_of k z r) + m.place; is = get_behind (spots_of k z r) (spots_from (suc k) xs ss) m.place ∙ m.is }

-- ---- instants on a track

abbrev pub on_track : ℕ → ℕ → ℕ
on_track track instant = track * 2 ^ 80 + instant

track_is : (track instant thing : ℕ) → instant < 2 ^ 80 → track_of (record { at = on_track track instant; thing = thing }) ≡ track
track_is track instant thing lt = div-mul-add track (2 ^ 80) instant lt

-- of two instants the lower is the earlier
earlier_on : (track i j a b : ℕ) → i < 2 ^ 80 → j < 2 ^ 80 → i < j → is_earlier (record { at = on_track track i; thing = a }) (record { at = on_track track j; thing = b }) ≡ true
earlier_on track i j a b fits gits lt = by (same_track (record { at = on_track track i; thing = a }) (record { at = on_track track j; thing = b })) (eq-eqb _ _ (track_is track i a fits ∙ sym (track_is track j b gits)))
  where
    below : nat_lt (on_track track i) (on_track track j) ≡ true
    below = grind (arith, nat_tests, lt)

    by : (t : Bool) → t ≡ true → (t && nat_lt (on_track track i) (on_track track j)) ≡ true
    by true e = below
    by false e = absurd cc

module _ (xs : List EntryLine) (ss : List Said) (a b : ℕ) (x y : EntryLine) (s r : Said) (x_is : slice_get xs a ≡ Some x) (y_is : slice_get xs b ≡ Some y) (s_is : slice_get ss a ≡ Some s) (r_is : slice_get ss b ≡ Some r) where
  abbrev pub Must : ℕ → ℕ → Type 0
  Must c d = IsEarlierThing (spots_from 0 xs ss) is_earlier (λ z. z.thing) c d

  earlier_spots : (i j : ℕ) (p q : Spot) → slice_get (spots_of (0 + a) x s) i ≡ Some p → slice_get (spots_of (0 + b) y r) j ≡ Some q → p.thing ≡ a → q.thing ≡ b → is_earlier p q ≡ true → Must a b
  earlier_spots i j p q at there first second e =
      let m = spot_there 0 a i xs ss x s p x_is s_is at in
      let n = spot_there 0 b j xs ss y r q y_is r_is there in
      record { first = p; second = q; i = m.place; j = n.place; first_is = m.is; second_is = n.is; earlier = e; a_is = first; b_is = second }

  -- of two entries of one checkable for a caller the one of the lower number
  pub own_own : x.entry.caller ≡ y.entry.caller → x.checkable ≡ y.checkable → x.entry.number < y.entry.number → y.entry.number < 2 ^ 79 → Must a b
  own_own caller same lt fits =
      earlier_spots 1 1 (own_spot (0 + a) x) (own_spot (0 + b) y) refl refl (omega arith) (omega arith)
      (ap (λ n. is_earlier (record { at = n; thing = 0 + a }) (own_spot (0 + b) y)) (ap (λ c. track_at c x.checkable + x.entry.number * 2) caller ∙ ap (λ k. track_at y.entry.caller k + x.entry.number * 2) same)
      ∙ earlier_on (1 + y.entry.caller * 2 ^ 32 + y.checkable) (x.entry.number * 2) (y.entry.number * 2) (0 + a) (0 + b) (omega (arith, lt, fits)) (omega (arith, fits)) (omega (arith, lt)))

  -- an entry that the other has seen
  pub own_sight : (m : ℕ) (v : Sight) → slice_get y.entry.sights m ≡ Some v → x.entry.caller ≡ y.entry.caller → x.checkable ≡ v.checkable → x.entry.number ≤ v.count → v.count < 2 ^ 79 → Must a b
  own_sight m v v_is caller same le fits =
      earlier_spots 1 (suc (suc m)) (own_spot (0 + a) x) (sight_spot (0 + b) y.entry.caller v) refl (get_of_map (sight_spot (0 + b) y.entry.caller) y.entry.sights m v v_is) (omega arith) (omega arith)
      (ap (λ n. is_earlier (record { at = n; thing = 0 + a }) (sight_spot (0 + b) y.entry.caller v)) (ap (λ c. track_at c x.checkable + x.entry.number * 2) caller ∙ ap (λ k. track_at y.entry.caller k + x.entry.number * 2) same)
      ∙ (ap (λ n. is_earlier (record { at = on_track (1 + y.entry.caller * 2 ^ 32 + v.checkable) (x.entry.number * 2); thing = 0 + a }) (record { at = n; thing = 0 + b })) (tail (track_at y.entry.caller v.checkable) (v.count * 2))
      ∙ earlier_on (1 + y.entry.caller * 2 ^ 32 + v.checkable) (x.entry.number * 2) (v.count * 2 + 1) (0 + a) (0 + b) (omega (arith, le, fits)) (omega (arith, fits)) (omega (arith, le))))
    where
      tail : (t c : ℕ) → t + c + 1 ≡ t + (c + 1)
      tail t c = omega arith

  -- an entry that has not seen the other
  pub sight_own : (m : ℕ) (v : Sight) → slice_get x.entry.sights m ≡ Some v → x.entry.caller ≡ y.entry.caller → y.checkable ≡ v.checkable → v.count < y.entry.number → y.entry.number < 2 ^ 79 → Must a b
  sight_own m v v_is caller same lt fits =
      earlier_spots (suc (suc m)) 1 (sight_spot (0 + a) x.entry.caller v) (own_spot (0 + b) y) (get_of_map (sight_spot (0 + a) x.entry.caller) x.entry.sights m v v_is) refl (omega arith) (omega arith)
      (ap (λ n. is_earlier (sight_spot (0 + a) x.entry.caller v) (record { at = n; thing = 0 + b })) (ap (λ c. track_at c y.checkable + y.entry.number * 2) (sym caller) ∙ ap (λ k. track_at x.entry.caller k + y.entry.number * 2) same)
      ∙ (ap (λ n. is_earlier (record { at = n; thing = 0 + a }) (record { at = on_track (1 + x.entry.caller * 2 ^ 32 + v.checkable) (y.entry.number * 2); thing = 0 + b })) (tail (track_at x.entry.caller v.checkable) (v.count * 2))
      ∙ earlier_on (1 + x.entry.caller * 2 ^ 32 + v.checkable) (v.count * 2 + 1) (y.entry.number * 2) (0 + a) (0 + b) (omega (arith, lt, fits)) (omega (arith, fits)) (omega (arith, lt))))
    where
      tail : (t c : ℕ) → t + c + 1 ≡ t + (c + 1)
      tail t c = omega arith

  -- of two that have seen a checkable the one that has seen less
  pub sight_sight : (m n : ℕ) (v w : Sight) → slice_get x.entry.sights m ≡ Some v → slice_get y.entry.sights n ≡ Some w → x.entry.caller ≡ y.entry.caller → v.checkable ≡ w.checkable → v.count < w.count → w.count < 2 ^ 79 → Must a b
  sight_sight m n v w v_is w_is caller same lt fits =
      earlier_spots (suc (suc m)) (suc (suc n)) (sight_spot (0 + a) x.entry.caller v) (sight_spot (0 + b) y.entry.caller w) (get_of_map (sight_spot (0 + a) x.entry.caller) x.entry.sights m v v_is) (get_of_map (sight_spot (0 + b) y.entry.caller) y.entry.sights n w w_is) (omega arith) (omega arith)
      (ap (λ n. is_earlier (record { at = n; thing = 0 + a }) (sight_spot (0 + b) y.entry.caller w)) (ap (λ c. track_at c v.checkable + v.count * 2 + 1) caller ∙ (ap (λ k. track_at y.entry.caller k + v.count * 2 + 1) same ∙ tail (track_at y.entry.caller w.checkable) (v.count * 2)))
      ∙ (ap (λ n. is_earlier (record { at = on_track (1 + y.entry.caller * 2 ^ 32 + w.checkable) (v.count * 2 + 1); thing = 0 + a }) (record { at = n; thing = 0 + b })) (tail (track_at y.entry.caller w.checkable) (w.count * 2))
      ∙ earlier_on (1 + y.entry.caller * 2 ^ 32 + w.checkable) (v.count * 2 + 1) (w.count * 2 + 1) (0 + a) (0 + b) (omega (arith, lt, fits)) (omega (arith, fits)) (omega (arith, lt))))
    where
      tail : (t c : ℕ) → t + c + 1 ≡ t + (c + 1)
      tail t c = omega arith

  -- of two entries the one of an earlier caller, or of an earlier kind
  pub kind_kind : x.entry.caller * 2 ^ 66 + kind_of x.checkable s < y.entry.caller * 2 ^ 66 + kind_of y.checkable r → y.entry.caller * 2 ^ 66 + kind_of y.checkable r < 2 ^ 80 → Must a b
  kind_kind lt fits =
      earlier_spots 0 0 (kind_spot (0 + a) x s) (kind_spot (0 + b) y r) refl refl (omega arith) (omega arith)
      (ap (λ n. is_earlier (record { at = n; thing = 0 + a }) (kind_spot (0 + b) y r)) (first_track (x.entry.caller * 2 ^ 66 + kind_of x.checkable s))
      ∙ (ap (λ n. is_earlier (record { at = on_track 0 (x.entry.caller * 2 ^ 66 + kind_of x.checkable s); thing = 0 + a }) (record { at = n; thing = 0 + b })) (first_track (y.entry.caller * 2 ^ 66 + kind_of y.checkable r))
      ∙ earlier_on 0 (x.entry.caller * 2 ^ 66 + kind_of x.checkable s) (y.entry.caller * 2 ^ 66 + kind_of y.checkable r) (0 + a) (0 + b) (omega (arith, lt, fits)) fits lt))
    where
      first_track : (n : ℕ) → n ≡ on_track 0 n
      first_track n = omega arith
