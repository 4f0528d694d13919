-- What stands on tracks is taken in order.
use Rattle.std.proofs.Common.{◌≡◌, ◌<◌, ◌&&◌, ◌||◌, All, ℕ, zero, suc, nat_eq, Bool, true, false, not, List, [], ◌∷◌, ◌++◌, filter, slice_get, refl, sym, ap, ◌∙◌, subst, arith, Some, None, true≢false}
use Rattle.std.proofs.lemmas.Bool.Decides.{nat_tests}
use Rattle.std.proofs.lemmas.List.Elements.{recursion_from_All}
use Rattle.std.specs.List.{AllByRecursion, list_any}
use Rattle.run_meaning.specs.Turns.{from_on}
use Rattle.site_audit.specs.Order.{all_or_none, stands, taken_next}
use Rattle.audit_laws.specs.Orders.{all_taken, AreWithin, IsEarlierThing, IsOrder, IsWaiting, taken_so}
use Rattle.site_audit.specs.Tracks.{is_earlier, taken_from, taken_in}
use Rattle.audit_laws.proofs.Ordering.{takes_all, takes_in_order}

eq_is : (a b : ℕ) → nat_eq a b ≡ true → a ≡ b
eq_is a b e = grind (arith, nat_tests, e)

is_eq : (a b : ℕ) → a ≡ b → nat_eq a b ≡ true
is_eq a b e = grind (arith, nat_tests, e)

or_false : (a b : Bool) → (a || b) ≡ false → (a ≡ false) × (b ≡ false)
or_false true b e = absurd (true≢false e)
or_false false b e = (refl, e)

-- none passes, where no one does
any_none : {S : Type 0} (test : S → Bool) (xs : List S) → ((i : ℕ) (x : S) → slice_get xs i ≡ Some x → test x ≡ false) → list_any test xs ≡ false
any_none test [] h = refl
any_none test (x ∷ xs) h = ap (λ t. t || list_any test xs) (h 0 x refl) ∙ any_none test xs (λ i y e. h (suc i) y e)

head_is : {S : Type 0} (x y : S) → Some x ≡ Some y → x ≡ y
head_is x y e = cc

-- and no one does, where none passes
none_any : {S : Type 0} (test : S → Bool) (xs : List S) (i : ℕ) (x : S) → list_any test xs ≡ false → slice_get xs i ≡ Some x → test x ≡ false
none_any test [] i x e at = absurd (let f : None ≡ Some x = at in cc)
none_any test (y ∷ xs) zero x e at = ap test (sym (head_is y x at)) ∙ (or_false (test y) (list_any test xs) e).0
none_any test (y ∷ xs) (suc i) x e at = none_any test xs i x (or_false (test y) (list_any test xs) e).1 at

at_of : {S : Type 0} (P : S → Type 0) (xs : List S) (i : ℕ) (x : S) → AllByRecursion P xs → slice_get xs i ≡ Some x → P x
at_of P [] i x h e = absurd (let f : None ≡ Some x = e in cc)
at_of P (y ∷ xs) zero x h e = subst P (head_is y x e) h.0
at_of P (y ∷ xs) (suc i) x h e = at_of P xs i x h.1 e

module _ {S : Type 0} (spots : List S) (is_earlier : S → S → Bool) (thing : S → ℕ) where
  -- whether one that is left stands earlier than a spot, and whether a thing waits
  abbrev pub held_at : List ℕ → S → Bool
  held_at done b = list_any (λ a. is_earlier a b && not (stands done (thing a))) spots

  abbrev pub waits_at : List ℕ → ℕ → Bool
  waits_at done k = stands done k || list_any (λ b. nat_eq (thing b) k && held_at done b) spots

  abbrev Must : ℕ → ℕ → Type 0
  Must a b = IsEarlierThing spots is_earlier thing a b

  left_there : (done : List ℕ) (k : ℕ) → waits_at done k ≡ false → stands done k ≡ false
  left_there done k e = (or_false (stands done k) (list_any (λ b. nat_eq (thing b) k && held_at done b) spots) e).0

  stands_so : (t : Bool) → (true && not t) ≡ false → t ≡ true
  stands_so true e = refl
  stands_so false e = absurd (true≢false e)

  ready_there : (done : List ℕ) (a k : ℕ) → waits_at done k ≡ false → Must a k → stands done a ≡ true
  ready_there done a k e m =
      let here : (nat_eq (thing m.second) k && held_at done m.second) ≡ false = none_any (λ b. nat_eq (thing b) k && held_at done b) spots m.j m.second (or_false (stands done k) (list_any (λ b. nat_eq (thing b) k && held_at done b) spots) e).1 m.second_is in
      let held : held_at done m.second ≡ false = sym (ap (λ t. t && held_at done m.second) (is_eq (thing m.second) k m.b_is)) ∙ here in
      let one : (is_earlier m.first m.second && not (stands done (thing m.first))) ≡ false = none_any (λ x. is_earlier x m.second && not (stands done (thing x))) spots m.i m.first held m.first_is in
      sym (ap (stands done) m.a_is) ∙ stands_so (stands done (thing m.first)) (sym (ap (λ t. t && not (stands done (thing m.first))) m.earlier) ∙ one)

  free_there : (done : List ℕ) (k : ℕ) → stands done k ≡ false → ((a : ℕ) → Must a k → stands done a ≡ true) → waits_at done k ≡ false
  free_there done k left all = ap (λ t. t || list_any (λ b. nat_eq (thing b) k && held_at done b) spots) left ∙ any_none (λ b. nat_eq (thing b) k && held_at done b) spots each
    where
      earlier : (j i : ℕ) (b x : S) → slice_get spots j ≡ Some b → nat_eq (thing b) k ≡ true → slice_get spots i ≡ Some x → (t : Bool) → is_earlier x b ≡ t → (t && not (stands done (thing x))) ≡ false
      earlier j i b x at same there true e =
          ap not (all (thing x) (record { first = x; second = b; i = i; j = j; first_is = there; second_is = at; earlier = e; a_is = refl; b_is = eq_is (thing b) k same }))
      earlier j i b x at same there false e = refl

      of_spot : (j : ℕ) (b : S) → slice_get spots j ≡ Some b → (t : Bool) → nat_eq (thing b) k ≡ t → (t && held_at done b) ≡ false
      of_spot j b at true same = any_none (λ x. is_earlier x b && not (stands done (thing x))) spots (λ i x there. earlier j i b x at same there (is_earlier x b) refl)
      of_spot j b at false same = refl

      each : (j : ℕ) (b : S) → slice_get spots j ≡ Some b → (nat_eq (thing b) k && held_at done b) ≡ false
      each j b at = of_spot j b at (nat_eq (thing b) k) refl

  pub waiting : IsWaiting (λ a b. IsEarlierThing spots is_earlier thing a b) (λ done k. waits_at done k)
  waiting = record { left = left_there; ready = ready_there; free = free_there }

  within : (count : ℕ) → All (λ x. thing x < count) spots → AreWithin (λ a b. IsEarlierThing spots is_earlier thing a b) count
  within count h a b m = subst (λ n. n < count) m.b_is (at_of (λ x. thing x < count) spots m.j m.second (recursion_from_All (λ x. thing x < count) spots h) m.second_is)

same_taken : (most count : ℕ) (spots : _) (done : List ℕ) → taken_from most count spots done ≡ taken_so (waits_at spots is_earlier (λ x. x.thing)) most count done
same_taken zero count spots done = refl
same_taken (suc most) count spots done = by (filter (λ k. not (waits_at spots is_earlier (λ x. x.thing) done k)) (from_on 0 count)) (λ more. same_taken most count spots more)
  where
    by : (ks : List ℕ) → ((more : List ℕ) → taken_from most count spots more ≡ taken_so (waits_at spots is_earlier (λ x. x.thing)) most count more)
        → taken_next (taken_from most count spots) done ks ≡ taken_next (taken_so (waits_at spots is_earlier (λ x. x.thing)) most count) done ks
    by [] again = refl
    by (k ∷ ks) again = again (done ++ k ∷ [])

pub same_all : (count : ℕ) (spots : _) → taken_in count spots ≡ all_taken (waits_at spots is_earlier (λ x. x.thing)) count
unfolding taken_in
same_all count spots = ap (all_or_none count) (same_taken count count spots [])

pub tracks_meet : (count : ℕ) (spots : _) (told : List ℕ) → taken_in count spots ≡ Some told → All (λ x. x.thing < count) spots → IsOrder (IsEarlierThing spots is_earlier (λ x. x.thing)) count told
tracks_meet count spots told e h =
    takes_in_order (IsEarlierThing spots is_earlier (λ x. x.thing)) (waits_at spots is_earlier (λ x. x.thing)) (waiting spots is_earlier (λ x. x.thing)) count told (within spots is_earlier (λ x. x.thing) count h)
    (sym (same_all count spots) ∙ e)

pub tracks_take : (count : ℕ) (spots : _) (order : List ℕ) → IsOrder (IsEarlierThing spots is_earlier (λ x. x.thing)) count order → (told : List ℕ) × (taken_in count spots ≡ Some told)
tracks_take count spots order o =
    let all = takes_all (IsEarlierThing spots is_earlier (λ x. x.thing)) (waits_at spots is_earlier (λ x. x.thing)) (waiting spots is_earlier (λ x. x.thing)) count order o in
    (all.0, same_all count spots ∙ all.1)
