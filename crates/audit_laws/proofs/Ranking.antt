-- Where things have ranks, and what must stand before another has a lower one, all can be taken.
use Rattle.std.proofs.Common.{◌≡◌, ◌<◌, ◌&&◌, ◌||◌, ℕ, zero, suc, nat_eq, Bool, true, false, not, List, [], ◌∷◌, slice_get, refl, sym, ◌∙◌, arith, Some, true≢false}
use Rattle.std.specs.List.{list_any}
use Rattle.site_audit.specs.Order.{stands}
use Rattle.site_audit.specs.Tracks.{is_earlier, taken_in}
use Rattle.audit_laws.specs.Types.{Spot}
use Rattle.audit_laws.specs.Orders.{IsEarlierThing}
use Rattle.audit_laws.proofs.Ordering.{eq_is, false_or, not_is, takes_where_free}
use Rattle.audit_laws.proofs.Retaking.{both_true}
use Rattle.audit_laws.proofs.Tracking.{held_at, same_all, waiting, waits_at}

-- one passes, where some does
record Found {S : Type 0} (test : S → Bool) (xs : List S) : Type 0 where
  i : ℕ
  x : S
  at : slice_get xs i ≡ Some x
  passes : test x ≡ true

any_some : {S : Type 0} (test : S → Bool) (xs : List S) → list_any test xs ≡ true → Found test xs
any_some test [] e = absurd (true≢false (sym e))
any_some test (y ∷ ys) e = by (test y) refl e (any_some test ys)
  where
    by : (t : Bool) → test y ≡ t → (t || list_any test ys) ≡ true → (list_any test ys ≡ true → Found test ys) → Found test (y ∷ ys)
    by true q e more = record { i = 0; x = y; at = refl; passes = q }
    by false q e more = let m = more e in record { i = suc m.i; x = m.x; at = m.at; passes = m.passes }

module _ (spots : List Spot) (count : ℕ) (within : (i : ℕ) (y : Spot) → slice_get spots i ≡ Some y → y.thing < count) (Ranked : ℕ → ℕ → Type 0) (each : (t : ℕ) → t < count → (n : ℕ) × Ranked t n) (below : (a b m n : ℕ) → IsEarlierThing spots is_earlier (λ z. z.thing) a b → Ranked a m → Ranked b n → m < n) where
  abbrev waits : List ℕ → ℕ → Bool
  waits = waits_at spots is_earlier (λ z. z.thing)

  -- what a thing waits for
  record IsHeld (done : List ℕ) (t : ℕ) : Type 0 where
    a : ℕ
    must : IsEarlierThing spots is_earlier (λ z. z.thing) a t
    left : stands done a ≡ false
    inside : a < count

  held : (done : List ℕ) (t : ℕ) → stands done t ≡ false → waits done t ≡ true → IsHeld done t
  held done t left e =
      let any : list_any (λ b. nat_eq b.thing t && held_at spots is_earlier (λ z. z.thing) done b) spots ≡ true = false_or (stands done t) (list_any (λ b. nat_eq b.thing t && held_at spots is_earlier (λ z. z.thing) done b) spots) left e in
      let b = any_some (λ b. nat_eq b.thing t && held_at spots is_earlier (λ z. z.thing) done b) spots any in
      let p = both_true (nat_eq b.x.thing t) (held_at spots is_earlier (λ z. z.thing) done b.x) b.passes in
      let a = any_some (λ a. is_earlier a b.x && not (stands done a.thing)) spots p.1 in
      let q = both_true (is_earlier a.x b.x) (not (stands done a.x.thing)) a.passes in
      record {
        a = a.x.thing;
        must = record { first = a.x; second = b.x; i = a.i; j = b.i; first_is = a.at; second_is = b.at; earlier = q.0; a_is = refl; b_is = eq_is b.x.thing t p.0 };
        left = not_is (stands done a.x.thing) q.1;
        inside = within a.i a.x a.at;
      }

  free_below : (bound t n : ℕ) (done : List ℕ) → Ranked t n → n < bound → t < count → stands done t ≡ false → (j : ℕ) × (j < count) × (waits done j ≡ false)
  free_below zero t n done r lt inside left = absurd (omega (arith, lt))
  free_below (suc bound) t n done r lt inside left = by (waits done t) refl (λ a m. free_below bound a m done)
    where
      by : (w : Bool) → waits done t ≡ w → ((a m : ℕ) → Ranked a m → m < bound → a < count → stands done a ≡ false → (j : ℕ) × (j < count) × (waits done j ≡ false)) → (j : ℕ) × (j < count) × (waits done j ≡ false)
      by false e more = (t, inside, e)
      by true e more =
          let h = held done t left e in
          let g = each h.a h.inside in
          let lower = below h.a t g.0 n h.must g.1 r in
          more h.a g.0 g.1 (omega (arith, lower, lt)) h.inside h.left

  pub taken_by_rank : (told : List ℕ) × (taken_in count spots ≡ Some told)
  taken_by_rank =
      let all =
      takes_where_free (IsEarlierThing spots is_earlier (λ z. z.thing)) waits (waiting spots is_earlier (λ z. z.thing)) count
      (λ done k lt left. let g = each k lt in free_below (suc g.0) k g.0 done g.1 (omega arith) lt left) in
      (all.0, same_all count spots ∙ all.1)
