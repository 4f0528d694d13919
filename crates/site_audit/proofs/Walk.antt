-- A walk over spots in order, with the gates behind them.
use Rattle.std.proofs.Common.{◌≡◌, ◌≢◌, ◌==◌, ◌&&◌, ◌||◌, ◌+◌, ◌<◌, ◌≤◌, ℕ, zero, suc, nat_eq, nat_lt, Bool, true, false, cond, not, List, [], ◌∷◌, ◌++◌, length, refl, sym, ap, ◌∙◌, subst, arith, ◌/◌, ◌^◌, slice_index_or, append_assoc, Option, Some, None, ◌⊎◌, inl, inr}
use Rattle.std.proofs.lemmas.List.Folds.{list_any-append}
use Rattle.std.proofs.lemmas.Bool.{cases_order}
use Rattle.std.specs.List.{AllByRecursion, list_any}
use Rattle.std.specs.List.Sorted.{IsNonDecreasingBy}
use Rattle.site_audit.specs.Order.{stands, blocked}
use Rattle.site_audit.specs.Tracks.{track_of, is_earlier, is_held, waits, low_of, next_of, gate_pairs}
use Rattle.site_audit.specs.declared.tracks.Last.{Last}
use Rattle.site_audit.specs.declared.tracks.Spot.{Spot}
use Rattle.site_audit.proofs.Gates.{eq_is, eq_not, is_eq, not_eq, lt_is, lt_not, is_lt, not_lt, and_false, and_true, or_false, or_not, is_done, lets, lows, free_thing, AreClosed, HasNoGate, settled, closed_later, none_later}

-- Spots in order.

abbrev pub IsUpTo : Spot → Spot → Type 0
IsUpTo a b = ((track_of a) < (track_of b)) ⊎ (((track_of a) ≡ (track_of b)) × (a.at ≤ b.at))

abbrev pub AreSorted : List Spot → Type 0
AreSorted [] = Unit {0}
AreSorted (x ∷ xs) = AllByRecursion (λ b. IsUpTo x b) xs × AreSorted xs

-- spots by their numbers
track_up : (a b : ℕ) → a ≤ b → a / 2 ^ 80 ≤ b / 2 ^ 80
track_up a b l = omega (arith, l)

pub up_to : (a b : Spot) → a.at ≤ b.at → IsUpTo a b
up_to a b l = by (cases_order (track_of a) (track_of b)) (track_up a.at b.at l)
  where
    by : (track_of a ≡ track_of b) ⊎ ((track_of a < track_of b) ⊎ (track_of b < track_of a)) → track_of a ≤ track_of b → IsUpTo a b
    by (inl e) u = inr (e, l)
    by (inr (inl k)) u = inl k
    by (inr (inr k)) u = absurd (omega (arith, k, u))

all_up_to : (x : Spot) (xs : List Spot) → ((k : ℕ) (d : Spot) → k < length xs → x.at ≤ (slice_index_or xs k d).at) → AllByRecursion (λ b. IsUpTo x b) xs
all_up_to x [] h = tt
all_up_to x (y ∷ xs) h = (up_to x y (h zero y (omega arith)), all_up_to x xs (λ k d w. h (suc k) d (omega (arith, w))))

pub in_order : (xs : List Spot) → IsNonDecreasingBy (λ x. x.at) xs → AreSorted xs
in_order [] h = tt
in_order (x ∷ xs) h =
    (all_up_to x xs (λ k d w. h zero (suc k) d (omega arith) (omega (arith, w))), in_order xs (λ i j d a b. h (suc i) (suc j) d (omega (arith, a)) (omega (arith, b))))

up_to_self : (a : Spot) → IsUpTo a a
up_to_self a = inr (refl, omega arith)

up_to_both : (a b c : Spot) → IsUpTo a b → IsUpTo b c → IsUpTo a c
up_to_both a b c (inl l) (inl k) = inl (omega (arith, l, k))
up_to_both a b c (inl l) (inr k) = let e = k.0 in inl (omega (arith, l, e))
up_to_both a b c (inr l) (inl k) = let e = l.0 in inl (omega (arith, k, e))
up_to_both a b c (inr l) (inr k) = let e = l.1 in let f = k.1 in inr (l.0 ∙ k.0, omega (arith, e, f))

none_of : (P : Spot → Type 0) (f : Spot → Bool) → ((a : Spot) → P a → f a ≡ false) → (xs : List Spot) → AllByRecursion P xs → list_any f xs ≡ false
none_of P f h [] all = refl
none_of P f h (x ∷ xs) all = ap (λ t. t || list_any f xs) (h x all.0) ∙ none_of P f h xs all.1

same_of : (P : Spot → Type 0) (f g : Spot → Bool) → ((a : Spot) → P a → f a ≡ g a) → (xs : List Spot) → AllByRecursion P xs → list_any f xs ≡ list_any g xs
same_of P f g h [] all = refl
same_of P f g h (x ∷ xs) all = ap (λ t. t || list_any f xs) (h x all.0) ∙ ap (λ t. g x || t) (same_of P f g h xs all.1)

all_of : (P Q : Spot → Type 0) → ((a : Spot) → P a → Q a) → (xs : List Spot) → AllByRecursion P xs → AllByRecursion Q xs
all_of P Q h [] all = tt
all_of P Q h (x ∷ xs) all = (h x all.0, all_of P Q h xs all.1)

all_more : (P : Spot → Type 0) (xs : List Spot) (x : Spot) → AllByRecursion P xs → P x → AllByRecursion P (xs ++ x ∷ [])
all_more P [] x all h = (h, tt)
all_more P (y ∷ xs) x all h = (all.0, all_more P xs x all.1 h)

-- of three tests
apart : (a b c : Bool) → a ≡ false → ((a && b) && c) ≡ false
apart a b c e = ap (λ t. (t && b) && c) e

not_before : (a b c : Bool) → b ≡ false → ((a && b) && c) ≡ false
not_before a b c e = ap (λ t. (a && t) && c) e ∙ ap (λ t. t && c) (and_false a)

module _ (D : List ℕ) (m : ℕ) where
  abbrev left : Spot → Bool
  left a = not (stands D (m + a.thing))

  abbrev on_track : ℕ → List Spot → Bool
  on_track t pre = list_any (λ a. nat_eq (track_of a) t && left a) pre

  abbrev earlier : Spot → List Spot → Bool
  earlier x pre = list_any (λ a. is_earlier a x && left a) pre

  not_earlier : (x b : Spot) → IsUpTo x b → (is_earlier b x && left b) ≡ false
  not_earlier x b (inl l) = apart (nat_eq (track_of b) (track_of x)) (nat_lt b.at x.at) (left b) (not_eq (track_of b) (track_of x) (λ e. absurd (omega (arith, e, l))))
  not_earlier x b (inr l) = let k = l.1 in not_before (nat_eq (track_of b) (track_of x)) (nat_lt b.at x.at) (left b) (not_lt b.at x.at k)

  whole_earlier : (x : Spot) (pre xs : List Spot) → AllByRecursion (λ b. IsUpTo x b) xs → earlier x (pre ++ x ∷ xs) ≡ earlier x pre
  whole_earlier x pre xs all =
      list_any-append (λ a. is_earlier a x && left a) pre (x ∷ xs)
      ∙ (ap (λ t. earlier x pre || t) (none_of (λ b. IsUpTo x b) (λ a. is_earlier a x && left a) (not_earlier x) (x ∷ xs) (up_to_self x, all)) ∙ or_false (earlier x pre))

  -- what the last spot, with the gate behind it, tells of all spots so far
  record IsBehind (pre : List Spot) (g : ℕ) (l : Last) : Type 0 where
    gate : stands D g ≡ not (on_track (track_of l.spot) pre)
    low : is_done D l.low ≡ not (earlier l.spot pre)
    sorted : AllByRecursion (λ a. IsUpTo a l.spot) pre

  abbrev Behind : List Spot → ℕ → Option Last → Type 0
  Behind pre zero None = pre ≡ []
  Behind pre zero (Some l) = ⊥
  Behind pre (suc g) None = ⊥
  Behind pre (suc g) (Some l) = IsBehind pre g l

  abbrev IsNext : Option Last → Spot → Type 0
  IsNext None x = Unit {0}
  IsNext (Some l) x = IsUpTo l.spot x

  module _ (l : Last) (x : Spot) (up : IsUpTo l.spot x) where
    further : (track_of l.spot) ≢ (track_of x) → (track_of l.spot) < (track_of x)
    further h = by up
      where
        by : IsUpTo l.spot x → (track_of l.spot) < (track_of x)
        by (inl k) = k
        by (inr k) = absurd (h k.0)

    -- nothing so far is on a track that begins
    new_track : (track_of l.spot) ≢ (track_of x) → (a : Spot) → IsUpTo a l.spot → nat_eq (track_of a) (track_of x) ≡ false
    new_track h a (inl k) = let f = further h in not_eq (track_of a) (track_of x) (λ e. absurd (omega (arith, e, k, f)))
    new_track h a (inr k) = let f = further h in let s = k.0 in not_eq (track_of a) (track_of x) (λ e. absurd (omega (arith, e, s, f)))

    -- on a track that goes on at a later instant all so far are earlier
    all_earlier : (track_of l.spot) ≡ (track_of x) → l.spot.at < x.at → (a : Spot) → IsUpTo a l.spot → (nat_eq (track_of a) (track_of l.spot) && left a) ≡ (is_earlier a x && left a)
    all_earlier same lt a u = by (nat_eq (track_of a) (track_of x)) refl u
      where
        start : (nat_eq (track_of a) (track_of l.spot) && left a) ≡ (nat_eq (track_of a) (track_of x) && left a)
        start = ap (λ t. nat_eq (track_of a) t && left a) same

        by : (t : Bool) → nat_eq (track_of a) (track_of x) ≡ t → IsUpTo a l.spot → (nat_eq (track_of a) (track_of l.spot) && left a) ≡ ((nat_eq (track_of a) (track_of x) && nat_lt a.at x.at) && left a)
        by false e w = start ∙ (ap (λ t. t && left a) e ∙ sym (apart (nat_eq (track_of a) (track_of x)) (nat_lt a.at x.at) (left a) e))
        by true e (inl k) = let s = eq_is (track_of a) (track_of x) e in absurd (omega (arith, k, s, same))
        by true e (inr k) = let i = k.1 in
            start ∙ ap (λ t. t && left a) (sym (ap (λ t. nat_eq (track_of a) (track_of x) && t) (is_lt a.at x.at (omega (arith, i, lt))) ∙ and_true (nat_eq (track_of a) (track_of x))))

    same_instant : (track_of l.spot) ≡ (track_of x) → nat_lt l.spot.at x.at ≡ false → l.spot.at ≡ x.at
    same_instant same e = let b = lt_not l.spot.at x.at e in by up b
      where
        by : IsUpTo l.spot x → x.at ≤ l.spot.at → l.spot.at ≡ x.at
        by (inl k) b = absurd (omega (arith, k, same))
        by (inr k) b = let i = k.1 in omega (arith, i, b)

  -- the gate for which a spot waits is open where nothing earlier is left
  low_is : (pre : List Spot) (i : ℕ) (last : Option Last) (x : Spot) → Behind pre i last → IsNext last x → is_done D (low_of last i x) ≡ not (earlier x pre)
  low_is pre zero None x h up = sym (ap (λ ps. not (earlier x ps)) h)
  low_is pre zero (Some l) x h up = elim h [ ]
  low_is pre (suc g) None x h up = elim h [ ]
  low_is pre (suc g) (Some l) x h up = by (nat_eq (track_of l.spot) (track_of x)) refl (nat_lt l.spot.at x.at) refl
    where
      by : (t : Bool) → nat_eq (track_of l.spot) (track_of x) ≡ t → (s : Bool) → nat_lt l.spot.at x.at ≡ s → is_done D (cond t (cond s (Some g) l.low) None) ≡ not (earlier x pre)
      by false e s f =
          let other = eq_not (track_of l.spot) (track_of x) e in
          sym (ap not (none_of (λ a. IsUpTo a l.spot) (λ a. is_earlier a x && left a) (λ a u. apart (nat_eq (track_of a) (track_of x)) (nat_lt a.at x.at) (left a) (new_track l x up other a u)) pre h.sorted))
      by true e true f =
          h.gate ∙ ap not (same_of (λ a. IsUpTo a l.spot) (λ a. nat_eq (track_of a) (track_of l.spot) && left a) (λ a. is_earlier a x && left a) (all_earlier l x up (eq_is (track_of l.spot) (track_of x) e) (lt_is l.spot.at x.at f)) pre h.sorted)
      by true e false f =
          let same = eq_is (track_of l.spot) (track_of x) e in
          h.low ∙ (ap (λ t. not (list_any (λ a. (nat_eq (track_of a) t && nat_lt a.at l.spot.at) && left a) pre)) same
          ∙ ap (λ n. not (list_any (λ a. (nat_eq (track_of a) (track_of x) && nat_lt a.at n) && left a) pre)) (same_instant l x up same f))

  -- and the one before its own where nothing on its track is
  next_is : (pre : List Spot) (i : ℕ) (last : Option Last) (x : Spot) → Behind pre i last → IsNext last x → is_done D (next_of last i x) ≡ not (on_track (track_of x) pre)
  next_is pre zero None x h up = sym (ap (λ ps. not (on_track (track_of x) ps)) h)
  next_is pre zero (Some l) x h up = elim h [ ]
  next_is pre (suc g) None x h up = elim h [ ]
  next_is pre (suc g) (Some l) x h up = by (nat_eq (track_of l.spot) (track_of x)) refl
    where
      by : (t : Bool) → nat_eq (track_of l.spot) (track_of x) ≡ t → is_done D (cond t (Some g) None) ≡ not (on_track (track_of x) pre)
      by false e =
          let other = eq_not (track_of l.spot) (track_of x) e in
          sym (ap not (none_of (λ a. IsUpTo a l.spot) (λ a. nat_eq (track_of a) (track_of x) && left a) (λ a u. ap (λ t. t && left a) (new_track l x up other a u)) pre h.sorted))
      by true e = h.gate ∙ ap (λ t. not (on_track t pre)) (eq_is (track_of l.spot) (track_of x) e)

  sorted_more : (pre : List Spot) (i : ℕ) (last : Option Last) (x : Spot) → Behind pre i last → IsNext last x → AllByRecursion (λ a. IsUpTo a x) (pre ++ x ∷ [])
  sorted_more pre zero None x h up = subst (λ ps. AllByRecursion (λ a. IsUpTo a x) (ps ++ x ∷ [])) (sym h) (up_to_self x, tt)
  sorted_more pre zero (Some l) x h up = elim h [ ]
  sorted_more pre (suc g) None x h up = elim h [ ]
  sorted_more pre (suc g) (Some l) x h up = all_more (λ a. IsUpTo a x) pre x (all_of (λ a. IsUpTo a l.spot) (λ a. IsUpTo a x) (λ a u. up_to_both a l.spot x u up) pre h.sorted) (up_to_self x)

  behind_next : (pre : List Spot) (i : ℕ) (last : Option Last) (x : Spot) → Behind pre i last → IsNext last x → stands D i ≡ (is_done D (next_of last i x) && stands D (m + x.thing)) → IsBehind (pre ++ x ∷ []) i (record { spot = x; low = low_of last i x })
  behind_next pre i last x h up own = record {
    gate = own
        ∙ (ap (λ t. t && stands D (m + x.thing)) (next_is pre i last x h up)
        ∙ sym (ap not (list_any-append (λ a. nat_eq (track_of a) (track_of x) && left a) pre (x ∷ []) ∙ ap (λ t. on_track (track_of x) pre || ((t && left x) || false)) (is_eq (track_of x) (track_of x) refl)) ∙ both (on_track (track_of x) pre) (stands D (m + x.thing))));
    low = low_is pre i last x h up ∙ ap not (sym (whole_earlier x pre [] tt));
    sorted = sorted_more pre i last x h up;
  }
    where
      both : (a s : Bool) → not (a || (not s || false)) ≡ (not a && s)
      both true s = refl
      both false true = refl
      both false false = refl

  -- so a thing waits for no gate exactly where nothing earlier is left
  walk : (k i : ℕ) (last : Option Last) (pre xs whole : List Spot) → i + length xs ≤ m → AreClosed D (gate_pairs m i last xs) → HasNoGate D m i (gate_pairs m i last xs) → Behind pre i last
      → AllByRecursion (λ x. IsNext last x) xs → AreSorted xs → pre ++ xs ≡ whole
      → lows D m k i last xs ≡ (not (stands D (m + k)) && not (list_any (λ b. nat_eq b.thing k && earlier b whole) xs))
  walk k i last pre [] whole within closed none h next sorted is = sym (and_true (not (stands D (m + k))))
  walk k i last pre (x ∷ xs) whole within closed none h next sorted is =
      ap (λ t. lets D x.thing k t && lows D m k (suc i) (Some now) xs) (low_is pre i last x h next.0 ∙ ap not (sym (whole_earlier x pre xs sorted.0) ∙ ap (earlier x) is))
      ∙ (ap (λ t. lets D x.thing k (not (earlier x whole)) && t)
      (walk k (suc i) (Some now) (pre ++ x ∷ []) xs whole (omega (arith, within)) (closed_later D m i last x xs within closed) (none_later D m i last x xs within none)
      (behind_next pre i last x h next.0 (settled D m i last x xs within closed none)) sorted.0 sorted.1 (append_assoc pre (x ∷ []) xs ∙ is))
      ∙ both (nat_eq x.thing k) (earlier x whole) (not (stands D (m + k))) (list_any (λ b. nat_eq b.thing k && earlier b whole) xs))
    where
      now : Last
      now = record { spot = x; low = low_of last i x }

      both : (t e n r : Bool) → (not (t && not (not e)) && (n && not r)) ≡ (n && not ((t && e) || r))
      both true true n r = sym (and_false n)
      both true false n r = refl
      both false e n r = refl

all_next : (xs : List Spot) → AllByRecursion (λ x. Unit {0}) xs
all_next [] = tt
all_next (x ∷ xs) = (tt, all_next xs)

-- a thing is free among gates where it waits for none
pub thing_free : (D E : List ℕ) (s : List Spot) (k : ℕ) → AreSorted s → AreClosed D (gate_pairs (length s) 0 None s) → HasNoGate D (length s) 0 (gate_pairs (length s) 0 None s)
    → ((i : ℕ) → stands D (length s + i) ≡ stands E i) → (blocked D (gate_pairs (length s) 0 None s) (length s + k) == 0) ≡ not (waits s E k)
thing_free D E s k sorted closed none same =
    let m = length s in
    free_thing D m k 0 None s (omega arith)
    ∙ (walk D m k 0 None [] s s (omega arith) closed none refl (all_next s) sorted refl
    ∙ (ap (λ (f : ℕ → Bool). not (f k) && not (list_any (λ b. nat_eq b.thing k && list_any (λ a. is_earlier a b && not (f a.thing)) s) s)) (λ i n. same n i)
    ∙ sym (or_not (stands E k) (list_any (λ b. nat_eq b.thing k && is_held s E b) s))))
