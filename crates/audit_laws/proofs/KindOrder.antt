-- Events whose kinds never fall are those of a turn, kind by kind.
use Rattle.std.proofs.Common.{◌≡◌, ◌<◌, ◌≤◌, ℕ, nat_eq, nat_lt, not, Bool, true, false, cond, List, [], ◌∷◌, ◌++◌, filter, refl, sym, ap, ◌∙◌, subst, arith, append-nil, eq-eqb, eqb-true, true≢false}
use Rattle.std.proofs.lemmas.Bool.Decides.{nat_tests}
use Rattle.std.proofs.lemmas.List.Elements.{filter-append}
use Rattle.std.specs.List.{AllByRecursion}
use Rattle.site_model.specs.declared.event.Event.{Event}
use Rattle.run_meaning.specs.Rounds.{events_on}
use Rattle.run_meaning.specs.Turns.{Asked}
use Rattle.audit_laws.specs.Kinds.{AllRise, AreAsInTurn, AreOfTurn, AreSameOnEach, NeverFall}

-- ---- filters

below_is : (a q : ℕ) → a < q → nat_lt a q ≡ true
below_is a q lt = grind (arith, nat_tests, lt)

above_is : (a q : ℕ) → q ≤ a → nat_lt a q ≡ false
above_is a q le = grind (arith, nat_tests, le)

is_below : (a q : ℕ) → nat_lt a q ≡ true → a < q
is_below a q e = grind (arith, nat_tests, e)

is_above : (a q : ℕ) → nat_lt a q ≡ false → q ≤ a
is_above a q e = grind (arith, nat_tests, e)

all_pass : (test : Asked → Bool) (xs : List Asked) → AllByRecursion (λ a. test a ≡ true) xs → filter test xs ≡ xs
all_pass test [] h = refl
all_pass test (x ∷ xs) h = ap (λ t. cond t (x ∷ filter test xs) (filter test xs)) h.0 ∙ ap (λ zs. x ∷ zs) (all_pass test xs h.1)

none_pass : (test : Asked → Bool) (xs : List Asked) → AllByRecursion (λ a. test a ≡ false) xs → filter test xs ≡ []
none_pass test [] h = refl
none_pass test (x ∷ xs) h = ap (λ t. cond t (x ∷ filter test xs) (filter test xs)) h.0 ∙ none_pass test xs h.1

imply : (P Q : Asked → Type 0) → ((a : Asked) → P a → Q a) → (xs : List Asked) → AllByRecursion P xs → AllByRecursion Q xs
imply P Q f [] h = tt
imply P Q f (x ∷ xs) h = (f x h.0, imply P Q f xs h.1)

both : (P : Asked → Type 0) (xs ys : List Asked) → AllByRecursion P xs → AllByRecursion P ys → AllByRecursion P (xs ++ ys)
both P [] ys h g = g
both P (x ∷ xs) ys h g = (h.0, both P xs ys h.1 g)

kept : (P : Asked → Type 0) (test : Asked → Bool) (xs : List Asked) → AllByRecursion P xs → AllByRecursion P (filter test xs)
kept P test [] h = tt
kept P test (x ∷ xs) h = by (test x) (kept P test xs h.1)
  where
    by : (t : Bool) → AllByRecursion P (filter test xs) → AllByRecursion P (cond t (x ∷ filter test xs) (filter test xs))
    by true rest = (h.0, rest)
    by false rest = rest

-- the events on a checkable that pass
on_kept : (test : Asked → Bool) (c : ℕ) (xs : List Asked) → events_on c (filter test xs) ≡ filter (λ e. test (record { checkable = c; event = e })) (events_on c xs)
on_kept test c [] = refl
on_kept test c (x ∷ xs) = by (test x) refl (nat_eq x.checkable c) refl (on_kept test c xs)
  where
    kept_on : List Event
    kept_on = filter (λ e. test (record { checkable = c; event = e })) (events_on c xs)

    here : (t : Bool) → test x ≡ t → nat_eq x.checkable c ≡ true → test (record { checkable = c; event = x.event }) ≡ t
    here t e q = ap (λ k. test (record { checkable = k; event = x.event })) (sym (eqb-true x.checkable c q)) ∙ e

    by : (t : Bool) → test x ≡ t → (u : Bool) → nat_eq x.checkable c ≡ u → events_on c (filter test xs) ≡ kept_on → events_on c (cond t (x ∷ filter test xs) (filter test xs)) ≡ filter (λ e. test (record { checkable = c; event = e })) (cond u (x.event ∷ events_on c xs) (events_on c xs))
    by true e true q ih =
        ap (λ u. cond u (x.event ∷ events_on c (filter test xs)) (events_on c (filter test xs))) q
        ∙ (ap (λ zs. x.event ∷ zs) ih ∙ sym (ap (λ t. cond t (x.event ∷ kept_on) kept_on) (here true e q)))
    by true e false q ih = ap (λ u. cond u (x.event ∷ events_on c (filter test xs)) (events_on c (filter test xs))) q ∙ ih
    by false e true q ih = ih ∙ sym (ap (λ t. cond t (x.event ∷ kept_on) kept_on) (here false e q))
    by false e false q ih = ih

same_kept : (test : Asked → Bool) (xs ys : List Asked) → AreSameOnEach xs ys → AreSameOnEach (filter test xs) (filter test ys)
same_kept test xs ys h = λ c. on_kept test c xs ∙ (ap (filter (λ e. test (record { checkable = c; event = e }))) (h c) ∙ sym (on_kept test c ys))

-- ---- cut at a kind

module _ (kind : Asked → ℕ) where
  abbrev lower : ℕ → Asked → Bool
  lower q a = nat_lt (kind a) q

  abbrev higher : ℕ → Asked → Bool
  higher q a = not (nat_lt (kind a) q)

  fall_kept : (test : Asked → Bool) (xs : List Asked) → NeverFall kind xs → NeverFall kind (filter test xs)
  fall_kept test [] h = tt
  fall_kept test (x ∷ xs) h = by (test x) (kept (λ b. kind x ≤ kind b) test xs h.0) (fall_kept test xs h.1)
    where
      by : (t : Bool) → AllByRecursion (λ b. kind x ≤ kind b) (filter test xs) → NeverFall kind (filter test xs) → NeverFall kind (cond t (x ∷ filter test xs) (filter test xs))
      by true first rest = (first, rest)
      by false first rest = rest

  cut_there : (q : ℕ) (xs : List Asked) → NeverFall kind xs → xs ≡ filter (lower q) xs ++ filter (higher q) xs
  cut_there q [] h = refl
  cut_there q (x ∷ xs) h = by (nat_lt (kind x) q) refl (cut_there q xs h.1)
    where
      by : (t : Bool) → nat_lt (kind x) q ≡ t → xs ≡ filter (lower q) xs ++ filter (higher q) xs → x ∷ xs ≡ cond t (x ∷ filter (lower q) xs) (filter (lower q) xs) ++ cond (not t) (x ∷ filter (higher q) xs) (filter (higher q) xs)
      by true e ih = ap (λ zs. x ∷ zs) ih
      by false e ih =
          let le = is_above (kind x) q e in
          let none : filter (lower q) xs ≡ [] = none_pass (lower q) xs (imply (λ b. kind x ≤ kind b) (λ b. lower q b ≡ false) (λ b m. above_is (kind b) q (omega (arith, le, m))) xs h.0) in
          let all : filter (higher q) xs ≡ xs = all_pass (higher q) xs (imply (λ b. kind x ≤ kind b) (λ b. higher q b ≡ true) (λ b m. ap not (above_is (kind b) q (omega (arith, le, m)))) xs h.0) in
          sym (ap (λ zs. zs ++ x ∷ filter (higher q) xs) none ∙ ap (λ zs. x ∷ zs) all)

  low_all : (q : ℕ) (xs ys : List Asked) → AllByRecursion (λ a. kind a < q) xs → AllByRecursion (λ a. q ≤ kind a) ys → filter (lower q) (xs ++ ys) ≡ xs
  low_all q xs ys h g =
      filter-append (lower q) xs ys
      ∙ (ap (λ zs. zs ++ filter (lower q) ys) (all_pass (lower q) xs (imply (λ a. kind a < q) (λ a. lower q a ≡ true) (λ a lt. below_is (kind a) q lt) xs h))
      ∙ (ap (λ zs. xs ++ zs) (none_pass (lower q) ys (imply (λ a. q ≤ kind a) (λ a. lower q a ≡ false) (λ a le. above_is (kind a) q le) ys g)) ∙ append-nil xs))

  high_all : (q : ℕ) (xs ys : List Asked) → AllByRecursion (λ a. kind a < q) xs → AllByRecursion (λ a. q ≤ kind a) ys → filter (higher q) (xs ++ ys) ≡ ys
  high_all q xs ys h g =
      filter-append (higher q) xs ys
      ∙ (ap (λ zs. zs ++ filter (higher q) ys) (none_pass (higher q) xs (imply (λ a. kind a < q) (λ a. higher q a ≡ false) (λ a lt. ap not (below_is (kind a) q lt)) xs h))
      ∙ all_pass (higher q) ys (imply (λ a. q ≤ kind a) (λ a. higher q a ≡ true) (λ a le. ap not (above_is (kind a) q le)) ys g))

  -- ---- what rises has one order

  -- an event on a checkable is there
  record IsThere (c : ℕ) (xs : List Asked) : Type 0 where
    front : List Asked
    a : Asked
    behind : List Asked
    is : xs ≡ front ++ a ∷ behind
    on : a.checkable ≡ c

  there_is : (c : ℕ) (e : Event) (es : List Event) (xs : List Asked) → events_on c xs ≡ e ∷ es → IsThere c xs
  there_is c e es [] h = absurd cc
  there_is c e es (x ∷ xs) h = by (nat_eq x.checkable c) refl h (there_is c e es xs)
    where
      by : (t : Bool) → nat_eq x.checkable c ≡ t → cond t (x.event ∷ events_on c xs) (events_on c xs) ≡ e ∷ es → (events_on c xs ≡ e ∷ es → IsThere c xs) → IsThere c (x ∷ xs)
      by true q h more = record { front = []; a = x; behind = xs; is = refl; on = eqb-true x.checkable c q }
      by false q h more = let m = more h in record { front = x ∷ m.front; a = m.a; behind = m.behind; is = ap (λ zs. x ∷ zs) m.is; on = m.on }

  at_front : (P : Asked → Type 0) (front behind : List Asked) (a : Asked) → AllByRecursion P (front ++ a ∷ behind) → P a
  at_front P [] behind a h = h.0
  at_front P (x ∷ front) behind a h = at_front P front behind a h.1

  own_first : (a : Asked) (xs : List Asked) → events_on a.checkable (a ∷ xs) ≡ a.event ∷ events_on a.checkable xs
  own_first a xs = ap (λ t. cond t (a.event ∷ events_on a.checkable xs) (events_on a.checkable xs)) (eq-eqb a.checkable a.checkable refl)

  -- where the kind goes by the checkable
  rising_same : (P : Asked → Type 0) (by_place : (a b : Asked) → a.checkable ≡ b.checkable → P a → P b → kind a ≡ kind b) (xs ys : List Asked) → AllByRecursion P xs → AllByRecursion P ys → NeverFall kind xs → AllRise kind ys → AreSameOnEach xs ys → xs ≡ ys
  rising_same P by_place [] [] p q h g same = refl
  rising_same P by_place [] (b ∷ ys) p q h g same = absurd (none_there (same b.checkable ∙ own_first b ys))
    where
      none_there : [] ≡ b.event ∷ events_on b.checkable ys → ⊥
      none_there e = absurd cc
  rising_same P by_place (a ∷ xs) [] p q h g same = absurd (none_there (sym (same a.checkable) ∙ own_first a xs))
    where
      none_there : [] ≡ a.event ∷ events_on a.checkable xs → ⊥
      none_there e = absurd cc
  rising_same P by_place (a ∷ xs) (b ∷ ys) p q h g same = join (rising_same P by_place xs ys p.1 q.1 h.1 g.1)
    where
      -- of the first of the one list there is an event in the other
      in_ys : IsThere a.checkable (b ∷ ys)
      in_ys = there_is a.checkable a.event (events_on a.checkable xs) (b ∷ ys) (sym (same a.checkable) ∙ own_first a xs)

      in_xs : IsThere b.checkable (a ∷ xs)
      in_xs = there_is b.checkable b.event (events_on b.checkable ys) (a ∷ xs) (same b.checkable ∙ own_first b ys)

      least : kind a ≤ kind a
      least = omega arith

      low_a : kind a ≤ kind b
      low_a =
          let le = at_front (λ z. kind a ≤ kind z) in_xs.front in_xs.behind in_xs.a (subst (AllByRecursion (λ z. kind a ≤ kind z)) in_xs.is (least, h.0)) in
          let e = by_place in_xs.a b in_xs.on (at_front P in_xs.front in_xs.behind in_xs.a (subst (AllByRecursion P) in_xs.is p)) q.0 in
          omega (arith, le, e)

      same_place : a.checkable ≡ b.checkable
      same_place = by in_ys.front in_ys.is
        where
          by : (front : List Asked) → b ∷ ys ≡ front ++ in_ys.a ∷ in_ys.behind → a.checkable ≡ b.checkable
          by [] e = let first : b ≡ in_ys.a = cc in sym in_ys.on ∙ ap (λ (z : Asked). z.checkable) (sym first)
          by (z ∷ front) e =
              let rest : ys ≡ front ++ in_ys.a ∷ in_ys.behind = cc in
              let lt = at_front (λ z. kind b < kind z) front in_ys.behind in_ys.a (subst (AllByRecursion (λ z. kind b < kind z)) rest g.0) in
              let is = by_place in_ys.a a in_ys.on (at_front P front in_ys.behind in_ys.a (subst (AllByRecursion P) rest q.1)) p.0 in
              let le = low_a in
              absurd (omega (arith, lt, is, le))

      firsts : a.event ∷ events_on a.checkable xs ≡ b.event ∷ events_on a.checkable ys
      firsts = sym (own_first a xs) ∙ (same a.checkable ∙ ap (λ t. cond t (b.event ∷ events_on a.checkable ys) (events_on a.checkable ys)) (eq-eqb b.checkable a.checkable (sym same_place)))

      one : a ≡ b
      one = ap (λ k. record { checkable = k; event = a.event }) same_place ∙ ap (λ v. record { checkable = b.checkable; event = v }) (first_event firsts)
        where
          first_event : a.event ∷ events_on a.checkable xs ≡ b.event ∷ events_on a.checkable ys → a.event ≡ b.event
          first_event e = cc

      tails : AreSameOnEach xs ys
      tails c = by (nat_eq a.checkable c) refl (same c)
        where
          by : (t : Bool) → nat_eq a.checkable c ≡ t → cond (nat_eq a.checkable c) (a.event ∷ events_on c xs) (events_on c xs) ≡ cond (nat_eq b.checkable c) (b.event ∷ events_on c ys) (events_on c ys) → events_on c xs ≡ events_on c ys
          by true f e =
              let r : nat_eq b.checkable c ≡ true = ap (λ k. nat_eq k c) (sym same_place) ∙ f in
              let both : a.event ∷ events_on c xs ≡ b.event ∷ events_on c ys = sym (ap (λ t. cond t (a.event ∷ events_on c xs) (events_on c xs)) f) ∙ (e ∙ ap (λ t. cond t (b.event ∷ events_on c ys) (events_on c ys)) r) in
              cc
          by false f e =
              let r : nat_eq b.checkable c ≡ false = ap (λ k. nat_eq k c) (sym same_place) ∙ f in
              sym (ap (λ t. cond t (a.event ∷ events_on c xs) (events_on c xs)) f) ∙ (e ∙ ap (λ t. cond t (b.event ∷ events_on c ys) (events_on c ys)) r)

      join : (AreSameOnEach xs ys → xs ≡ ys) → a ∷ xs ≡ b ∷ ys
      join more = ap (λ z. z ∷ xs) one ∙ ap (λ zs. b ∷ zs) (more tails)

  -- ---- a turn

  passing : (test : Asked → Bool) (xs : List Asked) → AllByRecursion (λ a. test a ≡ true) (filter test xs)
  passing test [] = tt
  passing test (x ∷ xs) = by (test x) refl (passing test xs)
    where
      by : (t : Bool) → test x ≡ t → AllByRecursion (λ a. test a ≡ true) (filter test xs) → AllByRecursion (λ a. test a ≡ true) (cond t (x ∷ filter test xs) (filter test xs))
      by true e rest = (e, rest)
      by false e rest = rest

  low_kept : (q : ℕ) (xs : List Asked) → AllByRecursion (λ a. kind a < q) (filter (lower q) xs)
  low_kept q xs = imply (λ a. lower q a ≡ true) (λ a. kind a < q) (λ a e. is_below (kind a) q e) (filter (lower q) xs) (passing (lower q) xs)

  not_true : (b : Bool) → not b ≡ true → b ≡ false
  not_true true e = absurd (true≢false (sym e))
  not_true false e = refl

  high_kept : (q : ℕ) (xs : List Asked) → AllByRecursion (λ a. q ≤ kind a) (filter (higher q) xs)
  high_kept q xs = imply (λ a. higher q a ≡ true) (λ a. q ≤ kind a) (λ a e. is_above (kind a) q (not_true (nat_lt (kind a) q) e)) (filter (higher q) xs) (passing (higher q) xs)

  pair : (P Q : Asked → Type 0) (xs : List Asked) → AllByRecursion P xs → AllByRecursion Q xs → AllByRecursion (λ a. P a × Q a) xs
  pair P Q [] h g = tt
  pair P Q (x ∷ xs) h g = ((h.0, g.0), pair P Q xs h.1 g.1)

  module _ (low middle high : ℕ) (lines lacking reports ticks all : List Asked) (t : AreOfTurn kind low middle high lines lacking reports ticks) (fall : NeverFall kind all) (same : AreSameOnEach all (lines ++ (lacking ++ (reports ++ ticks)))) where
    above_low : AllByRecursion (λ a. low ≤ kind a) (lacking ++ (reports ++ ticks))
    above_low =
        let lm = t.ordered.0 in
        let mh = t.ordered.1 in
        both (λ a. low ≤ kind a) lacking (reports ++ ticks) t.are_lacking
        (both (λ a. low ≤ kind a) reports ticks (imply (λ a. middle ≤ kind a) (λ a. low ≤ kind a) (λ a le. omega (arith, lm, le)) reports t.are_reports) (imply (λ a. high ≤ kind a) (λ a. low ≤ kind a) (λ a le. omega (arith, lm, mh, le)) ticks t.are_ticks))

    above_middle : AllByRecursion (λ a. middle ≤ kind a) (reports ++ ticks)
    above_middle =
        let mh = t.ordered.1 in
        both (λ a. middle ≤ kind a) reports ticks t.are_reports (imply (λ a. high ≤ kind a) (λ a. middle ≤ kind a) (λ a le. omega (arith, mh, le)) ticks t.are_ticks)

    abbrev behind_lines : List Asked
    behind_lines = filter (higher low) all

    abbrev behind_lacking : List Asked
    behind_lacking = filter (higher middle) behind_lines

    same_behind : AreSameOnEach behind_lines (lacking ++ (reports ++ ticks))
    same_behind = subst (AreSameOnEach behind_lines) (high_all low lines (lacking ++ (reports ++ ticks)) t.are_lines above_low) (same_kept (higher low) all (lines ++ (lacking ++ (reports ++ ticks))) same)

    same_last : AreSameOnEach behind_lacking (reports ++ ticks)
    same_last = subst (AreSameOnEach behind_lacking) (high_all middle lacking (reports ++ ticks) t.lacking_end above_middle) (same_kept (higher middle) behind_lines (lacking ++ (reports ++ ticks)) same_behind)

    fall_behind : NeverFall kind behind_lines
    fall_behind = fall_kept (higher low) all fall

    fall_last : NeverFall kind behind_lacking
    fall_last = fall_kept (higher middle) behind_lines fall_behind

    lacking_are : filter (lower middle) behind_lines ≡ lacking
    lacking_are =
        rising_same (λ a. (low ≤ kind a) × (kind a < middle)) t.lacking_places (filter (lower middle) behind_lines) lacking
        (pair (λ a. low ≤ kind a) (λ a. kind a < middle) (filter (lower middle) behind_lines) (kept (λ a. low ≤ kind a) (lower middle) behind_lines (high_kept low all)) (low_kept middle behind_lines))
        (pair (λ a. low ≤ kind a) (λ a. kind a < middle) lacking t.are_lacking t.lacking_end)
        (fall_kept (lower middle) behind_lines fall_behind) t.lacking_rise
        (subst (AreSameOnEach (filter (lower middle) behind_lines)) (low_all middle lacking (reports ++ ticks) t.lacking_end above_middle) (same_kept (lower middle) behind_lines (lacking ++ (reports ++ ticks)) same_behind))

    ticks_are : filter (higher high) behind_lacking ≡ ticks
    ticks_are =
        rising_same (λ a. high ≤ kind a) t.tick_places (filter (higher high) behind_lacking) ticks (high_kept high behind_lacking) t.are_ticks (fall_kept (higher high) behind_lacking fall_last) t.ticks_rise
        (subst (AreSameOnEach (filter (higher high) behind_lacking)) (high_all high reports ticks t.reports_end t.are_ticks) (same_kept (higher high) behind_lacking (reports ++ ticks) same_last))

    pub in_turn : AreAsInTurn kind low middle high lines lacking reports ticks all
    in_turn = record {
      are =
          cut_there low all fall
          ∙ ap (λ zs. filter (lower low) all ++ zs)
          (cut_there middle behind_lines fall_behind
          ∙ (ap (λ zs. zs ++ behind_lacking) lacking_are ∙ ap (λ zs. lacking ++ zs) (cut_there high behind_lacking fall_last ∙ ap (λ zs. filter (lower high) behind_lacking ++ zs) ticks_are)));
      same_lines = subst (AreSameOnEach (filter (lower low) all)) (low_all low lines (lacking ++ (reports ++ ticks)) t.are_lines above_low) (same_kept (lower low) all (lines ++ (lacking ++ (reports ++ ticks))) same);
      same_reports = subst (AreSameOnEach (filter (lower high) behind_lacking)) (low_all high reports ticks t.reports_end t.are_ticks) (same_kept (lower high) behind_lacking (reports ++ ticks) same_last);
    }

pub as_in_turn : (kind : Asked → ℕ) (low middle high : ℕ) (lines lacking reports ticks all : List Asked) → AreOfTurn kind low middle high lines lacking reports ticks → NeverFall kind all → AreSameOnEach all (lines ++ (lacking ++ (reports ++ ticks))) → AreAsInTurn kind low middle high lines lacking reports ticks all
as_in_turn kind low middle high lines lacking reports ticks all t fall same = in_turn kind low middle high lines lacking reports ticks all t fall same
