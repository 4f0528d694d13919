-- Each segment is given once.
use Rattle.std.proofs.Common.{◌≡◌, ℕ, zero, suc, ◌+◌, ◌/◌, ◌<◌, ◌≤◌, ◌⊎◌, inl, inr, Bool, true, false, cond, nat_le, nat_lt, ◌&&◌, List, [], ◌∷◌, ◌++◌, filter, length, slice_index_or, Contains, Option, Some, None, ℤ, pos, ◌-ℤ◌, refl, sym, ap, subst, ◌∙◌, arith, true≢false}
use Rattle.std.proofs.lemmas.Bool.{cases_lt}
use Rattle.std.proofs.lemmas.Bool.Decides.{nat_tests}
use Rattle.std.specs.List.{AllByRecursion, flat_map}
use Rattle.std.specs.Option.{option_to_list}
use Rattle.jiff_core.specs.Calendar.{weekday_number}
use Rattle.jiff_tz.specs.declared.tzif.Tzif.{Tzif}
use Rattle.run_meaning.specs.Turns.{Begun}
use Rattle.site_base.specs.declared.day_span.DaySpan.{DaySpan}
use Rattle.site_model.specs.PlainSite.{PlainSite}
use Rattle.time_range.specs.Period.{falls_on}
use Rattle.down_recur.proofs.ByStart.{rises_by_start}
use Rattle.down_recur.proofs.Finding.{Among, IsFound, found_around, in_filter}
use Rattle.down_recur.proofs.Instants.{moment_found, moment_right}
use Rattle.down_recur.proofs.Quiet.{due_test, is_around, segment_is}
use Rattle.down_recur.specs.Due.{by_start, due_of, is_due, put}
use Rattle.down_recur.specs.Giving.{after_at, done_after, due_at, given_at, is_triggered, lead}
use Rattle.down_recur.specs.Instants.{moment_at}
use Rattle.down_recur.specs.Laws.{AreEarlier, AreGivenInOrder, IsGivenOnce, MayBeGiven, after_all}
use Rattle.down_recur.specs.Segments.{IsSegment, IsSegmentOf, between, of_span, on_days, segment_on, segments_around}
use Rattle.down_recur.specs.declared.recurring.Recurring.{Recurring}
use Rattle.down_recur.specs.declared.segment.Segment.{Segment}

-- ---- of lists

module _ {A : Type 0} where
  pub of_contained : (P : A → Type 0) (xs : List A) (k : ℕ) (x : A) → AllByRecursion P xs → k < length xs → slice_index_or xs k x ≡ x → P x
  of_contained P [] k x h l e = absurd (omega arith)
  of_contained P (y ∷ ys) zero x h l e = subst P e h.0
  of_contained P (y ∷ ys) (suc k) x h l e = of_contained P ys k x h.1 (omega arith) e

contains : (s : Segment) (ss : List Segment) → Among s ss → Contains ss s
contains s [] h = elim h [ ]
contains s (t ∷ ts) (inl e) = (zero, omega arith, e)
contains s (t ∷ ts) (inr h) = let rest = contains s ts h in (suc rest.0, omega (arith, rest.1), rest.2)

among_at : (s : Segment) (ss : List Segment) (k : ℕ) → k < length ss → slice_index_or ss k s ≡ s → Among s ss
among_at s [] k h e = absurd (omega arith)
among_at s (t ∷ ts) zero h e = inl e
among_at s (t ∷ ts) (suc k) h e = inr (among_at s ts k (omega arith) e)

among : (s : Segment) (ss : List Segment) → Contains ss s → Among s ss
among s ss h = among_at s ss h.0 h.1 h.2

split : (s : Segment) (xs ys : List Segment) → Among s (xs ++ ys) → Among s xs ⊎ Among s ys
split s [] ys h = inr h
split s (x ∷ xs) ys (inl e) = inl (inl e)
split s (x ∷ xs) ys (inr h) = elim (split s xs ys h) [ inl a ↦ inl (inr a) | inr b ↦ inr b ]

-- ---- of the order

put_in : (s t : Segment) (ts : List Segment) → (t ≡ s) ⊎ Among s ts → Among s (put t ts)
put_in s t [] h = h
put_in s t (u ∷ us) h = by (λ k. put_in s t us k) (nat_lt u.start t.start) h
  where
    by : ((t ≡ s) ⊎ Among s us → Among s (put t us)) → (b : Bool) → (t ≡ s) ⊎ Among s (u ∷ us) → Among s (cond b (u ∷ put t us) (t ∷ u ∷ us))
    by again true (inl e) = inr (again (inl e))
    by again true (inr (inl e)) = inl e
    by again true (inr (inr k)) = inr (again (inr k))
    by again false k = k

put_out : (s t : Segment) (ts : List Segment) → Among s (put t ts) → (t ≡ s) ⊎ Among s ts
put_out s t [] h = h
put_out s t (u ∷ us) h = by (λ k. put_out s t us k) (nat_lt u.start t.start) h
  where
    by : (Among s (put t us) → (t ≡ s) ⊎ Among s us) → (b : Bool) → Among s (cond b (u ∷ put t us) (t ∷ u ∷ us)) → (t ≡ s) ⊎ Among s (u ∷ us)
    by again true (inl e) = inr (inl e)
    by again true (inr k) = elim (again k) [ inl e ↦ inl e | inr m ↦ inr (inr m) ]
    by again false k = k

ordered_in : (s : Segment) (ss : List Segment) → Among s ss → Among s (by_start ss)
ordered_in s [] h = h
ordered_in s (t ∷ ts) (inl e) = put_in s t (by_start ts) (inl e)
ordered_in s (t ∷ ts) (inr h) = put_in s t (by_start ts) (inr (ordered_in s ts h))

ordered_out : (s : Segment) (ss : List Segment) → Among s (by_start ss) → Among s ss
ordered_out s [] h = h
ordered_out s (t ∷ ts) h = by (λ k. ordered_out s ts k) (put_out s t (by_start ts) h)
  where
    by : (Among s (by_start ts) → Among s ts) → (t ≡ s) ⊎ Among s (by_start ts) → Among s (t ∷ ts)
    by again (inl e) = inl e
    by again (inr k) = inr (again k)

filter_out : (p : Segment → Bool) (s : Segment) (ss : List Segment) → Among s (filter p ss) → Among s ss × (p s ≡ true)
filter_out p s [] h = elim h [ ]
filter_out p s (t ∷ ts) h = by (λ k. filter_out p s ts k) (p t) refl h
  where
    by : (Among s (filter p ts) → Among s ts × (p s ≡ true)) → (b : Bool) → p t ≡ b → Among s (cond b (t ∷ filter p ts) (filter p ts)) → Among s (t ∷ ts) × (p s ≡ true)
    by again true e (inl same) = (inl same, sym (ap p same) ∙ e)
    by again true e (inr k) = let rest = again k in (inr rest.0, rest.1)
    by again false e k = let rest = again k in (inr rest.0, rest.1)

-- ---- of segments

on_some_day : (clock : Option Tzif) (span : DaySpan) (s : Segment) (first n : ℕ) → Among s (on_days clock span first n) → (day : ℤ) × (segment_on clock span day ≡ Some s)
on_some_day clock span s first zero h = elim h [ ]
on_some_day clock span s first (suc n) h = by (λ k. on_some_day clock span s (first + 1) n k) (segment_on clock span (pos first -ℤ pos 2)) refl h
  where
    by : (Among s (on_days clock span (first + 1) n) → (day : ℤ) × (segment_on clock span day ≡ Some s)) → (o : Option Segment) → segment_on clock span (pos first -ℤ pos 2) ≡ o → Among s (option_to_list o ++ on_days clock span (first + 1) n) → (day : ℤ) × (segment_on clock span day ≡ Some s)
    by again None e k = again k
    by again (Some t) e (inl same) = (pos first -ℤ pos 2, e ∙ ap Some same)
    by again (Some t) e (inr k) = again k

-- a span of these has a segment on some day
record HasSpan (clock : Option Tzif) (spans : List DaySpan) (s : Segment) : Type 0 where
  span : DaySpan
  day : ℤ
  among : Contains spans span
  is : segment_on clock span day ≡ Some s

with_span : (clock : Option Tzif) (span : DaySpan) (spans : List DaySpan) (s : Segment) → HasSpan clock spans s → HasSpan clock (span ∷ spans) s
with_span clock span spans s h = record { span = h.span; day = h.day; among = (suc h.among.0, omega (arith, h.among.1), h.among.2); is = h.is }

of_some_span : (clock : Option Tzif) (day : ℕ) (spans : List DaySpan) (s : Segment) → Among s (flat_map (of_span clock day) spans) → HasSpan clock spans s
of_some_span clock day [] s h = elim h [ ]
of_some_span clock day (span ∷ spans) s h =
    elim (split s (of_span clock day span) (flat_map (of_span clock day) spans) h) [
      | inl a ↦ let there = on_some_day clock span s day 7 a in record { span = span; day = there.0; among = (zero, omega arith, refl); is = there.1 }
      | inr b ↦ with_span clock span spans s (of_some_span clock day spans s b)
    ]

around_some : (clock : Option Tzif) (moment : ℕ) (spans : List DaySpan) (s : Segment) → Among s (segments_around clock moment spans) → HasSpan clock spans s
unfolding segments_around
around_some clock moment spans s h = of_some_span clock (moment / 86400) spans s h

segment_found : (clock : Option Tzif) (span : DaySpan) (day : ℤ) (s : Segment) → segment_on clock span day ≡ Some s → IsSegment clock span day s
segment_found clock span day s e =
    let is = segment_is clock span day s e in
    record {
      falls = on_its_day (falls_on day (weekday_number day) span.day) e;
      begins = moment_found clock day span.from s.start is.start_is;
      ends = moment_found clock day span.to s.«end» is.end_is;
      rises = is.rises;
    }
  where
    on_its_day : (b : Bool) → cond b (between (moment_at clock day span.from) (moment_at clock day span.to)) None ≡ Some s → b ≡ true
    on_its_day true e = refl
    on_its_day false e = absurd cc

segment_right : (clock : Option Tzif) (span : DaySpan) (day : ℤ) (s : Segment) → IsSegment clock span day s → segment_on clock span day ≡ Some s
segment_right clock span day s h =
    let test : nat_lt s.start s.«end» ≡ true = grind (arith, nat_tests, h.rises) in
    ap (λ b. cond b (between (moment_at clock day span.from) (moment_at clock day span.to)) None) h.falls
    ∙ ap (λ o. between o (moment_at clock day span.to)) (moment_right clock day span.from s.start h.begins)
    ∙ ap (λ o. between (Some s.start) o) (moment_right clock day span.to s.«end» h.ends)
    ∙ ap (λ b. cond b (Some s) None) test

segment_of : (clock : Option Tzif) (spans : List DaySpan) (s : Segment) → HasSpan clock spans s → IsSegmentOf clock spans s
segment_of clock spans s h = record { span = h.span; day = h.day; among = h.among; segment = segment_found clock h.span h.day s h.is }

-- a segment that begins by then and ends after the moment is around it
around_is : (clock : Option Tzif) (moment : ℕ) (spans : List DaySpan) (s : Segment) → IsSegmentOf clock spans s → s.start ≤ moment + 86400 → moment < s.«end» → Among s (segments_around clock moment spans)
around_is clock moment spans s h soon lasts =
    let found = of_contained (IsFound clock (moment / 86400) (segments_around clock moment spans)) spans h.among.0 h.span (found_around clock moment spans) h.among.1 h.among.2 in
    is_around clock moment (segments_around clock moment spans) h.span h.day s found (segment_right clock h.span h.day s h.segment) lasts (omega arith)

-- ---- of what is due

pub record IsDueOf (clock : Option Tzif) (spans : List DaySpan) (from till moment : ℕ) (s : Segment) : Type 0 where
  pub segment : IsSegmentOf clock spans s
  pub from_on : from ≤ s.start
  pub by_then : s.start ≤ till
  pub lasts : moment < s.«end»

due_parts : (from till moment : ℕ) (s : Segment) → is_due from till moment s ≡ true → (from ≤ s.start) × (s.start ≤ till) × (moment < s.«end»)
due_parts from till moment s e = by (nat_le from s.start) refl (nat_le s.start till) refl (nat_lt moment s.«end») refl e
  where
    by : (a : Bool) → nat_le from s.start ≡ a → (b : Bool) → nat_le s.start till ≡ b → (c : Bool) → nat_lt moment s.«end» ≡ c → (a && (b && c)) ≡ true → (from ≤ s.start) × (s.start ≤ till) × (moment < s.«end»)
    by true h true k true l e = (grind (arith, nat_tests), grind (arith, nat_tests), grind (arith, nat_tests))
    by true h true k false l e = absurd (true≢false (sym e))
    by true h false k c l e = absurd (true≢false (sym e))
    by false h b k c l e = absurd (true≢false (sym e))

due_out : (clock : Option Tzif) (spans : List DaySpan) (from till moment : ℕ) (s : Segment) → Among s (due_of clock spans from till moment) → IsDueOf clock spans from till moment s
due_out clock spans from till moment s h =
    let kept = filter_out (is_due from till moment) s (segments_around clock moment spans) (ordered_out s (filter (is_due from till moment) (segments_around clock moment spans)) h) in
    let parts = due_parts from till moment s kept.1 in
    record { segment = segment_of clock spans s (around_some clock moment spans s kept.0); from_on = parts.0; by_then = parts.1; lasts = parts.2 }

due_in : (clock : Option Tzif) (spans : List DaySpan) (from till moment : ℕ) (s : Segment) → till ≤ moment + 86400 → IsDueOf clock spans from till moment s → Among s (due_of clock spans from till moment)
due_in clock spans from till moment s near h =
    ordered_in s (filter (is_due from till moment) (segments_around clock moment spans))
    (in_filter (is_due from till moment) s (segments_around clock moment spans) (due_test from till moment s h.from_on h.by_then h.lasts)
    (around_is clock moment spans s h.segment (omega (arith, h.by_then)) h.lasts))

-- ---- of turns

module _ (s : PlainSite) (zone : Option Tzif) (r : Recurring) where
  abbrev done_all : List Begun → ℕ
  done_all [] = r.done
  done_all (b ∷ bs) = (after_at s zone b.histories b.moment (record r { done = done_all bs })).done

  -- what recurs once so much is done
  abbrev at_done : ℕ → Recurring
  at_done d = record r { done = d }

  all_is : (turns : List Begun) → after_all s zone r turns ≡ at_done (done_all turns)
  all_is [] = refl
  all_is (b ∷ bs) = ap (after_at s zone b.histories b.moment) (all_is bs)

  given_out : (d : ℕ) (b : Begun) (seg : Segment) → Among seg (given_at s zone b.histories b.moment (at_done d)) → (is_triggered s b.histories b.moment r.trigger ≡ true) × IsDueOf zone r.spans d (b.moment + lead r.trigger) b.moment seg
  given_out d b seg h = by (is_triggered s b.histories b.moment r.trigger) refl h
    where
      by : (t : Bool) → is_triggered s b.histories b.moment r.trigger ≡ t → Among seg (cond t (due_at zone b.moment (at_done d)) []) → (is_triggered s b.histories b.moment r.trigger ≡ true) × IsDueOf zone r.spans d (b.moment + lead r.trigger) b.moment seg
      by true e k = (e, due_out zone r.spans d (b.moment + lead r.trigger) b.moment seg k)
      by false e k = elim k [ ]

  near : (trigger : Option ℕ) (moment : ℕ) → moment + lead trigger ≤ moment + 86400
  near None moment = omega arith
  near (Some k) moment = omega arith

  given_in : (d : ℕ) (b : Begun) (seg : Segment) → IsSegmentOf zone r.spans seg → MayBeGiven s r.trigger b seg → d ≤ seg.start → Among seg (given_at s zone b.histories b.moment (at_done d))
  given_in d b seg is h k =
      subst (λ t. Among seg (cond t (due_at zone b.moment (at_done d)) [])) (sym h.triggered)
      (due_in zone r.spans d (b.moment + lead r.trigger) b.moment seg (near r.trigger b.moment) (record { segment = is; from_on = k; by_then = h.soon; lasts = h.lasts }))

  done_some : (till d : ℕ) (seg : Segment) (l : List Segment) → Among seg l → done_after till l d ≡ till + 1
  done_some till d seg [] h = elim h [ ]
  done_some till d seg (t ∷ ts) h = refl

  done_least : (till d : ℕ) (l : List Segment) → d ≤ till + 1 → d ≤ done_after till l d
  done_least till d [] h = omega arith
  done_least till d (t ∷ ts) h = h

  done_most : (till d : ℕ) (l : List Segment) → d ≤ till + 1 → done_after till l d ≤ till + 1
  done_most till d [] h = h
  done_most till d (t ∷ ts) h = omega arith

  bound : (moment : ℕ) (turns : List Begun) → r.done ≡ 0 → AreEarlier moment turns → done_all turns ≤ moment + lead r.trigger + 1
  bound moment [] z h = omega arith
  bound moment (b ∷ bs) z h =
      let low = bound b.moment bs z h.1 in
      let most = done_most (b.moment + lead r.trigger) (done_all bs) (given_at s zone b.histories b.moment (at_done (done_all bs))) low in
      omega (arith, h.0)

  abbrev AnyTurn : (Begun → Type 0) → List Begun → Type 0
  AnyTurn P [] = ⊥
  AnyTurn P (b ∷ bs) = P b ⊎ AnyTurn P bs

  -- a segment that may have been given is done
  is_done : (seg : Segment) (turns : List Begun) (moment : ℕ) → r.done ≡ 0 → AreEarlier moment turns → IsSegmentOf zone r.spans seg → AnyTurn (λ b. MayBeGiven s r.trigger b seg) turns → seg.start < done_all turns
  is_done seg [] moment z h is k = elim k [ ]
  is_done seg (b ∷ bs) moment z h is (inr k) =
      let before = is_done seg bs b.moment z h.1 is k in
      let least = done_least (b.moment + lead r.trigger) (done_all bs) (given_at s zone b.histories b.moment (at_done (done_all bs))) (bound b.moment bs z h.1) in
      omega arith
  is_done seg (b ∷ bs) moment z h is (inl k) =
      let low = bound b.moment bs z h.1 in
      elim (cases_lt seg.start (done_all bs)) [
        | inl lt ↦
            let least = done_least (b.moment + lead r.trigger) (done_all bs) (given_at s zone b.histories b.moment (at_done (done_all bs))) low in
            omega arith
        | inr ge ↦
            let there = given_in (done_all bs) b seg is k ge in
            let now = done_some (b.moment + lead r.trigger) (done_all bs) seg (given_at s zone b.histories b.moment (at_done (done_all bs))) there in
            omega (arith, k.soon)
      ]

  triggered_if : (d : ℕ) (b : Begun) (t : Segment) (ts : List Segment) → given_at s zone b.histories b.moment (at_done d) ≡ t ∷ ts → is_triggered s b.histories b.moment r.trigger ≡ true
  triggered_if d b t ts e = (given_out d b t (subst (Among t) (sym e) (inl refl))).0

  -- and what is done may have been given, unless it is over
  was_given : (seg : Segment) (turns : List Begun) (moment : ℕ) → r.done ≡ 0 → AreEarlier moment turns → moment < seg.«end» → seg.start < done_all turns → AnyTurn (λ b. MayBeGiven s r.trigger b seg) turns
  was_given seg [] moment z h l k = absurd (omega arith)
  was_given seg (b ∷ bs) moment z h l k =
      by (λ m. was_given seg bs b.moment z h.1 (omega (arith, h.0)) m) (given_at s zone b.histories b.moment (at_done (done_all bs))) refl k
    where
      by : (seg.start < done_all bs → AnyTurn (λ b. MayBeGiven s r.trigger b seg) bs) → (l : List Segment) → given_at s zone b.histories b.moment (at_done (done_all bs)) ≡ l → seg.start < done_after (b.moment + lead r.trigger) l (done_all bs) → AnyTurn (λ b. MayBeGiven s r.trigger b seg) (b ∷ bs)
      by again [] e m = inr (again m)
      by again (t ∷ ts) e m = inl (record { triggered = triggered_if (done_all bs) b t ts e; soon = omega arith; lasts = omega (arith, h.0) })

  none_of : (P : Begun → Type 0) (turns : List Begun) → (AnyTurn P turns → ⊥) → AllByRecursion (λ b. P b → ⊥) turns
  none_of P [] f = tt
  none_of P (b ∷ bs) f = ((λ p. f (inl p)), none_of P bs (λ k. f (inr k)))

  of_none : (P : Begun → Type 0) (turns : List Begun) → AllByRecursion (λ b. P b → ⊥) turns → AnyTurn P turns → ⊥
  of_none P [] h k = k
  of_none P (b ∷ bs) h (inl p) = h.0 p
  of_none P (b ∷ bs) h (inr k) = of_none P bs h.1 k

  once_out : (turns : List Begun) (now : Begun) (seg : Segment) → r.done ≡ 0 → AreEarlier now.moment turns → Among seg (given_at s zone now.histories now.moment (at_done (done_all turns)))
      → IsSegmentOf zone r.spans seg × MayBeGiven s r.trigger now seg × AllByRecursion (λ b. MayBeGiven s r.trigger b seg → ⊥) turns
  once_out turns now seg z h k =
      let given = given_out (done_all turns) now seg k in
      let due = given.1 in
      let late = due.from_on in (
        due.segment,
        record { triggered = given.0; soon = due.by_then; lasts = due.lasts },
        none_of (λ b. MayBeGiven s r.trigger b seg) turns (λ any. let early = is_done seg turns now.moment z h due.segment any in absurd (omega arith)),
      )

  once_in : (turns : List Begun) (now : Begun) (seg : Segment) → r.done ≡ 0 → AreEarlier now.moment turns
      → IsSegmentOf zone r.spans seg × MayBeGiven s r.trigger now seg × AllByRecursion (λ b. MayBeGiven s r.trigger b seg → ⊥) turns
      → Among seg (given_at s zone now.histories now.moment (at_done (done_all turns)))
  once_in turns now seg z h k =
      elim (cases_lt seg.start (done_all turns)) [
        | inl lt ↦ absurd (of_none (λ b. MayBeGiven s r.trigger b seg) turns k.2 (was_given seg turns now.moment z h k.1.lasts lt))
        | inr ge ↦ given_in (done_all turns) now seg k.0 k.1 ge
      ]

pub given_once : IsGivenOnce
given_once s zone r turns now seg z h = (
  λ k. once_out s zone r turns now seg z h
      (subst (λ x. Among seg (given_at s zone now.histories now.moment x)) (all_is s zone r turns) (among seg (given_at s zone now.histories now.moment (after_all s zone r turns)) k)),
  λ k. contains seg (given_at s zone now.histories now.moment (after_all s zone r turns))
      (subst (λ x. Among seg (given_at s zone now.histories now.moment x)) (sym (all_is s zone r turns)) (once_in s zone r turns now seg z h k)),
)

none_rises : (b : Bool) (l : List Segment) → ((i j : ℕ) (d : Segment) → i ≤ j → j < length l → (slice_index_or l i d).start ≤ (slice_index_or l j d).start) → (i j : ℕ) (d : Segment) → i ≤ j → j < length (cond b l []) → (slice_index_or (cond b l []) i d).start ≤ (slice_index_or (cond b l []) j d).start
none_rises true l h = h
none_rises false l h = λ i j d a k. absurd (omega arith)

pub given_in_order : AreGivenInOrder
given_in_order s zone r b =
    none_rises (is_triggered s b.histories b.moment r.trigger) (due_at zone b.moment r)
    (rises_by_start (filter (is_due r.done (b.moment + lead r.trigger) b.moment) (segments_around zone b.moment r.spans)))

-- what is given is due
pub given_due : (s : PlainSite) (zone : Option Tzif) (r : Recurring) (b : Begun) (seg : Segment) → Contains (given_at s zone b.histories b.moment r) seg → IsDueOf zone r.spans r.done (b.moment + lead r.trigger) b.moment seg
given_due s zone r b seg h = (given_out s zone r r.done b seg (among seg (given_at s zone b.histories b.moment r) h)).1
