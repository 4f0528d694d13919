-- The entries of a round among the lines of its block.
use Rattle.std.proofs.Common.{◌≡◌, ◌+◌, ◌-◌, ◌<◌, ◌≤◌, ◌&&◌, ℕ, zero, suc, nat_eq, Bool, true, false, cond, List, [], ◌∷◌, ◌++◌, length, take, map, filter, slice_get, refl, sym, ap, ◌∙◌, arith, append_assoc, append-nil, Some, None, Option, ◌⊎◌, inl, inr, eq-eqb}
use Rattle.std.proofs.lemmas.Bool.{cases_lt}
use Rattle.std.proofs.lemmas.List.{length-append, map-append}
use Rattle.std.proofs.lemmas.List.Elements.{filter-append}
use Rattle.site_model.specs.declared.entry.Entry.{Entry}
use Rattle.site_model.specs.declared.event.Event.{Event}
use Rattle.run_meaning.specs.Rounds.{entries_by, events_on}
use Rattle.run_meaning.specs.Turns.{Asked, Histories, from_on, of_index}
use Rattle.run_meaning.proofs.Lists.{get_at, get_front, get_map, length_map, take_front, take_map, take_past}
use Rattle.run_meaning.proofs.Parts.{apart}
use Rattle.audit_laws.specs.Types.{EntryLine}
use Rattle.audit_laws.specs.Retaken.{asked_in, events_by, lines_from, with_event}
use Rattle.audit_laws.proofs.Places.{get_behind}

abbrev pub line : ℕ → Entry → EntryLine
line k e = record { checkable = k; entry = e }

abbrev pub entry_of_line : EntryLine → Entry
entry_of_line x = x.entry

-- how many lines stand before those of a checkable
abbrev pub start : ℕ → Histories → ℕ
start c [] = 0
start zero (es ∷ ess) = 0
start (suc c) (es ∷ ess) = length es + start c ess

-- a line is of a checkable, and at a place among its entries
pub record IsLine (k : ℕ) (round : Histories) (t : ℕ) (x : EntryLine) : Type 0 where
  pub c : ℕ
  pub place : ℕ
  pub is : x.checkable ≡ k + c
  pub at : slice_get (of_index c round) place ≡ Some x.entry
  pub there : t ≡ start c round + place

pub line_at : (k : ℕ) (round : Histories) (t : ℕ) (x : EntryLine) → slice_get (lines_from k round) t ≡ Some x → IsLine k round t x
line_at k [] t x h = absurd cc
line_at k (es ∷ ess) t x h = by (cases_lt t (length es)) (λ n. line_at (suc k) ess n x)
  where
    lines : List EntryLine
    lines = map (λ e. record { checkable = k; entry = e }) es

    long : length lines ≡ length es
    long = length_map (λ (e : Entry). line k e) es

    by : (t < length es) ⊎ (length es ≤ t) → ((n : ℕ) → slice_get (lines_from (suc k) ess) n ≡ Some x → IsLine (suc k) ess n x) → IsLine k (es ∷ ess) t x
    by (inl lt) more =
        let (e, at, is) = get_map (λ (e : Entry). line k e) es t x (sym (get_front lines (lines_from (suc k) ess) t (omega (arith, lt, long))) ∙ h) in
        let here : k ≡ x.checkable = ap (λ (y : EntryLine). y.checkable) is in
        record {
          c = 0;
          place = t;
          is = omega (arith, here);
          at = at ∙ ap (λ (y : EntryLine). Some y.entry) is;
          there = omega arith;
        }
    by (inr le) more =
        let split : t ≡ length lines + (t - length es) = omega (arith, le, long) in
        let m = more (t - length es) (sym (get_behind lines (lines_from (suc k) ess) (t - length es)) ∙ (ap (slice_get (lines ++ lines_from (suc k) ess)) (sym split) ∙ h)) in
        let is = m.is in
        let there = m.there in
        record {
          c = suc m.c;
          place = m.place;
          is = omega (arith, is);
          at = m.at;
          there = omega (arith, there, le);
        }

-- ---- the lines of one caller and one checkable

abbrev pub is_on : ℕ → ℕ → EntryLine → Bool
is_on caller c x = nat_eq x.entry.caller caller && nat_eq x.checkable c

on_same : (caller k c : ℕ) (es : List Entry) → nat_eq k c ≡ true → map entry_of_line (filter (is_on caller c) (map (λ e. line k e) es)) ≡ entries_by caller es
on_same caller k c [] q = refl
on_same caller k c (e ∷ es) q = by (nat_eq e.caller caller) (nat_eq k c) q (on_same caller k c es q)
  where
    by : (t u : Bool) → u ≡ true → map entry_of_line (filter (is_on caller c) (map (λ e. line k e) es)) ≡ entries_by caller es
        → map entry_of_line (cond (t && u) (line k e ∷ filter (is_on caller c) (map (λ e. line k e) es)) (filter (is_on caller c) (map (λ e. line k e) es))) ≡ cond t (e ∷ entries_by caller es) (entries_by caller es)
    by true true q ih = ap (λ zs. e ∷ zs) ih
    by true false q ih = absurd cc
    by false u q ih = ih

on_other : (caller k c : ℕ) (es : List Entry) → nat_eq k c ≡ false → filter (is_on caller c) (map (λ e. line k e) es) ≡ []
on_other caller k c [] q = refl
on_other caller k c (e ∷ es) q = by (nat_eq e.caller caller) (nat_eq k c) q (on_other caller k c es q)
  where
    by : (t u : Bool) → u ≡ false → filter (is_on caller c) (map (λ e. line k e) es) ≡ [] → cond (t && u) (line k e ∷ filter (is_on caller c) (map (λ e. line k e) es)) (filter (is_on caller c) (map (λ e. line k e) es)) ≡ []
    by true true q ih = absurd cc
    by true false q ih = ih
    by false u q ih = ih

same_index : (k : ℕ) → nat_eq k (k + 0) ≡ true
same_index k = eq-eqb k (k + 0) (omega arith)

other_index : (k c : ℕ) → nat_eq k (k + suc c) ≡ false
other_index k c = apart k (k + suc c) (λ e. absurd (omega (arith, e)))

below_index : (k c : ℕ) → c < k → nat_eq k c ≡ false
below_index k c lt = apart k c (λ e. absurd (omega (arith, e, lt)))

none_below : (caller k c : ℕ) (round : Histories) → c < k → filter (is_on caller c) (lines_from k round) ≡ []
none_below caller k c [] lt = refl
none_below caller k c (es ∷ ess) lt =
    filter-append (is_on caller c) (map (λ e. line k e) es) (lines_from (suc k) ess)
    ∙ (ap (λ zs. zs ++ filter (is_on caller c) (lines_from (suc k) ess)) (on_other caller k c es (below_index k c lt)) ∙ none_below caller (suc k) c ess (omega (arith, lt)))

pub on_lines : (caller k c : ℕ) (round : Histories) → map entry_of_line (filter (is_on caller (k + c)) (lines_from k round)) ≡ entries_by caller (of_index c round)
on_lines caller k c [] = refl
on_lines caller k zero (es ∷ ess) =
    ap (map entry_of_line) (filter-append (is_on caller (k + 0)) (map (λ e. line k e) es) (lines_from (suc k) ess))
    ∙ (map-append entry_of_line (filter (is_on caller (k + 0)) (map (λ e. line k e) es)) (filter (is_on caller (k + 0)) (lines_from (suc k) ess))
    ∙ (ap (λ zs. zs ++ map entry_of_line (filter (is_on caller (k + 0)) (lines_from (suc k) ess))) (on_same caller k (k + 0) es (same_index k))
    ∙ (ap (λ zs. entries_by caller es ++ map entry_of_line zs) (none_below caller (suc k) (k + 0) ess (omega arith)) ∙ append-nil (entries_by caller es))))
on_lines caller k (suc c) (es ∷ ess) =
    let e : k + suc c ≡ suc k + c = omega arith in
    ap (map entry_of_line)
    (filter-append (is_on caller (k + suc c)) (map (λ e. line k e) es) (lines_from (suc k) ess)
    ∙ ap (λ zs. zs ++ filter (is_on caller (k + suc c)) (lines_from (suc k) ess)) (on_other caller k (k + suc c) es (other_index k c)))
    ∙ (ap (λ n. map entry_of_line (filter (is_on caller n) (lines_from (suc k) ess))) e ∙ on_lines caller (suc k) c ess)

-- and of the first entries of that checkable
abbrev no_lines : List EntryLine
no_lines = []

take_none : (n : ℕ) → take n no_lines ≡ no_lines
take_none zero = refl
take_none (suc n) = refl

none_first : (m : ℕ) (caller : ℕ) → m ≤ 0 → entries_by caller (take m []) ≡ []
none_first zero caller h = refl
none_first (suc m) caller h = absurd (omega (arith, h))

pub on_first_lines : (caller k c m : ℕ) (round : Histories) → m ≤ length (of_index c round) → map entry_of_line (filter (is_on caller (k + c)) (take (start c round + m) (lines_from k round))) ≡ entries_by caller (take m (of_index c round))
on_first_lines caller k c m [] h = ap (λ zs. map entry_of_line (filter (is_on caller (k + c)) zs)) (take_none (0 + m)) ∙ sym (none_first m caller h)
on_first_lines caller k zero m (es ∷ ess) h =
    let z : 0 + m ≡ m = omega arith in
    let lines : List EntryLine = map (λ e. line k e) es in
    let long : length lines ≡ length es = length_map (λ (e : Entry). line k e) es in
    ap (λ n. map entry_of_line (filter (is_on caller (k + 0)) (take n (lines ++ lines_from (suc k) ess)))) z
    ∙ (ap (λ zs. map entry_of_line (filter (is_on caller (k + 0)) zs)) (take_front m lines (lines_from (suc k) ess) (omega (arith, h, long)) ∙ take_map (λ (e : Entry). line k e) m es)
    ∙ on_same caller k (k + 0) (take m es) (same_index k))
on_first_lines caller k (suc c) m (es ∷ ess) h =
    let e : k + suc c ≡ suc k + c = omega arith in
    let lines : List EntryLine = map (λ e. line k e) es in
    let long : length lines ≡ length es = length_map (λ (e : Entry). line k e) es in
    let n : (length es + start c ess) + m ≡ length lines + (start c ess + m) = omega (arith, long) in
    let front : take ((length es + start c ess) + m) (lines ++ lines_from (suc k) ess) ≡ lines ++ take (start c ess + m) (lines_from (suc k) ess) =
    ap (λ n. take n (lines ++ lines_from (suc k) ess)) n ∙ take_past lines (lines_from (suc k) ess) (start c ess + m) in
    ap (λ zs. map entry_of_line (filter (is_on caller (k + suc c)) zs)) front
    ∙ (ap (map entry_of_line)
    (filter-append (is_on caller (k + suc c)) lines (take (start c ess + m) (lines_from (suc k) ess))
    ∙ ap (λ zs. zs ++ filter (is_on caller (k + suc c)) (take (start c ess + m) (lines_from (suc k) ess))) (on_other caller k (k + suc c) es (other_index k c)))
    ∙ (ap (λ n. map entry_of_line (filter (is_on caller n) (take (start c ess + m) (lines_from (suc k) ess)))) e ∙ on_first_lines caller (suc k) c m ess h))

pub start_within : (k c m : ℕ) (round : Histories) → m ≤ length (of_index c round) → start c round + m ≤ length (lines_from k round)
start_within k c m [] h = omega (arith, h)
start_within k zero m (es ∷ ess) h =
    let long : length (map (λ e. line k e) es) ≡ length es = length_map (λ (e : Entry). line k e) es in
    let both = length-append (map (λ e. line k e) es) (lines_from (suc k) ess) in
    omega (arith, h, long, both)
start_within k (suc c) m (es ∷ ess) h =
    let long : length (map (λ e. line k e) es) ≡ length es = length_map (λ (e : Entry). line k e) es in
    let both = length-append (map (λ e. line k e) es) (lines_from (suc k) ess) in
    let more = start_within (suc k) c m ess h in
    omega (arith, more, long, both)

-- ---- things

-- the entry at a place passes a test
abbrev pub passes : (EntryLine → Bool) → Option EntryLine → Bool
passes test None = false
passes test (Some x) = test x

abbrev pub at_place : List EntryLine → (EntryLine → Bool) → ℕ → Bool
at_place xs test t = passes test (slice_get xs t)

-- the entries at places
abbrev pub with_one : Option EntryLine → List Entry → List Entry
with_one None es = es
with_one (Some x) es = x.entry ∷ es

abbrev pub entries_at : List EntryLine → List ℕ → List Entry
entries_at xs [] = []
entries_at xs (t ∷ ts) = with_one (slice_get xs t) (entries_at xs ts)

pub entries_at_both : (xs : List EntryLine) (ts us : List ℕ) → entries_at xs (ts ++ us) ≡ entries_at xs ts ++ entries_at xs us
entries_at_both xs [] us = refl
entries_at_both xs (t ∷ ts) us = by (slice_get xs t) (entries_at_both xs ts us)
  where
    by : (o : Option EntryLine) → entries_at xs (ts ++ us) ≡ entries_at xs ts ++ entries_at xs us → with_one o (entries_at xs (ts ++ us)) ≡ with_one o (entries_at xs ts) ++ entries_at xs us
    by None ih = ih
    by (Some x) ih = ap (λ zs. x.entry ∷ zs) ih

-- the first of them
places_of : (test : EntryLine → Bool) (whole pre post : List EntryLine) (n q : ℕ) → whole ≡ pre ++ post → n ≡ length pre → q ≤ length post → entries_at whole (filter (at_place whole test) (from_on n q)) ≡ map entry_of_line (filter test (take q post))
places_of test whole pre post n zero e long le = refl
places_of test whole pre [] n (suc q) e long le = absurd (omega (arith, le))
places_of test whole pre (y ∷ post) n (suc q) e long le = by (test y) refl (places_of test whole (pre ++ y ∷ []) post (suc n) q (e ∙ sym (append_assoc pre (y ∷ []) post)) (let l = length-append pre (y ∷ []) in omega (arith, l, long)) (omega (arith, le)))
  where
    here : slice_get whole n ≡ Some y
    here = ap (slice_get whole) long ∙ (ap (λ zs. slice_get zs (length pre)) e ∙ get_at pre post y)

    rest : List ℕ
    rest = filter (at_place whole test) (from_on (suc n) q)

    by : (t : Bool) → test y ≡ t → entries_at whole rest ≡ map entry_of_line (filter test (take q post)) → entries_at whole (cond (passes test (slice_get whole n)) (n ∷ rest) rest) ≡ map entry_of_line (cond t (y ∷ filter test (take q post)) (filter test (take q post)))
    by true s ih =
        ap (λ o. entries_at whole (cond (passes test o) (n ∷ rest) rest)) here
        ∙ (ap (λ t. entries_at whole (cond t (n ∷ rest) rest)) s ∙ (ap (λ o. with_one o (entries_at whole rest)) here ∙ ap (λ zs. y.entry ∷ zs) ih))
    by false s ih = ap (λ o. entries_at whole (cond (passes test o) (n ∷ rest) rest)) here ∙ (ap (λ t. entries_at whole (cond t (n ∷ rest) rest)) s ∙ ih)

pub places_are : (test : EntryLine → Bool) (xs : List EntryLine) (q : ℕ) → q ≤ length xs → entries_at xs (filter (at_place xs test) (from_on 0 q)) ≡ map entry_of_line (filter test (take q xs))
places_are test xs q le = places_of test xs [] xs 0 q refl refl le

-- a caller's events on a checkable are those of its entries
abbrev pub event_in : Entry → Event
event_in e = e.event

pub events_are : (xs : List EntryLine) (caller c : ℕ) (ts : List ℕ) → events_on c (events_by xs caller ts) ≡ map event_in (entries_at xs (filter (at_place xs (is_on caller c)) ts))
events_are xs caller c [] = refl
events_are xs caller c (t ∷ ts) = by (slice_get xs t) refl (events_are xs caller c ts)
  where
    rest : List Asked
    rest = events_by xs caller ts

    kept : List ℕ
    kept = filter (at_place xs (is_on caller c)) ts

    one : (x : EntryLine) → slice_get xs t ≡ Some x → (u v : Bool) → nat_eq x.checkable c ≡ v → events_on c rest ≡ map event_in (entries_at xs kept)
        → events_on c (cond u (asked_in x ∷ rest) rest) ≡ map event_in (entries_at xs (cond (u && v) (t ∷ kept) kept))
    one x e true true q ih =
        ap (λ b. cond b (x.entry.event ∷ events_on c rest) (events_on c rest)) q
        ∙ (ap (λ zs. x.entry.event ∷ zs) ih ∙ sym (ap (λ o. map event_in (with_one o (entries_at xs kept))) e))
    one x e true false q ih = ap (λ b. cond b (x.entry.event ∷ events_on c rest) (events_on c rest)) q ∙ ih
    one x e false v q ih = ih

    by : (o : Option EntryLine) → slice_get xs t ≡ o → events_on c rest ≡ map event_in (entries_at xs kept) → events_on c (with_event caller o rest) ≡ map event_in (entries_at xs (cond (passes (is_on caller c) o) (t ∷ kept) kept))
    by None e ih = ih
    by (Some x) e ih = one x e (nat_eq x.entry.caller caller) (nat_eq x.checkable c) refl ih

-- an event is that of an entry at a place of the order
pub record IsFrom (xs : List EntryLine) (caller : ℕ) (order : List ℕ) (i : ℕ) (a : Asked) : Type 0 where
  pub p : ℕ
  pub t : ℕ
  pub x : EntryLine
  pub at : slice_get order p ≡ Some t
  pub is : slice_get xs t ≡ Some x
  pub by_caller : nat_eq x.entry.caller caller ≡ true
  pub asked : asked_in x ≡ a
  pub before : take i (events_by xs caller order) ≡ events_by xs caller (take p order)

abbrev no_events : List Asked
no_events = []

pub event_from : (xs : List EntryLine) (caller : ℕ) (order : List ℕ) (i : ℕ) (a : Asked) → slice_get (events_by xs caller order) i ≡ Some a → IsFrom xs caller order i a
event_from xs caller [] i a h = absurd cc
event_from xs caller (t ∷ ts) i a h = by (slice_get xs t) refl i h (event_from xs caller ts)
  where
    rest : List Asked
    rest = events_by xs caller ts

    -- behind one that the caller didn't make
    passed : (o : Option EntryLine) → slice_get xs t ≡ o → ((zs : List Asked) → with_event caller o zs ≡ zs) → (i : ℕ) → IsFrom xs caller ts i a → slice_get xs t ≡ o → IsFrom xs caller (t ∷ ts) i a
    passed o e same i m e' = record {
      p = suc m.p;
      t = m.t;
      x = m.x;
      at = m.at;
      is = m.is;
      by_caller = m.by_caller;
      asked = m.asked;
      before =
          ap (λ o. take i (with_event caller o rest)) e
          ∙ (ap (take i) (same rest) ∙ (m.before ∙ (sym (same (events_by xs caller (take m.p ts))) ∙ sym (ap (λ o. with_event caller o (events_by xs caller (take m.p ts))) e))));
    }

    one : (x : EntryLine) → slice_get xs t ≡ Some x → (u : Bool) → nat_eq x.entry.caller caller ≡ u → (i : ℕ) → slice_get (cond u (asked_in x ∷ rest) rest) i ≡ Some a → ((i : ℕ) (a : Asked) → slice_get rest i ≡ Some a → IsFrom xs caller ts i a) → IsFrom xs caller (t ∷ ts) i a
    one x e true q zero h more = record { p = 0; t = t; x = x; at = refl; is = e; by_caller = q; asked = cc; before = refl }
    one x e true q (suc i) h more =
        let m = more i a h in
        record {
          p = suc m.p;
          t = m.t;
          x = m.x;
          at = m.at;
          is = m.is;
          by_caller = m.by_caller;
          asked = m.asked;
          before =
              ap (λ o. take (suc i) (with_event caller o rest)) e
              ∙ (ap (λ u. take (suc i) (cond u (asked_in x ∷ rest) rest)) q
              ∙ (ap (λ zs. asked_in x ∷ zs) m.before
              ∙ (sym (ap (λ u. cond u (asked_in x ∷ events_by xs caller (take m.p ts)) (events_by xs caller (take m.p ts))) q) ∙ sym (ap (λ o. with_event caller o (events_by xs caller (take m.p ts))) e))));
        }
    one x e false q i h more =
        passed (Some x) e (λ zs. ap (λ u. cond u (asked_in x ∷ zs) zs) q) i (more i a h) e

    by : (o : Option EntryLine) → slice_get xs t ≡ o → (i : ℕ) → slice_get (with_event caller o rest) i ≡ Some a → ((i : ℕ) (a : Asked) → slice_get rest i ≡ Some a → IsFrom xs caller ts i a) → IsFrom xs caller (t ∷ ts) i a
    by None e i h more = passed None e (λ zs. refl) i (more i a h) e
    by (Some x) e i h more = one x e (nat_eq x.entry.caller caller) refl i h more

-- fewer events come from a shorter front
pub fewer_events : (xs : List EntryLine) (caller p q : ℕ) (order : List ℕ) → p ≤ q → length (events_by xs caller (take p order)) ≤ length (events_by xs caller (take q order))
fewer_events xs caller zero q order le = omega arith
fewer_events xs caller (suc p) zero order le = absurd (omega (arith, le))
fewer_events xs caller (suc p) (suc q) [] le = omega arith
fewer_events xs caller (suc p) (suc q) (t ∷ ts) le = by (slice_get xs t) (fewer_events xs caller p q ts (omega (arith, le)))
  where
    one : (x : EntryLine) (u : Bool) (as' bs : List Asked) → length as' ≤ length bs → length (cond u (asked_in x ∷ as') as') ≤ length (cond u (asked_in x ∷ bs) bs)
    one x true as' bs ih = omega (arith, ih)
    one x false as' bs ih = ih

    by : (o : Option EntryLine) → length (events_by xs caller (take p ts)) ≤ length (events_by xs caller (take q ts)) → length (with_event caller o (events_by xs caller (take p ts))) ≤ length (with_event caller o (events_by xs caller (take q ts)))
    by None ih = ih
    by (Some x) ih = one x (nat_eq x.entry.caller caller) (events_by xs caller (take p ts)) (events_by xs caller (take q ts)) ih
