-- The block of a turn tells a turn of which the round is the same.
use Rattle.std.proofs.Common.{◌≡◌, ◌+◌, ◌-◌, ◌^◌, ◌<◌, ◌≤◌, ℕ, zero, suc, nat_eq, nat_lt, not, Bool, true, false, cond, List, [], ◌∷◌, ◌++◌, length, get_or, map, filter, slice_get, IsPermutation, refl, sym, ap, ◌∙◌, subst, arith, append_assoc, Some, None, Option, ◌⊎◌, inl, inr, true≢false, eqb-true}
use Rattle.std.proofs.lemmas.Bool.{cases_lt}
use Rattle.std.proofs.lemmas.Bool.Decides.{nat_tests}
use Rattle.std.proofs.lemmas.List.{map-append}
use Rattle.std.proofs.lemmas.List.Sorted.{length_permutation, IsPermutation-map, IsPermutation-sym, IsPermutation-trans}
use Rattle.std.specs.List.{AllByRecursion}
use Rattle.site_edge.specs.declared.report.Report.{Report}
use Rattle.site_edge.specs.declared.turn.Turn.{Turn}
use Rattle.site_model.specs.PlainSite.{PlainSite, full_names}
use Rattle.site_model.specs.declared.event.Event.{Event}
use Rattle.site_model.specs.declared.event.Event.TheVariants as event
use Rattle.event_text.specs.Lines.{Answer, told, faulty}
use Rattle.log_text.specs.Fronts.{◌>>=◌}
use Rattle.run_meaning.specs.Acts.{Rules}
use Rattle.run_meaning.specs.Alone.{alone}
use Rattle.run_meaning.specs.Dealing.{line_events, report_refusals, still, taken_reports, Taken}
use Rattle.run_meaning.specs.Rounds.{behind, events_on, IsRound}
use Rattle.run_meaning.specs.Shares.{orders_refused}
use Rattle.run_meaning.specs.Turns.{Asked, Histories, Outstanding, Reported, from_on, of_index}
use Rattle.run_meaning.proofs.Lists.{get_front, get_map, get_within, length_map}
use Rattle.run_meaning.proofs.OneCaller.{only_alone}
use Rattle.run_meaning.proofs.Parts.{in_parts, part, parts}
use Rattle.run_text.specs.TurnReading.{as_line, lines_read, report_read}
use Rattle.site_audit.specs.Commands.{refused_text}
use Rattle.site_audit.specs.Hearing.{entries_heard}
use Rattle.site_audit.specs.Order.{stands}
use Rattle.site_audit.specs.Spots.{kind_of}
use Rattle.site_audit.specs.Telling.{is_report}
use Rattle.site_audit.specs.Told.{line_in, lines_at, nothing_heard, refused_report, report_in, reports_at, reports_with, turn_heard, turn_in, turn_told, turn_with}
use Rattle.site_audit.specs.Tracks.{taken_in}
use Rattle.audit_laws.specs.Types.{EntryLine, Open, OrderLine, Said}
use Rattle.audit_laws.specs.Askable.{CanBeAsked}
use Rattle.audit_laws.specs.Heard.{AllSay, HaveOneResult}
use Rattle.audit_laws.specs.Kinds.{lines_among, reports_among, AllRise, AreAsInTurn, AreOfTurn, AreSameOnEach, NeverFall}
use Rattle.audit_laws.specs.Names.{IsWellNamed}
use Rattle.audit_laws.specs.Refilled.{asking_among, AreRefilled, AskFor}
use Rattle.audit_laws.specs.Rereported.{orders_of, orders_taken, refused_again, told_again, AreRereported, AreTakenAs}
use Rattle.audit_laws.specs.Retaken.{asked_in, events_by, lines_from, spots_from, with_event, AreInKinds, AreOthers, HaveRoom}
use Rattle.audit_laws.specs.ToldTurns.{block_of, events_of_turn, AreRising, IsTellable, IsToldSo}
use Rattle.audit_laws.proofs.EventFacts.{all_imply, all_taken, command_is, kind_asked, lacking_kind, line_sayable, not_of, result_kind, result_kind_is, result_sayable, said_kind, says, taken_facts, tick_kind, tick_sayable, tick_word, was_still, IsLackingWord, IsLineWord, IsReportWord, IsResultOf, IsSayable, IsTaken, IsTickWord}
use Rattle.audit_laws.proofs.Hearing.{heard}
use Rattle.audit_laws.proofs.KindOrder.{as_in_turn}
use Rattle.audit_laws.proofs.Ordering.{from_within, is_eq, permuted, there_stands, twice}
use Rattle.audit_laws.proofs.Places.{get_behind}
use Rattle.audit_laws.proofs.Refilling.{refilled}
use Rattle.audit_laws.proofs.Rereporting.{once_taken, refusals_append, rereported, still_append, taken_append}
use Rattle.audit_laws.proofs.Retaking.{by_kinds, things_within, told_round}
use Rattle.audit_laws.proofs.SomeOrder.{of_thing, same_place, some_order, IsOf}
use Rattle.audit_laws.proofs.Tracking.{tracks_meet}

-- ---- lists

pub some_same : {A : Type 0} (x y : A) → Some x ≡ Some y → x ≡ y
some_same x y e = cc

pub all_at : {A : Type 0} (P : A → Type 0) (xs : List A) (i : ℕ) (x : A) → AllByRecursion P xs → slice_get xs i ≡ Some x → P x
all_at P [] i x h e = absurd cc
all_at P (y ∷ xs) zero x h e = subst P (some_same y x e) h.0
all_at P (y ∷ xs) (suc i) x h e = all_at P xs i x h.1 e

pub all_from : {A : Type 0} (P : A → Type 0) (xs : List A) → ((i : ℕ) (x : A) → slice_get xs i ≡ Some x → P x) → AllByRecursion P xs
all_from P [] h = tt
all_from P (x ∷ xs) h = (h 0 x refl, all_from P xs (λ i. h (suc i)))

pub all_both : {A : Type 0} (P : A → Type 0) (xs ys : List A) → AllByRecursion P xs → AllByRecursion P ys → AllByRecursion P (xs ++ ys)
all_both P [] ys h g = g
all_both P (x ∷ xs) ys h g = (h.0, all_both P xs ys h.1 g)

pub all_mapped : {A B : Type 0} (f : A → B) (P : B → Type 0) (xs : List A) → AllByRecursion (λ a. P (f a)) xs → AllByRecursion P (map f xs)
all_mapped f P [] h = tt
all_mapped f P (x ∷ xs) h = (h.0, all_mapped f P xs h.1)

abbrev pub taken_event : Taken → Asked
taken_event t = t.asked

-- ---- kinds along lists

pub fall_both : (kind : Asked → ℕ) (q : ℕ) (xs ys : List Asked) → NeverFall kind xs → NeverFall kind ys → AllByRecursion (λ a. kind a ≤ q) xs → AllByRecursion (λ a. q ≤ kind a) ys → NeverFall kind (xs ++ ys)
fall_both kind q [] ys h g low high = g
fall_both kind q (x ∷ xs) ys h g low high =
    (all_both (λ b. kind x ≤ kind b) xs ys h.0 (let le = low.0 in all_imply (λ b. q ≤ kind b) (λ b. kind x ≤ kind b) (λ b m. omega (arith, le, m)) ys high), fall_both kind q xs ys h.1 g low.1 high)

pub fall_same : (kind : Asked → ℕ) (q : ℕ) (xs : List Asked) → AllByRecursion (λ a. kind a ≡ q) xs → NeverFall kind xs
fall_same kind q [] h = tt
fall_same kind q (x ∷ xs) h = let e = h.0 in (all_imply (λ b. kind b ≡ q) (λ b. kind x ≤ kind b) (λ b f. omega (arith, e, f)) xs h.1, fall_same kind q xs h.1)

pub fall_rise : (kind : Asked → ℕ) (xs : List Asked) → AllRise kind xs → NeverFall kind xs
fall_rise kind [] h = tt
fall_rise kind (x ∷ xs) h = (all_imply (λ b. kind x < kind b) (λ b. kind x ≤ kind b) (λ b lt. omega (arith, lt)) xs h.0, fall_rise kind xs h.1)

pub fall_at : (kind : Asked → ℕ) (xs : List Asked) (i j : ℕ) (a b : Asked) → NeverFall kind xs → i ≤ j → slice_get xs i ≡ Some a → slice_get xs j ≡ Some b → kind a ≤ kind b
fall_at kind [] i j a b h le p q = absurd cc
fall_at kind (x ∷ xs) zero zero a b h le p q = let e : a ≡ b = cc in let f = ap kind e in omega (arith, f)
fall_at kind (x ∷ xs) zero (suc j) a b h le p q = let e : x ≡ a = cc in let f = ap kind e in let m = all_at (λ z. kind x ≤ kind z) xs j b h.0 q in omega (arith, f, m)
fall_at kind (x ∷ xs) (suc i) zero a b h le p q = absurd (omega (arith, le))
fall_at kind (x ∷ xs) (suc i) (suc j) a b h le p q = fall_at kind xs i j a b h.1 (omega (arith, le)) p q

pub rise_taken : (kind : Asked → ℕ) (ts : List Taken) → AllByRecursion (λ t. kind t.asked ≡ 1 + t.order) ts → AreRising (orders_taken ts) → AllRise kind (map taken_event ts)
rise_taken kind [] h r = tt
rise_taken kind (t ∷ ts) h r = (first ts h.1 r.0, rise_taken kind ts h.1 r.1)
  where
    first : (us : List Taken) → AllByRecursion (λ u. kind u.asked ≡ 1 + u.order) us → AllByRecursion (λ m. t.order < m) (orders_taken us) → AllByRecursion (λ b. kind t.asked < kind b) (map taken_event us)
    first [] g q = tt
    first (u ∷ us) g q = let e = h.0 in let f = g.0 in let lt = q.0 in (omega (arith, e, f, lt), first us g.1 q.1)

pub rise_ticks : (kind : Asked → ℕ) (n : ℕ) (as' : List Asked) → AllByRecursion (λ a. kind a ≡ n + a.checkable) as' → AllRise (λ a. a.checkable) as' → AllRise kind as'
rise_ticks kind n [] h r = tt
rise_ticks kind n (a ∷ as') h r = (first as' h.1 r.0, rise_ticks kind n as' h.1 r.1)
  where
    first : (bs : List Asked) → AllByRecursion (λ b. kind b ≡ n + b.checkable) bs → AllByRecursion (λ b. a.checkable < b.checkable) bs → AllByRecursion (λ b. kind a < kind b) bs
    first [] g q = tt
    first (b ∷ bs) g q = let e = h.0 in let f = g.0 in let lt = q.0 in (omega (arith, e, f, lt), first bs g.1 q.1)

-- ---- the same on each checkable is the same in another order

abbrev pub place : Asked → ℕ
place a = a.checkable

pub part_is : (k : ℕ) (xs : List Asked) → part place k xs ≡ map (λ e. record { checkable = k; event = e }) (events_on k xs)
part_is k [] = refl
part_is k (x ∷ xs) = by (nat_eq x.checkable k) refl (part_is k xs)
  where
    by : (t : Bool) → nat_eq x.checkable k ≡ t → part place k xs ≡ map (λ e. record { checkable = k; event = e }) (events_on k xs) → cond t (x ∷ part place k xs) (part place k xs) ≡ map (λ e. record { checkable = k; event = e }) (cond t (x.event ∷ events_on k xs) (events_on k xs))
    by true e ih = ap (λ c. record { checkable = c; event = x.event } ∷ part place k xs) (eqb-true x.checkable k e) ∙ ap (λ zs. record { checkable = k; event = x.event } ∷ zs) ih
    by false e ih = ih

pub parts_same : (n k : ℕ) (xs ys : List Asked) → AreSameOnEach xs ys → parts place k n xs ≡ parts place k n ys
parts_same zero k xs ys h = refl
parts_same (suc n) k xs ys h =
    ap (λ zs. zs ++ parts place (suc k) n xs) (part_is k xs ∙ (ap (map (λ e. record { checkable = k; event = e })) (h k) ∙ sym (part_is k ys)))
    ∙ ap (λ zs. part place k ys ++ zs) (parts_same n (suc k) xs ys h)

abbrev pub sum_places : List Asked → ℕ
sum_places [] = 0
sum_places (a ∷ as') = a.checkable + sum_places as'

pub below_sum : (xs : List Asked) (i : ℕ) (a : Asked) → slice_get xs i ≡ Some a → a.checkable ≤ sum_places xs
below_sum [] i a h = absurd cc
below_sum (x ∷ xs) zero a h = let e : x.checkable ≡ a.checkable = ap place (some_same x a h) in omega (arith, e)
below_sum (x ∷ xs) (suc i) a h = let m = below_sum xs i a h in omega (arith, m)

pub same_permuted : (xs ys : List Asked) → AreSameOnEach xs ys → IsPermutation xs ys
same_permuted xs ys h =
    let n = suc (sum_places xs + sum_places ys) in
    let p = in_parts place n 0 xs (λ i a at. let m = below_sum xs i a at in (omega arith, omega (arith, m))) in
    let q = in_parts place n 0 ys (λ i a at. let m = below_sum ys i a at in (omega arith, omega (arith, m))) in
    IsPermutation-trans xs (parts place 0 n xs) ys p (subst (λ zs. IsPermutation zs ys) (sym (parts_same n 0 xs ys h)) (IsPermutation-sym ys (parts place 0 n ys) q))

-- ---- a turn

module _ (s : PlainSite) (w : IsWellNamed s) (opens : List (Option Open)) (os : List Outstanding) (due reports : List Reported) (answers : List Answer) (ticks : List Asked) (moment : ℕ) (orders : List OrderLine) (r : Rules) (before round : Histories) (t : IsTellable s opens os due answers ticks) where
  abbrev pub left : List Outstanding
  left = still due os

  abbrev pub kind : Asked → ℕ
  kind a = kind_asked opens a

  abbrev pub L : List Asked
  L = line_events (map as_line answers)

  abbrev pub D : List Asked
  D = map taken_event (taken_reports os due)

  abbrev pub R : List Asked
  R = map taken_event (taken_reports left reports)

  abbrev pub whole : List Asked
  whole = L ++ (D ++ (R ++ ticks))

  abbrev pub events : List Asked
  events = events_of_turn os (due ++ reports) (map as_line answers) ticks

  pub whole_is : events ≡ whole
  whole_is =
      ap (λ zs. L ++ (zs ++ ticks)) (ap (map taken_event) (taken_append os due reports) ∙ map-append taken_event (taken_reports os due) (taken_reports left reports))
      ∙ ap (λ zs. L ++ zs) (append_assoc D R ticks)

  abbrev pub Askable : Asked → Type 0
  Askable a = CanBeAsked s a.checkable a.event

  abbrev pub IsTick : Asked → Type 0
  IsTick a = (a.event ≡ event.Tick) × (a.checkable < 2 ^ 32)

  abbrev pub IsLacking : Asked → Type 0
  IsLacking a = (1 ≤ kind a) × (kind a < 2 ^ 64 + 1)

  -- what each is
  pub of_due : (u : Taken) → IsTaken os due u → IsResultOf s opens os left true u
  of_due u h = record {
    opened = t.opened u.asked.checkable u.order h.there ∙ ap (λ m. Some (record { number = u.order; missing = m })) h.reported;
    status = h.status;
    output = h.output;
    event = h.event;
    left_is = λ e. absurd (true≢false e);
  }

  pub due_are : AllByRecursion (IsResultOf s opens os left true) (taken_reports os due)
  due_are = all_imply (IsTaken os due) (IsResultOf s opens os left true) of_due (taken_reports os due) (taken_facts os due)

  pub of_report : (u : Taken) → IsTaken left reports u → IsResultOf s opens os left false u
  of_report u h = record {
    opened = t.opened u.asked.checkable u.order (was_still due u.order u.asked.checkable os h.there) ∙ ap (λ m. Some (record { number = u.order; missing = m })) (not_of due os u.order u.asked.checkable h.there);
    status = h.status;
    output = h.output;
    event = h.event;
    left_is = λ e. h.there;
  }

  pub reports_are : AllByRecursion (IsResultOf s opens os left false) (taken_reports left reports)
  reports_are = all_imply (IsTaken left reports) (IsResultOf s opens os left false) of_report (taken_reports left reports) (taken_facts left reports)

  -- each says something
  abbrev pub Sayable : Asked → Type 0
  Sayable a = IsSayable s opens os left a

  pub all_sayable : AllByRecursion Sayable whole
  all_sayable =
      all_both Sayable L (D ++ (R ++ ticks)) (all_imply Askable Sayable (line_sayable s opens os left w) L t.asked)
      (all_both Sayable D (R ++ ticks) (all_mapped taken_event Sayable (taken_reports os due) (all_imply (IsResultOf s opens os left true) (λ u. Sayable (taken_event u)) (λ u h. result_sayable s opens os left true u (t.fit u.asked.checkable (record { number = u.order; missing = true }) h.opened) h) (taken_reports os due) due_are))
      (all_both Sayable R ticks (all_mapped taken_event Sayable (taken_reports left reports) (all_imply (IsResultOf s opens os left false) (λ u. Sayable (taken_event u)) (λ u h. result_sayable s opens os left false u (t.fit u.asked.checkable (record { number = u.order; missing = false }) h.opened) h) (taken_reports left reports) reports_are))
      (all_imply IsTick Sayable (λ a h. tick_sayable s opens os left a h.0) ticks t.are_ticks)))

  -- kinds
  pub line_kinds : AllByRecursion (λ a. kind a ≡ 0) L
  line_kinds = all_imply Askable (λ a. kind a ≡ 0) (λ a can. (command_is (get_or opens a.checkable None) a.checkable can.check.host a.event can.range).0) L t.asked

  pub due_taken_kinds : AllByRecursion (λ u. kind u.asked ≡ 1 + u.order) (taken_reports os due)
  due_taken_kinds = all_imply (IsResultOf s opens os left true) (λ u. kind u.asked ≡ 1 + u.order) (λ u h. result_kind_is s opens os left true u h) (taken_reports os due) due_are

  pub due_kinds : AllByRecursion (λ a. (1 ≤ kind a) × (kind a < 2 ^ 64 + 1)) D
  due_kinds =
      all_mapped taken_event (λ a. (1 ≤ kind a) × (kind a < 2 ^ 64 + 1)) (taken_reports os due)
      (all_imply (IsResultOf s opens os left true) (λ u. (1 ≤ kind u.asked) × (kind u.asked < 2 ^ 64 + 1))
      (λ u h. let e = result_kind_is s opens os left true u h in let lt = t.fit u.asked.checkable (record { number = u.order; missing = true }) h.opened in (omega (arith, e), omega (arith, e, lt))) (taken_reports os due) due_are)

  pub report_kinds : AllByRecursion (λ a. kind a ≡ 2 ^ 64 + 1) R
  report_kinds =
      all_mapped taken_event (λ a. kind a ≡ 2 ^ 64 + 1) (taken_reports left reports)
      (all_imply (IsResultOf s opens os left false) (λ u. kind u.asked ≡ 2 ^ 64 + 1) (λ u h. result_kind_is s opens os left false u h) (taken_reports left reports) reports_are)

  pub tick_kinds : AllByRecursion (λ a. kind a ≡ 2 ^ 64 + 2 + a.checkable) ticks
  tick_kinds = all_imply IsTick (λ a. kind a ≡ 2 ^ 64 + 2 + a.checkable) (λ a h. ap (λ e. kind_asked opens (record { checkable = a.checkable; event = e })) h.0) ticks t.are_ticks

  pub due_rise : AllRise kind D
  due_rise = rise_taken kind (taken_reports os due) due_taken_kinds (subst AreRising (sym (all_taken os due t.due_taken)) t.due_rise)

  pub tick_rise : AllRise kind ticks
  tick_rise = rise_ticks kind (2 ^ 64 + 2) ticks tick_kinds t.ticks_rise

  pub of_turn : AreOfTurn kind 1 (2 ^ 64 + 1) (2 ^ 64 + 2) L D R ticks
  of_turn = record {
    ordered = (omega arith, omega arith);
    are_lines = all_imply (λ a. kind a ≡ 0) (λ a. kind a < 1) (λ a e. omega (arith, e)) L line_kinds;
    are_lacking = all_imply IsLacking (λ a. 1 ≤ kind a) (λ a h. h.0) D due_kinds;
    lacking_end = all_imply IsLacking (λ a. kind a < 2 ^ 64 + 1) (λ a h. h.1) D due_kinds;
    are_reports = all_imply (λ a. kind a ≡ 2 ^ 64 + 1) (λ a. 2 ^ 64 + 1 ≤ kind a) (λ a e. omega (arith, e)) R report_kinds;
    reports_end = all_imply (λ a. kind a ≡ 2 ^ 64 + 1) (λ a. kind a < 2 ^ 64 + 2) (λ a e. omega (arith, e)) R report_kinds;
    are_ticks = all_imply (λ a. kind a ≡ 2 ^ 64 + 2 + a.checkable) (λ a. 2 ^ 64 + 2 ≤ kind a) (λ a e. omega (arith, e)) ticks tick_kinds;
    lacking_rise = due_rise;
    ticks_rise = tick_rise;
    lacking_places = λ a b same p q.
        lacking_kind (get_or opens a.checkable None) a.checkable a.event p.0 p.1
        ∙ (ap (λ c. result_kind (get_or opens c None)) same ∙ sym (lacking_kind (get_or opens b.checkable None) b.checkable b.event q.0 q.1));
    tick_places = λ a b same p q.
        tick_kind (get_or opens a.checkable None) a.checkable a.event (t.fit a.checkable) p
        ∙ (ap (λ c. 2 ^ 64 + 2 + c) same ∙ sym (tick_kind (get_or opens b.checkable None) b.checkable b.event (t.fit b.checkable) q));
  }

  pub whole_falls : NeverFall kind whole
  whole_falls =
      fall_both kind 0 L (D ++ (R ++ ticks)) (fall_same kind 0 L line_kinds)
      (fall_both kind (2 ^ 64) D (R ++ ticks) (fall_rise kind D due_rise)
      (fall_both kind (2 ^ 64 + 1) R ticks (fall_same kind (2 ^ 64 + 1) R report_kinds) (fall_rise kind ticks tick_rise)
      (all_imply (λ a. kind a ≡ 2 ^ 64 + 1) (λ a. kind a ≤ 2 ^ 64 + 1) (λ a e. omega (arith, e)) R report_kinds)
      (all_imply (λ a. kind a ≡ 2 ^ 64 + 2 + a.checkable) (λ a. 2 ^ 64 + 1 ≤ kind a) (λ a e. omega (arith, e)) ticks tick_kinds))
      (all_imply IsLacking (λ a. kind a ≤ 2 ^ 64) (λ a h. let lt = h.1 in omega (arith, lt)) D due_kinds)
      (all_both (λ a. 2 ^ 64 ≤ kind a) R ticks (all_imply (λ a. kind a ≡ 2 ^ 64 + 1) (λ a. 2 ^ 64 ≤ kind a) (λ a e. omega (arith, e)) R report_kinds) (all_imply (λ a. kind a ≡ 2 ^ 64 + 2 + a.checkable) (λ a. 2 ^ 64 ≤ kind a) (λ a e. omega (arith, e)) ticks tick_kinds)))
      (all_imply (λ a. kind a ≡ 0) (λ a. kind a ≤ 0) (λ a e. omega (arith, e)) L line_kinds)
      (all_from (λ a. 0 ≤ kind a) (D ++ (R ++ ticks)) (λ i a at. omega arith))

  pub small_kinds : AllByRecursion (λ a. kind a < 2 ^ 66) whole
  small_kinds =
      all_both (λ a. kind a < 2 ^ 66) L (D ++ (R ++ ticks)) (all_imply (λ a. kind a ≡ 0) (λ a. kind a < 2 ^ 66) (λ a e. omega (arith, e)) L line_kinds)
      (all_both (λ a. kind a < 2 ^ 66) D (R ++ ticks) (all_imply IsLacking (λ a. kind a < 2 ^ 66) (λ a h. let lt = h.1 in omega (arith, lt)) D due_kinds)
      (all_both (λ a. kind a < 2 ^ 66) R ticks (all_imply (λ a. kind a ≡ 2 ^ 64 + 1) (λ a. kind a < 2 ^ 66) (λ a e. omega (arith, e)) R report_kinds)
      (all_from (λ a. kind a < 2 ^ 66) ticks (λ i a at. let e = all_at (λ a. kind a ≡ 2 ^ 64 + 2 + a.checkable) ticks i a tick_kinds at in let h = all_at IsTick ticks i a t.are_ticks at in let lt = h.1 in omega (arith, e, lt)))))

  -- ---- results

  abbrev pub taken_all : List Taken
  taken_all = taken_reports os (due ++ reports)

  -- a result is one of a report that is taken
  pub record IsTakenAt (i : ℕ) (a : Asked) : Type 0 where
    pub k : ℕ
    pub u : Taken
    pub at : slice_get taken_all k ≡ Some u
    pub is : u.asked ≡ a
    pub there : i ≡ length L + k

  pub not_result : (e : Event) → e ≡ event.Tick → is_report e ≡ true → ⊥
  not_result e h q = absurd (true≢false (sym q ∙ ap is_report h))

  pub result_at : (i : ℕ) (a : Asked) → slice_get events i ≡ Some a → is_report a.event ≡ true → IsTakenAt i a
  result_at i a at q = by (cases_lt i (length L))
    where
      results : List Asked
      results = map taken_event taken_all

      behind_lines : (n : ℕ) → i ≡ length L + n → slice_get (results ++ ticks) n ≡ Some a → (n < length results) ⊎ (length results ≤ n) → IsTakenAt i a
      behind_lines n e at (inl lt) =
          let (u, there, is) = get_map taken_event taken_all n a (sym (get_front results ticks n lt) ∙ at) in
          record { k = n; u = u; at = there; is = is; there = e }
      behind_lines n e at (inr le) =
          let split : n ≡ length results + (n - length results) = omega (arith, le) in
          let h = all_at IsTick ticks (n - length results) a t.are_ticks (sym (get_behind results ticks (n - length results)) ∙ (ap (slice_get (results ++ ticks)) (sym split) ∙ at)) in
          absurd (not_result a.event h.0 q)

      by : (i < length L) ⊎ (length L ≤ i) → IsTakenAt i a
      by (inl lt) =
          let can = all_at Askable L i a t.asked (sym (get_front L (results ++ ticks) i lt) ∙ at) in
          let is = (command_is (get_or opens a.checkable None) a.checkable can.check.host a.event can.range).1 in
          absurd (true≢false (sym q ∙ is))
      by (inr le) =
          let n = i - length L in
          let split : i ≡ length L + n = omega (arith, le) in
          behind_lines n split (sym (get_behind L (results ++ ticks) n) ∙ (ap (slice_get (L ++ (results ++ ticks))) (sym split) ∙ at)) (cases_lt n (length results))

  pub order_of : (a b : Open) → Some a ≡ Some b → a.number ≡ b.number
  order_of a b e = ap (λ (o : Open). o.number) (some_same a b e)

  -- two results of one checkable are one
  pub one_result : (i j : ℕ) (a b : Asked) → slice_get events i ≡ Some a → slice_get events j ≡ Some b → is_report a.event ≡ true → is_report b.event ≡ true → a.checkable ≡ b.checkable → i ≡ j
  one_result i j a b p q f g same = by (cases_lt x.k y.k) (cases_lt y.k x.k)
    where
      x : IsTakenAt i a
      x = result_at i a p f

      y : IsTakenAt j b
      y = result_at j b q g

      places : x.u.asked.checkable ≡ y.u.asked.checkable
      places = ap place x.is ∙ (same ∙ sym (ap place y.is))

      one_order : x.u.order ≡ y.u.order
      one_order =
          let m = all_at (IsTaken os (due ++ reports)) taken_all x.k x.u (taken_facts os (due ++ reports)) x.at in
          let n = all_at (IsTaken os (due ++ reports)) taken_all y.k y.u (taken_facts os (due ++ reports)) y.at in
          order_of (record { number = x.u.order; missing = stands (orders_of due) x.u.order }) (record { number = y.u.order; missing = stands (orders_of due) y.u.order })
          (sym (t.opened x.u.asked.checkable x.u.order m.there) ∙ (ap (λ c. get_or opens c None) places ∙ t.opened y.u.asked.checkable y.u.order n.there))

      order_at : (k : ℕ) (u : Taken) → slice_get taken_all k ≡ Some u → slice_get (orders_taken taken_all) k ≡ Some u.order
      order_at k u at = got taken_all k u at
        where
          got : (ts : List Taken) (k : ℕ) (u : Taken) → slice_get ts k ≡ Some u → slice_get (orders_taken ts) k ≡ Some u.order
          got [] k u e = absurd cc
          got (v ∷ ts) zero u e = ap (λ (z : Taken). Some z.order) (some_same v u e)
          got (v ∷ ts) (suc k) u e = got ts k u e

      by : (x.k < y.k) ⊎ (y.k ≤ x.k) → (y.k < x.k) ⊎ (x.k ≤ y.k) → i ≡ j
      by (inl lt) o = let two = twice (orders_taken taken_all) y.u.order x.k y.k (order_at x.k x.u x.at ∙ ap Some one_order) (order_at y.k y.u y.at) lt in let one = once_taken os (due ++ reports) y.u.order in absurd (omega (arith, two, one))
      by (inr le) (inl lt) = let two = twice (orders_taken taken_all) y.u.order y.k x.k (order_at y.k y.u y.at) (order_at x.k x.u x.at ∙ ap Some one_order) lt in let one = once_taken os (due ++ reports) y.u.order in absurd (omega (arith, two, one))
      by (inr le) (inr ge) = let a = x.there in let b = y.there in omega (arith, a, b, le, ge)

  -- ---- what entries say

  pub record AreSaid (xs : List EntryLine) : Type 0 where
    pub list : List Said
    pub say : AllSay (full_names s) opens xs list
    pub many : length list ≡ length xs

  pub said_all : (xs : List EntryLine) → AllByRecursion (λ x. Sayable (asked_in x)) xs → AreSaid xs
  said_all [] g = record { list = []; say = tt; many = refl }
  said_all (x ∷ xs) g = let m = said_all xs g.1 in record { list = g.0.word ∷ m.list; say = (g.0.is, m.say); many = ap suc m.many }

  pub say_at : (xs : List EntryLine) (ss : List Said) (k : ℕ) (x : EntryLine) (z : Said) → AllSay (full_names s) opens xs ss → slice_get xs k ≡ Some x → slice_get ss k ≡ Some z → says s opens os left (asked_in x) ≡ Some z
  say_at [] ss k x z g at is = absurd cc
  say_at (y ∷ xs) [] k x z g at is = absurd g
  say_at (y ∷ xs) (v ∷ ss) zero x z g at is = sym (ap (λ (q : EntryLine). says s opens os left (asked_in q)) (some_same y x at)) ∙ (g.0 ∙ is)
  say_at (y ∷ xs) (v ∷ ss) (suc k) x z g at is = say_at xs ss k x z g.1 at is

  pub one_from : (xs : List EntryLine) → ((k u : ℕ) (x y : EntryLine) → k < u → slice_get xs k ≡ Some x → slice_get xs u ≡ Some y → is_report x.entry.event ≡ true → is_report y.entry.event ≡ true → x.checkable ≡ y.checkable → ⊥) → HaveOneResult xs
  one_from [] g = tt
  one_from (x ∷ xs) g = (all_from (λ y. is_report x.entry.event ≡ true → is_report y.entry.event ≡ true → x.checkable ≡ y.checkable → ⊥) xs (λ u y at p q e. g 0 (suc u) x y (omega arith) refl at p q e), one_from xs (λ k u x y lt. g (suc k) (suc u) x y (omega (arith, lt))))

  -- ---- what is told

  pub below_is : (a q : ℕ) → a < q → nat_lt a q ≡ true
  below_is a q lt = grind (arith, nat_tests, lt)

  pub above_is : (a q : ℕ) → q ≤ a → nat_lt a q ≡ false
  above_is a q le = grind (arith, nat_tests, le)

  abbrev pub among : List Asked → List Asked
  among zs = lines_among kind 1 zs

  abbrev pub reported : List Asked → List Asked
  reported zs = reports_among kind 1 (2 ^ 64 + 1) (2 ^ 64 + 2) zs

  -- of one event more
  pub line_more : (a : Asked) (zs : List Asked) → kind a ≡ 0 → among (a ∷ zs) ≡ a ∷ among zs
  line_more a zs e = ap (λ t. cond t (a ∷ among zs) (among zs)) (below_is (kind a) 1 (omega (arith, e)))

  pub line_no_more : (a : Asked) (zs : List Asked) → 1 ≤ kind a → among (a ∷ zs) ≡ among zs
  line_no_more a zs le = ap (λ t. cond t (a ∷ among zs) (among zs)) (above_is (kind a) 1 le)

  abbrev pub above_lines : List Asked → List Asked
  above_lines zs = filter (λ a. not (nat_lt (kind a) 1)) zs

  abbrev pub above_lacking : List Asked → List Asked
  above_lacking zs = filter (λ a. not (nat_lt (kind a) (2 ^ 64 + 1))) zs

  abbrev pub below_ticks : List Asked → List Asked
  below_ticks zs = filter (λ a. nat_lt (kind a) (2 ^ 64 + 2)) zs

  pub past_lines : (a : Asked) (zs : List Asked) → 1 ≤ kind a → above_lines (a ∷ zs) ≡ a ∷ above_lines zs
  past_lines a zs le = ap (λ t. cond (not t) (a ∷ above_lines zs) (above_lines zs)) (above_is (kind a) 1 le)

  pub past_lacking : (a : Asked) (zs : List Asked) → 2 ^ 64 + 1 ≤ kind a → above_lacking (a ∷ zs) ≡ a ∷ above_lacking zs
  past_lacking a zs le = ap (λ t. cond (not t) (a ∷ above_lacking zs) (above_lacking zs)) (above_is (kind a) (2 ^ 64 + 1) le)

  pub no_line : (a : Asked) (zs : List Asked) → kind a ≡ 0 → reported (a ∷ zs) ≡ reported zs
  no_line a zs e = ap (λ t. below_ticks (above_lacking (cond (not t) (a ∷ above_lines zs) (above_lines zs)))) (below_is (kind a) 1 (omega (arith, e)))

  pub no_lacking : (a : Asked) (zs : List Asked) → 1 ≤ kind a → kind a < 2 ^ 64 + 1 → reported (a ∷ zs) ≡ reported zs
  no_lacking a zs low high =
      ap (λ ys. below_ticks (above_lacking ys)) (past_lines a zs low)
      ∙ ap (λ t. below_ticks (cond (not t) (a ∷ above_lacking (above_lines zs)) (above_lacking (above_lines zs)))) (below_is (kind a) (2 ^ 64 + 1) high)

  pub report_more : (a : Asked) (zs : List Asked) → kind a ≡ 2 ^ 64 + 1 → reported (a ∷ zs) ≡ a ∷ reported zs
  report_more a zs e =
      ap (λ ys. below_ticks (above_lacking ys)) (past_lines a zs (omega (arith, e)))
      ∙ (ap (λ ys. below_ticks ys) (past_lacking a (above_lines zs) (omega (arith, e)))
      ∙ ap (λ t. cond t (a ∷ reported zs) (reported zs)) (below_is (kind a) (2 ^ 64 + 2) (omega (arith, e))))

  pub no_tick : (a : Asked) (zs : List Asked) → 2 ^ 64 + 2 ≤ kind a → reported (a ∷ zs) ≡ reported zs
  no_tick a zs le =
      ap (λ ys. below_ticks (above_lacking ys)) (past_lines a zs (omega (arith, le)))
      ∙ (ap (λ ys. below_ticks ys) (past_lacking a (above_lines zs) (omega (arith, le)))
      ∙ ap (λ t. cond t (a ∷ reported zs) (reported zs)) (above_is (kind a) (2 ^ 64 + 2) le))

  -- what is taken of the reports
  abbrev pub taken_as : EntryLine → Report → Taken
  taken_as x q = record { order = q.order; asked = asked_in x }

  abbrev pub with_taken : Option EntryLine → Option Said → List Taken → List Taken
  with_taken None z us = us
  with_taken (Some x) z us = map (taken_as x) (report_in z) ++ us

  abbrev pub Opened : Taken → Type 0
  Opened u = get_or opens u.asked.checkable None ≡ Some (record { number = u.order; missing = false })

  pub record AreTold (lines : List (List ℕ)) (reps : List Reported) (us : List Taken) (zs : List Asked) : Type 0 where
    pub ask : AskFor s lines (among zs)
    pub as_taken : AreTakenAs left reps us
    pub asked : map taken_event us ≡ reported zs
    pub opened : AllByRecursion Opened us

  -- one entry more
  pub shown : (x : EntryLine) (word : Said) (ls : List (List ℕ)) (qs : List Report) (lines : List (List ℕ)) (reps : List Report) (us : List Taken) (zs : List Asked) → line_in (Some word) ≡ ls → report_in (Some word) ≡ qs
      → AreTold (ls ++ lines) (map report_read (qs ++ reps)) (map (taken_as x) qs ++ us) zs → AreTold (line_in (Some word) ++ lines) (map report_read (report_in (Some word) ++ reps)) (with_taken (Some x) (Some word) us) zs
  shown x word ls qs lines reps us zs e f m =
      subst (λ a. AreTold (a ++ lines) (map report_read (report_in (Some word) ++ reps)) (map (taken_as x) (report_in (Some word)) ++ us) zs) (sym e)
      (subst (λ b. AreTold (ls ++ lines) (map report_read (b ++ reps)) (map (taken_as x) b ++ us) zs) (sym f) m)

  pub one_told : (x : EntryLine) (g : Sayable (asked_in x)) (lines : List (List ℕ)) (reps : List Report) (us : List Taken) (zs : List Asked) → AreTold lines (map report_read reps) us zs
      → AreTold (line_in (Some g.word) ++ lines) (map report_read (report_in (Some g.word) ++ reps)) (with_taken (Some x) (Some g.word) us) (asked_in x ∷ zs)
  one_told x g lines reps us zs m = by g.shows
    where
      by : IsLineWord s opens os left (asked_in x) g.word ⊎ (IsLackingWord s opens os left (asked_in x) g.word ⊎ (IsReportWord s opens os left (asked_in x) g.word ⊎ IsTickWord s opens os left (asked_in x) g.word))
          → AreTold (line_in (Some g.word) ++ lines) (map report_read (report_in (Some g.word) ++ reps)) (with_taken (Some x) (Some g.word) us) (asked_in x ∷ zs)
      by (inl f) =
          shown x g.word (f.l ∷ []) [] lines reps us (asked_in x ∷ zs) f.lines f.reports
          (record {
            ask = subst (AskFor s (f.l ∷ lines)) (sym (line_more (asked_in x) zs f.low)) (f.asks, m.ask);
            as_taken = m.as_taken;
            asked = m.asked ∙ sym (no_line (asked_in x) zs f.low);
            opened = m.opened;
          })
      by (inr (inl f)) =
          shown x g.word [] [] lines reps us (asked_in x ∷ zs) f.lines f.reports
          (record {
            ask = subst (AskFor s lines) (sym (line_no_more (asked_in x) zs f.low)) m.ask;
            as_taken = m.as_taken;
            asked = m.asked ∙ sym (no_lacking (asked_in x) zs f.low f.high);
            opened = m.opened;
          })
      by (inr (inr (inl f))) =
          let e = f.is_kind in
          shown x g.word [] (f.q ∷ []) lines reps us (asked_in x ∷ zs) f.lines f.reports
          (record {
            ask = subst (AskFor s lines) (sym (line_no_more (asked_in x) zs (omega (arith, e)))) m.ask;
            as_taken = (f.there, refl, f.event, m.as_taken);
            asked = ap (λ ys. asked_in x ∷ ys) m.asked ∙ sym (report_more (asked_in x) zs f.is_kind);
            opened = (f.opened, m.opened);
          })
      by (inr (inr (inr f))) =
          let le = f.high in
          shown x g.word [] [] lines reps us (asked_in x ∷ zs) f.lines f.reports
          (record {
            ask = subst (AskFor s lines) (sym (line_no_more (asked_in x) zs (omega (arith, le)))) m.ask;
            as_taken = m.as_taken;
            asked = m.asked ∙ sym (no_tick (asked_in x) zs f.high);
            opened = m.opened;
          })

  abbrev pub number_in : Option Open → ℕ
  number_in None = 0
  number_in (Some o) = o.number

  abbrev pub number_of : Asked → ℕ
  number_of a = number_in (get_or opens a.checkable None)

  pub numbers_are : (us : List Taken) → AllByRecursion Opened us → map number_of (map taken_event us) ≡ orders_taken us
  numbers_are [] g = refl
  numbers_are (u ∷ us) g = ap (λ o. number_in o ∷ map number_of (map taken_event us)) g.0 ∙ ap (λ zs. u.order ∷ zs) (numbers_are us g.1)

  pub as_orders : (rs : List Reported) (us : List Taken) → AreTakenAs left rs us → orders_taken us ≡ orders_of rs
  as_orders [] [] a = refl
  as_orders [] (u ∷ us) a = absurd a
  as_orders (q ∷ rs) [] a = absurd a
  as_orders (q ∷ rs) (u ∷ us) a = ap (λ n. n ∷ orders_taken us) a.1 ∙ ap (λ zs. q.order ∷ zs) (as_orders rs us a.3)

  pub ask_length : (ls : List (List ℕ)) (as' : List Asked) → AskFor s ls as' → length ls ≡ length as'
  ask_length [] [] g = refl
  ask_length [] (a ∷ as') g = absurd g
  ask_length (l ∷ ls) [] g = absurd g
  ask_length (l ∷ ls) (a ∷ as') g = ap suc (ask_length ls as' g.1)

  pub asked_length : (as' : List Answer) → length (line_events (map as_line as')) ≡ asking_among as'
  asked_length [] = refl
  asked_length (told k e ∷ as') = let m = asked_length as' in omega (arith, m)
  asked_length (faulty f ∷ as') = asked_length as'

  -- ---- entries

  module _ (h : IsRound r moment before (events ∷ []) round) (room : HaveRoom (length (events ∷ [])) (behind before round) (length round)) (others : AreOthers r) where
    abbrev E : List EntryLine
    E = lines_from 0 round

    abbrev quiet : List Said
    quiet = map (λ (_ : EntryLine). (tick_word [] None).0) E

    quiet_many : length quiet ≡ length E
    quiet_many = length_map (λ (_ : EntryLine). (tick_word [] None).0) E

    abbrev Of : ℕ → EntryLine → ℕ → Type 0
    Of k x i = IsOf r moment before (events ∷ []) round quiet h room quiet_many k x i

    found : (k : ℕ) (x : EntryLine) → slice_get E k ≡ Some x → (i : ℕ) × Of k x i
    found k x at = of_thing r moment before (events ∷ []) round quiet h room quiet_many k x at

    sole : (k : ℕ) (x : EntryLine) → slice_get E k ≡ Some x → x.entry.caller ≡ 0
    sole k x at = let f = found k x at in let lt : x.entry.caller < 1 = f.1.caller in omega (arith, lt)

    own_events : (k : ℕ) (x : EntryLine) (i : ℕ) → slice_get E k ≡ Some x → slice_get (of_index x.entry.caller (events ∷ [])) i ≡ Some (asked_in x) → slice_get events i ≡ Some (asked_in x)
    own_events k x i at e = sym (ap (λ c. slice_get (of_index c (events ∷ [])) i) (sole k x at)) ∙ e

    own_whole : (k : ℕ) (x : EntryLine) (i : ℕ) → slice_get E k ≡ Some x → slice_get (of_index x.entry.caller (events ∷ [])) i ≡ Some (asked_in x) → slice_get whole i ≡ Some (asked_in x)
    own_whole k x i at e = ap (λ zs. slice_get zs i) (sym whole_is) ∙ own_events k x i at e

    sayable : (k : ℕ) (x : EntryLine) → slice_get E k ≡ Some x → Sayable (asked_in x)
    sayable k x at = let f = found k x at in all_at Sayable whole f.0 (asked_in x) all_sayable (own_whole k x f.0 at f.1.asked)

    all : AreSaid E
    all = said_all E (all_from (λ x. Sayable (asked_in x)) E sayable)

    abbrev words : List Said
    words = all.list

    word_at : (k : ℕ) (x : EntryLine) (z : Said) → slice_get E k ≡ Some x → slice_get words k ≡ Some z → says s opens os left (asked_in x) ≡ Some z
    word_at k x z at is = say_at E words k x z all.say at is

    kind_at : (k : ℕ) (x : EntryLine) (z : Said) → slice_get E k ≡ Some x → slice_get words k ≡ Some z → kind_of x.checkable z ≡ kind (asked_in x)
    kind_at k x z at is = said_kind (get_or (full_names s) x.checkable []) (get_or opens x.checkable None) x.checkable x.entry.event z (word_at k x z at is)

    small : (k : ℕ) (x : EntryLine) → slice_get E k ≡ Some x → kind (asked_in x) < 2 ^ 66
    small k x at = let f = found k x at in all_at (λ a. kind a < 2 ^ 66) whole f.0 (asked_in x) small_kinds (own_whole k x f.0 at f.1.asked)

    in_kinds : AreInKinds E (events ∷ []) round words
    in_kinds = record {
      fit = λ k x z at is. let e = kind_at k x z at is in let lt = small k x at in omega (arith, e, lt);
      rise = λ k u i j x y z v p q caller z_is v_is le.
          let e = kind_at k x z p.at z_is in
          let f = kind_at u y v q.at v_is in
          let m = fall_at kind whole i j (asked_in x) (asked_in y) whole_falls le (own_whole k x i p.at p.asked) (own_whole u y j q.at q.asked) in
          omega (arith, e, f, m);
    }

    one_each : HaveOneResult E
    one_each = one_from E (λ k u x y lt p q f g same.
        let a = found k x p in
        let b = found u y q in
        let e = one_result a.0 b.0 (asked_in x) (asked_in y) (own_events k x a.0 p a.1.asked) (own_events u y b.0 q b.1.asked) f g same in
        let caller : x.entry.caller ≡ y.entry.caller = sole k x p ∙ sym (sole u y q) in
        let c : k ≡ u = same_place r moment before (events ∷ []) round quiet h room quiet_many k u a.0 b.0 x y a.1 b.1 caller same e in
        absurd (omega (arith, c, lt)))

    heard_so : entries_heard 1 (full_names s) opens E nothing_heard ≡ Some (record { said = words; spots = spots_from 0 E words })
    heard_so = heard 1 (full_names s) opens E words (all_from (λ x. x.entry.caller < 1) E (λ k x at. let e = sole k x at in omega (arith, e))) all.say one_each

    -- ---- the told order

    told_order : (order : List ℕ) × (taken_in (length words) (spots_from 0 E words) ≡ Some order)
    told_order = some_order r moment before (events ∷ []) round words h room all.many others in_kinds

    abbrev order : List ℕ
    order = told_order.0

    abbrev ev : List Asked
    ev = events_by E 0 order

    again : IsRound r moment before (ev ∷ []) round
    again = told_round r moment before (events ∷ []) round words order h room all.many told_order.1

    round_told : round ≡ alone r moment before ev
    round_told = only_alone r moment before ev round again

    some : 0 < 1
    some = omega arith

    same_each : AreSameOnEach ev whole
    same_each c = sym (again.taken 0 c some) ∙ (h.taken 0 c some ∙ ap (events_on c) whole_is)

    inside : (i k : ℕ) → slice_get order i ≡ Some k → k < length E
    inside i k at =
        let o = tracks_meet (length words) (spots_from 0 E words) order told_order.1 (things_within E words) in
        let there : stands (from_on 0 (length words)) k ≡ true = permuted (from_on 0 (length words)) order k o.whole ∙ there_stands order i k at in
        let lt = from_within 0 (length words) k there in
        let many = all.many in
        omega (arith, lt, many)

    word_there : (k : ℕ) → k < length E → (z : Said) × (slice_get words k ≡ Some z)
    word_there k lt = let many = all.many in get_within words k (omega (arith, lt, many))

    rising : (i j k u : ℕ) → i < j → slice_get order i ≡ Some k → slice_get order j ≡ Some u → (x y : EntryLine) → slice_get E k ≡ Some x → slice_get E u ≡ Some y → kind (asked_in x) ≤ kind (asked_in y)
    rising i j k u lt i_is j_is x y x_is y_is = by (cases_lt (kind (asked_in y)) (kind (asked_in x)))
      where
        by : (kind (asked_in y) < kind (asked_in x)) ⊎ (kind (asked_in x) ≤ kind (asked_in y)) → kind (asked_in x) ≤ kind (asked_in y)
        by (inr le) = le
        by (inl less) =
            let z = word_there k (inside i k i_is) in
            let v = word_there u (inside j u j_is) in
            let e = kind_at k x z.0 x_is z.1 in
            let f = kind_at u y v.0 y_is v.1 in
            let c = sole k x x_is in
            let d = sole u y y_is in
            let fit = small k x x_is in
            let back = by_kinds E words order told_order.1 j i u k y x v.0 z.0 j_is i_is y_is x_is v.1 z.1 (omega (arith, e, f, c, d, less)) (omega (arith, e, c, fit)) in
            absurd (omega (arith, back, lt))

    events_all : (P : Asked → Type 0) (ks : List ℕ) → ((j u : ℕ) (y : EntryLine) → slice_get ks j ≡ Some u → slice_get E u ≡ Some y → P (asked_in y)) → AllByRecursion P (events_by E 0 ks)
    events_all P [] g = tt
    events_all P (k ∷ ks) g = by (slice_get E k) refl (events_all P ks (λ j. g (suc j)))
      where
        one : (x : EntryLine) → slice_get E k ≡ Some x → (b : Bool) → AllByRecursion P (events_by E 0 ks) → AllByRecursion P (cond b (asked_in x ∷ events_by E 0 ks) (events_by E 0 ks))
        one x e true rest = (g 0 k x refl e, rest)
        one x e false rest = rest

        by : (o : Option EntryLine) → slice_get E k ≡ o → AllByRecursion P (events_by E 0 ks) → AllByRecursion P (with_event 0 o (events_by E 0 ks))
        by None e rest = rest
        by (Some x) e rest = one x e (nat_eq x.entry.caller 0) rest

    fall_order : (ks : List ℕ) → ((i j k u : ℕ) → i < j → slice_get ks i ≡ Some k → slice_get ks j ≡ Some u → (x y : EntryLine) → slice_get E k ≡ Some x → slice_get E u ≡ Some y → kind (asked_in x) ≤ kind (asked_in y)) → NeverFall kind (events_by E 0 ks)
    fall_order [] g = tt
    fall_order (k ∷ ks) g = by (slice_get E k) refl (fall_order ks (λ i j a b lt. g (suc i) (suc j) a b (omega (arith, lt))))
      where
        one : (x : EntryLine) → slice_get E k ≡ Some x → (b : Bool) → NeverFall kind (events_by E 0 ks) → NeverFall kind (cond b (asked_in x ∷ events_by E 0 ks) (events_by E 0 ks))
        one x e true rest = (events_all (λ b. kind (asked_in x) ≤ kind b) ks (λ j u y at is. g 0 (suc j) k u (omega arith) refl at x y e is), rest)
        one x e false rest = rest

        by : (o : Option EntryLine) → slice_get E k ≡ o → NeverFall kind (events_by E 0 ks) → NeverFall kind (with_event 0 o (events_by E 0 ks))
        by None e rest = rest
        by (Some x) e rest = one x e (nat_eq x.entry.caller 0) rest

    turned : AreAsInTurn kind 1 (2 ^ 64 + 1) (2 ^ 64 + 2) L D R ticks ev
    turned = as_in_turn kind 1 (2 ^ 64 + 1) (2 ^ 64 + 2) L D R ticks ev of_turn (fall_order order rising) same_each

    -- ---- what is told in this order

    abbrev takens_at : List ℕ → List Taken
    takens_at [] = []
    takens_at (k ∷ ks) = with_taken (slice_get E k) (slice_get words k) (takens_at ks)

    told_in : (ks : List ℕ) → ((i k : ℕ) → slice_get ks i ≡ Some k → k < length E) → AreTold (lines_at words ks) (map report_read (reports_at words ks)) (takens_at ks) (events_by E 0 ks)
    told_in [] g = record { ask = tt; as_taken = tt; asked = refl; opened = tt }
    told_in (k ∷ ks) g = by (get_within E k (g 0 k refl)) (word_there k (g 0 k refl)) (told_in ks (λ i. g (suc i)))
      where
        by : (x : EntryLine) × (slice_get E k ≡ Some x) → (z : Said) × (slice_get words k ≡ Some z) → AreTold (lines_at words ks) (map report_read (reports_at words ks)) (takens_at ks) (events_by E 0 ks)
            → AreTold (lines_at words (k ∷ ks)) (map report_read (reports_at words (k ∷ ks))) (takens_at (k ∷ ks)) (events_by E 0 (k ∷ ks))
        by x z m =
            let zs = events_by E 0 ks in
            let own : nat_eq x.0.entry.caller 0 ≡ true = is_eq x.0.entry.caller 0 (sole k x.0 x.1) in
            let g = sayable k x.0 x.1 in
            let same : slice_get words k ≡ Some g.word = z.1 ∙ (sym (word_at k x.0 z.0 x.1 z.1) ∙ g.is) in
            let one = one_told x.0 g (lines_at words ks) (reports_at words ks) (takens_at ks) zs m in
            let with_caller = subst (λ b. AreTold (line_in (Some g.word) ++ lines_at words ks) (map report_read (report_in (Some g.word) ++ reports_at words ks)) (with_taken (Some x.0) (Some g.word) (takens_at ks)) (cond b (asked_in x.0 ∷ zs) zs)) (sym own) one in
            let with_entry = subst (λ o. AreTold (line_in (Some g.word) ++ lines_at words ks) (map report_read (report_in (Some g.word) ++ reports_at words ks)) (with_taken o (Some g.word) (takens_at ks)) (with_event 0 o zs)) (sym x.1) with_caller in
            subst (λ o. AreTold (line_in o ++ lines_at words ks) (map report_read (report_in o ++ reports_at words ks)) (with_taken (slice_get E k) o (takens_at ks)) (with_event 0 (slice_get E k) zs)) (sym same) with_entry

    told_all : AreTold (lines_at words order) (map report_read (reports_at words order)) (takens_at order) ev
    told_all = told_in order inside

    -- ---- the reports

    abbrev told_reports : List Reported
    told_reports = map report_read (reports_at words order)

    orders_same : IsPermutation (orders_taken (taken_reports left reports)) (orders_of told_reports)
    orders_same =
        let p = IsPermutation-map number_of R (reported ev) (same_permuted R (reported ev) (λ c. sym (turned.same_reports c))) in
        let q : map number_of R ≡ orders_taken (taken_reports left reports) = numbers_are (taken_reports left reports) (all_imply (IsResultOf s opens os left false) Opened (λ u g. g.opened) (taken_reports left reports) reports_are) in
        let o : map number_of (reported ev) ≡ orders_of told_reports = ap (map number_of) (sym told_all.asked) ∙ (numbers_are (takens_at order) told_all.opened ∙ as_orders told_reports (takens_at order) told_all.as_taken) in
        subst (λ zs. IsPermutation zs (orders_of told_reports)) q (subst (IsPermutation (map number_of R)) o p)

    reported_again : AreRereported left reports told_reports (takens_at order)
    reported_again = rereported left reports told_reports (takens_at order) told_all.as_taken orders_same

    -- ---- the lines

    refill : AreRefilled s answers (lines_at words order) (among ev)
    refill =
        let p = length_permutation (among ev) L (same_permuted (among ev) L turned.same_lines) in
        let a = ask_length (lines_at words order) (among ev) told_all.ask in
        let b = asked_length answers in
        refilled s w answers (lines_at words order) (among ev) t.refused told_all.ask (omega (arith, p, a, b))

    -- ---- the turn

    abbrev refused_orders : List ℕ
    refused_orders = orders_refused (report_refusals os (due ++ reports))

    refused_same : report_refusals os (due ++ reports) ≡ report_refusals left reports
    refused_same = refusals_append os due reports ∙ ap (λ zs. zs ++ report_refusals left reports) t.due_taken

    abbrev turn : Turn
    turn = record { moment = moment; reports = reports_with refused_orders words order; lines = refill.all }

    turn_is : turn_told 1 s opens (block_of os (due ++ reports) answers moment orders round) ≡ Some turn
    turn_is =
        ap (λ g. g >>= turn_heard s (block_of os (due ++ reports) answers moment orders round)) heard_so
        ∙ (ap (λ o. turn_in (refused_text s) moment (block_of os (due ++ reports) answers moment orders round).lines refused_orders words o) told_order.1
        ∙ ap (turn_with moment (reports_with refused_orders words order)) refill.are)

    read_refused : (ns : List ℕ) → map report_read (map refused_report ns) ≡ map refused_again ns
    read_refused [] = refl
    read_refused (n ∷ ns) = ap (λ zs. refused_again n ∷ zs) (read_refused ns)

    reports_read : map report_read turn.reports ≡ told_again left reports told_reports
    reports_read =
        map-append report_read (reports_at words order) (map refused_report refused_orders)
        ∙ ap (λ zs. told_reports ++ zs) (read_refused refused_orders ∙ ap (λ zs. map refused_again (orders_refused zs)) refused_same)

    taken_so : taken_reports os (due ++ map report_read turn.reports) ≡ taken_reports os due ++ takens_at order
    taken_so = ap (λ zs. taken_reports os (due ++ zs)) reports_read ∙ (taken_append os due (told_again left reports told_reports) ∙ ap (λ zs. taken_reports os due ++ zs) reported_again.taken)

    events_so : events_of_turn os (due ++ map report_read turn.reports) (lines_read s turn.lines) ticks ≡ ev
    events_so =
        ap (λ us. line_events (lines_read s turn.lines) ++ (map taken_event us ++ ticks)) taken_so
        ∙ (ap (λ zs. zs ++ (map taken_event (taken_reports os due ++ takens_at order) ++ ticks)) refill.events
        ∙ (ap (λ zs. among ev ++ (zs ++ ticks)) (map-append taken_event (taken_reports os due) (takens_at order))
        ∙ (ap (λ zs. among ev ++ zs) (append_assoc D (map taken_event (takens_at order)) ticks)
        ∙ (ap (λ zs. among ev ++ (D ++ (zs ++ ticks))) told_all.asked ∙ sym turned.are))))

    told_so : IsToldSo s opens os due reports answers ticks moment orders r before round
    told_so = record {
      turn = turn;
      is = turn_is;
      at = refl;
      refusals = refill.refusals;
      reports_refused =
          ap (λ zs. report_refusals os (due ++ zs)) reports_read
          ∙ (refusals_append os due (told_again left reports told_reports) ∙ (ap (λ zs. report_refusals os due ++ zs) reported_again.refusals ∙ sym (refusals_append os due reports)));
      outstanding = ap (λ zs. still (due ++ zs) os) reports_read ∙ (still_append os due (told_again left reports told_reports) ∙ (reported_again.outstanding ∙ sym (still_append os due reports)));
      round_is = round_told ∙ ap (alone r moment before) (sym events_so);
    }

pub turn_told_again : (s : PlainSite) → IsWellNamed s → (opens : List (Option Open)) (os : List Outstanding) (due reports : List Reported) (answers : List Answer) (ticks : List Asked) (moment : ℕ) (orders : List OrderLine) (r : Rules) (before round : Histories) → IsTellable s opens os due answers ticks → IsRound r moment before (events_of_turn os (due ++ reports) (map as_line answers) ticks ∷ []) round → HaveRoom 1 (behind before round) (length round) → AreOthers r → IsToldSo s opens os due reports answers ticks moment orders r before round
turn_told_again s w opens os due reports answers ticks moment orders r before round t h room others = told_so s w opens os due reports answers ticks moment orders r before round t h room others
