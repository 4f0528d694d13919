-- The block of a turn of several callers tells a turn, of what each caller takes of which the same round is one.
use Rattle.std.proofs.Common.{◌≡◌, ◌+◌, ◌-◌, ◌%◌, ◌^◌, ◌<◌, ◌≤◌, ℕ, zero, suc, nat_eq, nat_lt, Bool, true, false, cond, List, [], ◌∷◌, ◌++◌, length, get_or, map, filter, slice_get, IsPermutation, refl, sym, ap, ap₂, ◌∙◌, subst, arith, append_assoc, Some, None, Option, ◌⊎◌, inl, inr, true≢false}
use Rattle.std.proofs.lemmas.Bool.{cases_lt}
use Rattle.std.proofs.lemmas.List.{map-append}
use Rattle.std.proofs.lemmas.List.Sorted.{length_permutation, IsPermutation-append, IsPermutation-map, IsPermutation-refl, IsPermutation-sym, IsPermutation-trans}
use Rattle.std.specs.List.{AllByRecursion}
use Rattle.site_edge.specs.declared.report.Report.{Report}
use Rattle.site_edge.specs.declared.turn.Turn.{Turn}
use Rattle.site_model.specs.PlainSite.{PlainSite, full_names}
use Rattle.site_model.specs.declared.event.Event.{Event}
use Rattle.site_model.specs.declared.event.Event.TheVariants as event
use Rattle.event_text.specs.Lines.{Answer}
use Rattle.log_text.specs.Fronts.{◌>>=◌}
use Rattle.run_meaning.specs.Acts.{Rules}
use Rattle.run_meaning.specs.Dealing.{dealt, dealt_to, goes_to, line_events, lines_to, report_refusals, still, taken_reports, Taken}
use Rattle.run_meaning.specs.Rounds.{behind, events_on, IsRound}
use Rattle.run_meaning.specs.Shares.{orders_refused}
use Rattle.run_meaning.specs.Turns.{Asked, Histories, Outstanding, Reported, from_on, of_index}
use Rattle.run_meaning.proofs.Lists.{get_front, get_map, get_within, keeps_append, length_from_on, length_map, of_index_each}
use Rattle.run_meaning.proofs.Parts.{get_kept, in_parts, parts}
use Rattle.run_text.specs.TurnReading.{as_line, lines_read, report_read}
use Rattle.site_audit.specs.Commands.{refused_text}
use Rattle.site_audit.specs.Hearing.{entries_heard}
use Rattle.site_audit.specs.Order.{stands}
use Rattle.site_audit.specs.Spots.{kind_of}
use Rattle.site_audit.specs.Telling.{is_report}
use Rattle.site_audit.specs.Told.{line_in, lines_at, nothing_heard, refused_report, report_in, reports_at, reports_with, turn_heard, turn_in, turn_told, turn_with}
use Rattle.site_audit.specs.Tracks.{taken_in}
use Rattle.audit_laws.specs.Types.{EntryLine, Open, OrderLine, Said}
use Rattle.audit_laws.specs.Heard.{HaveOneResult}
use Rattle.audit_laws.specs.Kinds.{AllRise, AreAsInTurn, AreOfTurn, AreSameOnEach, NeverFall}
use Rattle.audit_laws.specs.Names.{IsWellNamed}
use Rattle.audit_laws.specs.Refilled.{AreRefilled}
use Rattle.audit_laws.specs.Rereported.{orders_of, orders_taken, refused_again, told_again, AreRereported}
use Rattle.audit_laws.specs.Retaken.{all_events, asked_in, events_by, lines_from, spots_from, with_event, AreInKinds, AreOthers, HaveRoom}
use Rattle.audit_laws.specs.ToldTurns.{block_of, IsTellable, IsToldBy}
use Rattle.audit_laws.proofs.EventFacts.{all_kept, all_imply, command_is, kind_asked, said_kind, says, taken_facts, tick_word, IsLackingWord, IsLineWord, IsReportWord, IsResultOf, IsTaken, IsTickWord}
use Rattle.audit_laws.proofs.Hearing.{heard}
use Rattle.audit_laws.proofs.KindOrder.{as_in_turn}
use Rattle.audit_laws.proofs.Ordering.{eq_is, from_within, is_eq, once, permuted, there_stands, times, times_cons, twice}
use Rattle.audit_laws.proofs.Places.{get_behind}
use Rattle.audit_laws.proofs.Refilling.{refilled}
use Rattle.audit_laws.proofs.Rereporting.{once_taken, refusals_append, rereported, still_append, taken_append}
use Rattle.audit_laws.proofs.Retaking.{by_kinds, things_within, told_round}
use Rattle.audit_laws.proofs.SomeOrder.{of_thing, same_place, some_order, IsOf}
use Rattle.audit_laws.proofs.Tracking.{tracks_meet}
use Rattle.audit_laws.proofs.TurnTold as base
use Rattle.audit_laws.proofs.TurnTold.{all_at, all_both, all_from, fall_at, fall_both, fall_rise, fall_same, place, same_permuted, some_same, taken_event}

-- ---- parts of lists

rise_kept : (kind : Asked → ℕ) (test : Asked → Bool) (xs : List Asked) → AllRise kind xs → AllRise kind (filter test xs)
rise_kept kind test [] h = tt
rise_kept kind test (x ∷ xs) h = by (test x) (rise_kept kind test xs h.1)
  where
    by : (t : Bool) → AllRise kind (filter test xs) → AllRise kind (cond t (x ∷ filter test xs) (filter test xs))
    by true rest = (all_kept (λ b. kind x < kind b) test xs h.0, rest)
    by false rest = rest

-- of taken reports
all_part : (P : Asked → Type 0) (test : Taken → Bool) (ts : List Taken) → AllByRecursion P (map taken_event ts) → AllByRecursion P (map taken_event (filter test ts))
all_part P test [] h = tt
all_part P test (u ∷ ts) h = by (test u) (all_part P test ts h.1)
  where
    by : (t : Bool) → AllByRecursion P (map taken_event (filter test ts)) → AllByRecursion P (map taken_event (cond t (u ∷ filter test ts) (filter test ts)))
    by true rest = (h.0, rest)
    by false rest = rest

rise_part : (kind : Asked → ℕ) (test : Taken → Bool) (ts : List Taken) → AllRise kind (map taken_event ts) → AllRise kind (map taken_event (filter test ts))
rise_part kind test [] h = tt
rise_part kind test (u ∷ ts) h = by (test u) (rise_part kind test ts h.1)
  where
    by : (t : Bool) → AllRise kind (map taken_event (filter test ts)) → AllRise kind (map taken_event (cond t (u ∷ filter test ts) (filter test ts)))
    by true rest = (all_part (λ b. kind (taken_event u) < kind b) test ts h.0, rest)
    by false rest = rest

times_kept : (k : ℕ) (test : Taken → Bool) (ts : List Taken) → times k (orders_taken (filter test ts)) ≤ times k (orders_taken ts)
times_kept k test [] = omega arith
times_kept k test (u ∷ ts) = by (test u) (times_kept k test ts)
  where
    whole : times k (u.order ∷ orders_taken ts) ≡ once k u.order + times k (orders_taken ts)
    whole = times_cons k u.order (orders_taken ts)

    by : (t : Bool) → times k (orders_taken (filter test ts)) ≤ times k (orders_taken ts) → times k (orders_taken (cond t (u ∷ filter test ts) (filter test ts))) ≤ times k (orders_taken (u ∷ ts))
    by true le = let e = times_cons k u.order (orders_taken (filter test ts)) in let w = whole in omega (arith, le, e, w)
    by false le = let w = whole in omega (arith, le, w)

all_front : {A : Type 0} (P : A → Type 0) (xs ys : List A) → AllByRecursion P (xs ++ ys) → AllByRecursion P xs × AllByRecursion P ys
all_front P [] ys h = (tt, h)
all_front P (x ∷ xs) ys h = let (a, b) = all_front P xs ys h.1 in ((h.0, a), b)

map_from : {A : Type 0} (f g : ℕ → A) (j n : ℕ) → ((k : ℕ) → j ≤ k → k < j + n → f k ≡ g k) → map f (from_on j n) ≡ map g (from_on j n)
map_from f g j zero h = refl
map_from f g j (suc n) h = ap₂ (λ x xs. x ∷ xs) (h j (omega arith) (omega arith)) (map_from f g (suc j) n (λ k le lt. h k (omega (arith, le)) (omega (arith, lt))))

-- nothing is on any checkable
nothing_on : (as' : List Asked) → AreSameOnEach as' [] → as' ≡ []
nothing_on [] h = refl
nothing_on (a ∷ as') h = absurd (let e : cond (nat_eq a.checkable a.checkable) (a.event ∷ events_on a.checkable as') (events_on a.checkable as') ≡ [] = h a.checkable in let f : a.event ∷ events_on a.checkable as' ≡ [] = sym (ap (λ t. cond t (a.event ∷ events_on a.checkable as') (events_on a.checkable as')) (is_eq a.checkable a.checkable refl)) ∙ e in cc)

read_refused : (ns : List ℕ) → map report_read (map refused_report ns) ≡ map refused_again ns
read_refused [] = refl
read_refused (n ∷ ns) = ap (λ zs. refused_again n ∷ zs) (read_refused ns)

-- ---- a turn

module _ (s : PlainSite) (w : IsWellNamed s) (opens : List (Option Open)) (os : List Outstanding) (due reports : List Reported) (answers : List Answer) (ticks : List Asked) (moment : ℕ) (orders : List OrderLine) (r : Rules) (before round : Histories) (t : IsTellable s opens os due answers ticks) (callers : ℕ) (some : 1 ≤ callers) where
  abbrev left : List Outstanding
  left = still due os

  abbrev kind : Asked → ℕ
  kind a = kind_asked opens a

  abbrev L : List Asked
  L = line_events (map as_line answers)

  abbrev TD : List Taken
  TD = taken_reports os due

  abbrev TR : List Taken
  TR = taken_reports left reports

  abbrev T : List Taken
  T = taken_reports os (due ++ reports)

  abbrev whole : List Asked
  whole = L ++ (map taken_event TD ++ (map taken_event TR ++ ticks))

  abbrev goes : ℕ → Taken → Bool
  goes k u = goes_to callers k u.order

  abbrev comes : ℕ → Asked → Bool
  comes k a = goes_to callers k a.checkable

  -- what a caller takes
  abbrev mine : ℕ → List Asked
  mine k = dealt_to callers L T ticks k

  abbrev D : ℕ → List Asked
  D k = map taken_event (filter (goes k) TD)

  abbrev R : ℕ → List Asked
  R k = map taken_event (filter (goes k) TR)

  abbrev C : ℕ → List Asked
  C k = filter (comes k) ticks

  abbrev mine_parted : ℕ → List Asked
  mine_parted k = lines_to k L ++ (D k ++ (R k ++ C k))

  parted : (k : ℕ) → mine k ≡ mine_parted k
  parted k =
      ap (λ us. lines_to k L ++ (map taken_event (filter (goes k) us) ++ C k)) (taken_append os due reports)
      ∙ (ap (λ us. lines_to k L ++ (map taken_event us ++ C k)) (keeps_append (goes k) TD TR)
      ∙ (ap (λ us. lines_to k L ++ (us ++ C k)) (map-append taken_event (filter (goes k) TD) (filter (goes k) TR))
      ∙ ap (λ us. lines_to k L ++ us) (append_assoc (D k) (R k) (C k))))

  lines_part : (P : Asked → Type 0) (k : ℕ) → AllByRecursion P L → AllByRecursion P (lines_to k L)
  lines_part P zero h = h
  lines_part P (suc k) h = tt

  parted_all : (P : Asked → Type 0) (k : ℕ) → AllByRecursion P whole → AllByRecursion P (mine_parted k)
  parted_all P k h =
      let (a, b) = all_front P L (map taken_event TD ++ (map taken_event TR ++ ticks)) h in
      let (c, d) = all_front P (map taken_event TD) (map taken_event TR ++ ticks) b in
      let (e, f) = all_front P (map taken_event TR) ticks d in
      all_both P (lines_to k L) (D k ++ (R k ++ C k)) (lines_part P k a) (all_both P (D k) (R k ++ C k) (all_part P (goes k) TD c) (all_both P (R k) (C k) (all_part P (goes k) TR e) (all_kept P (comes k) ticks f)))

  mine_all : (P : Asked → Type 0) (k : ℕ) → AllByRecursion P whole → AllByRecursion P (mine k)
  mine_all P k h = subst (AllByRecursion P) (sym (parted k)) (parted_all P k h)

  turn_of : AreOfTurn kind 1 (2 ^ 64 + 1) (2 ^ 64 + 2) L (map taken_event TD) (map taken_event TR) ticks
  turn_of = (base.of_turn s w opens os due reports answers ticks moment orders r before round t)

  of_turn_to : (k : ℕ) → AreOfTurn kind 1 (2 ^ 64 + 1) (2 ^ 64 + 2) (lines_to k L) (D k) (R k) (C k)
  of_turn_to k = record {
    ordered = turn_of.ordered;
    are_lines = lines_part (λ a. kind a < 1) k turn_of.are_lines;
    are_lacking = all_part (λ a. 1 ≤ kind a) (goes k) TD turn_of.are_lacking;
    lacking_end = all_part (λ a. kind a < 2 ^ 64 + 1) (goes k) TD turn_of.lacking_end;
    are_reports = all_part (λ a. 2 ^ 64 + 1 ≤ kind a) (goes k) TR turn_of.are_reports;
    reports_end = all_part (λ a. kind a < 2 ^ 64 + 2) (goes k) TR turn_of.reports_end;
    are_ticks = all_kept (λ a. 2 ^ 64 + 2 ≤ kind a) (comes k) ticks turn_of.are_ticks;
    lacking_rise = rise_part kind (goes k) TD turn_of.lacking_rise;
    ticks_rise = rise_kept kind (comes k) ticks turn_of.ticks_rise;
    lacking_places = turn_of.lacking_places;
    tick_places = turn_of.tick_places;
  }

  falls_parted : (k : ℕ) → NeverFall kind (mine_parted k)
  falls_parted k =
      let o = of_turn_to k in
      let lines = lines_part (λ a. kind a ≡ 0) k (base.line_kinds s w opens os due reports answers ticks moment orders r before round t) in
      let reported = all_part (λ a. kind a ≡ 2 ^ 64 + 1) (goes k) TR (base.report_kinds s w opens os due reports answers ticks moment orders r before round t) in
      fall_both kind 0 (lines_to k L) (D k ++ (R k ++ C k)) (fall_same kind 0 (lines_to k L) lines)
      (fall_both kind (2 ^ 64) (D k) (R k ++ C k) (fall_rise kind (D k) o.lacking_rise)
      (fall_both kind (2 ^ 64 + 1) (R k) (C k) (fall_same kind (2 ^ 64 + 1) (R k) reported) (fall_rise kind (C k) o.ticks_rise)
      (all_imply (λ a. kind a ≡ 2 ^ 64 + 1) (λ a. kind a ≤ 2 ^ 64 + 1) (λ a e. omega (arith, e)) (R k) reported)
      (all_imply (λ a. 2 ^ 64 + 2 ≤ kind a) (λ a. 2 ^ 64 + 1 ≤ kind a) (λ a le. omega (arith, le)) (C k) o.are_ticks))
      (all_imply (λ a. kind a < 2 ^ 64 + 1) (λ a. kind a ≤ 2 ^ 64) (λ a lt. omega (arith, lt)) (D k) o.lacking_end)
      (all_both (λ a. 2 ^ 64 ≤ kind a) (R k) (C k) (all_imply (λ a. kind a ≡ 2 ^ 64 + 1) (λ a. 2 ^ 64 ≤ kind a) (λ a e. omega (arith, e)) (R k) reported)
      (all_imply (λ a. 2 ^ 64 + 2 ≤ kind a) (λ a. 2 ^ 64 ≤ kind a) (λ a le. omega (arith, le)) (C k) o.are_ticks)))
      (all_imply (λ a. kind a ≡ 0) (λ a. kind a ≤ 0) (λ a e. omega (arith, e)) (lines_to k L) lines)
      (all_from (λ a. 0 ≤ kind a) (D k ++ (R k ++ C k)) (λ i a at. omega arith))

  falls : (k : ℕ) → NeverFall kind (mine k)
  falls k = subst (NeverFall kind) (sym (parted k)) (falls_parted k)

  -- another caller than the first takes no line
  no_lines_to : (k : ℕ) → AllByRecursion (λ a. 1 ≤ kind a) (mine (suc k))
  no_lines_to k =
      let o = of_turn_to (suc k) in
      subst (AllByRecursion (λ a. 1 ≤ kind a)) (sym (parted (suc k)))
      (all_both (λ a. 1 ≤ kind a) (D (suc k)) (R (suc k) ++ C (suc k)) o.are_lacking
      (all_both (λ a. 1 ≤ kind a) (R (suc k)) (C (suc k)) (all_imply (λ a. 2 ^ 64 + 1 ≤ kind a) (λ a. 1 ≤ kind a) (λ a le. omega (arith, le)) (R (suc k)) o.are_reports)
      (all_imply (λ a. 2 ^ 64 + 2 ≤ kind a) (λ a. 1 ≤ kind a) (λ a le. omega (arith, le)) (C (suc k)) o.are_ticks)))

  -- ---- results

  record IsTakenBy (k i : ℕ) (a : Asked) : Type 0 where
    n : ℕ
    u : Taken
    at : slice_get (filter (goes k) T) n ≡ Some u
    is : u.asked ≡ a
    there : i ≡ length (lines_to k L) + n

  abbrev IsTick : Asked → Type 0
  IsTick a = (a.event ≡ event.Tick) × (a.checkable < 2 ^ 32)

  not_result : (e : Event) → e ≡ event.Tick → is_report e ≡ true → ⊥
  not_result e h q = absurd (true≢false (sym q ∙ ap is_report h))

  taken_by : (k i : ℕ) (a : Asked) → slice_get (mine k) i ≡ Some a → is_report a.event ≡ true → IsTakenBy k i a
  taken_by k i a at q = by (cases_lt i (length lines))
    where
      lines : List Asked
      lines = lines_to k L

      results : List Asked
      results = map taken_event (filter (goes k) T)

      behind_lines : (n : ℕ) → i ≡ length lines + n → slice_get (results ++ C k) n ≡ Some a → (n < length results) ⊎ (length results ≤ n) → IsTakenBy k i a
      behind_lines n e at (inl lt) =
          let (u, there, is) = get_map taken_event (filter (goes k) T) n a (sym (get_front results (C k) n lt) ∙ at) in
          record { n = n; u = u; at = there; is = is; there = e }
      behind_lines n e at (inr le) =
          let split : n ≡ length results + (n - length results) = omega (arith, le) in
          let h = all_at IsTick (C k) (n - length results) a (all_kept IsTick (comes k) ticks t.are_ticks) (sym (get_behind results (C k) (n - length results)) ∙ (ap (slice_get (results ++ C k)) (sym split) ∙ at)) in
          absurd (not_result a.event h.0 q)

      by : (i < length lines) ⊎ (length lines ≤ i) → IsTakenBy k i a
      by (inl lt) =
          let can = all_at (base.Askable s w opens os due reports answers ticks moment orders r before round t) lines i a (lines_part (base.Askable s w opens os due reports answers ticks moment orders r before round t) k t.asked) (sym (get_front lines (results ++ C k) i lt) ∙ at) in
          let is = (command_is (get_or opens a.checkable None) a.checkable can.check.host a.event can.range).1 in
          absurd (true≢false (sym q ∙ is))
      by (inr le) =
          let n = i - length lines in
          let split : i ≡ length lines + n = omega (arith, le) in
          behind_lines n split (sym (get_behind lines (results ++ C k) n) ∙ (ap (slice_get (lines ++ (results ++ C k))) (sym split) ∙ at)) (cases_lt n (length results))

  -- its order is that of its checkable, and it goes to its caller
  record IsOwn (k : ℕ) (u : Taken) : Type 0 where
    opened : get_or opens u.asked.checkable None ≡ Some (record { number = u.order; missing = stands (orders_of due) u.order })
    goes_so : u.order % callers ≡ k

  own_taken : (k n : ℕ) (u : Taken) → slice_get (filter (goes k) T) n ≡ Some u → IsOwn k u
  own_taken k n u at =
      let (j, there, is) = get_kept (goes k) T n u at in
      let fact = all_at (IsTaken os (due ++ reports)) T j u (taken_facts os (due ++ reports)) there in
      record { opened = t.opened u.asked.checkable u.order fact.there; goes_so = eq_is (u.order % callers) k is }

  order_of : (a b : Open) → Some a ≡ Some b → a.number ≡ b.number
  order_of a b e = ap (λ (o : Open). o.number) (some_same a b e)

  order_at : (ts : List Taken) (k : ℕ) (u : Taken) → slice_get ts k ≡ Some u → slice_get (orders_taken ts) k ≡ Some u.order
  order_at [] k u e = absurd cc
  order_at (v ∷ ts) zero u e = ap (λ (z : Taken). Some z.order) (some_same v u e)
  order_at (v ∷ ts) (suc k) u e = order_at ts k u e

  -- of two results of one checkable the orders are one, and so the callers and the places
  one_order : (k j : ℕ) (u v : Taken) → IsOwn k u → IsOwn j v → u.asked.checkable ≡ v.asked.checkable → u.order ≡ v.order
  one_order k j u v p q same =
      order_of (record { number = u.order; missing = stands (orders_of due) u.order }) (record { number = v.order; missing = stands (orders_of due) v.order })
      (sym p.opened ∙ (ap (λ c. get_or opens c None) same ∙ q.opened))

  one_place : (k n m : ℕ) (u v : Taken) → slice_get (filter (goes k) T) n ≡ Some u → slice_get (filter (goes k) T) m ≡ Some v → u.order ≡ v.order → n ≡ m
  one_place k n m u v p q same = by (cases_lt n m) (cases_lt m n)
    where
      low : times v.order (orders_taken (filter (goes k) T)) ≤ 1
      low = let a = times_kept v.order (goes k) T in let c = once_taken os (due ++ reports) v.order in omega (arith, a, c)

      by : (n < m) ⊎ (m ≤ n) → (m < n) ⊎ (n ≤ m) → n ≡ m
      by (inl lt) o = let two = twice (orders_taken (filter (goes k) T)) v.order n m (order_at (filter (goes k) T) n u p ∙ ap Some same) (order_at (filter (goes k) T) m v q) lt in let one = low in absurd (omega (arith, two, one))
      by (inr le) (inl lt) = let two = twice (orders_taken (filter (goes k) T)) v.order m n (order_at (filter (goes k) T) m v q) (order_at (filter (goes k) T) n u p ∙ ap Some same) lt in let one = low in absurd (omega (arith, two, one))
      by (inr le) (inr ge) = omega (arith, le, ge)

  -- ---- entries

  abbrev events : List (List Asked)
  events = dealt callers L T ticks

  many_events : length events ≡ callers
  many_events = length_map (dealt_to callers L T ticks) (from_on 0 callers) ∙ length_from_on 0 callers

  event_index : (k : ℕ) → k < callers → of_index k events ≡ mine k
  event_index k lt = of_index_each (dealt_to callers L T ticks) 0 callers k lt ∙ (let z : 0 + k ≡ k = omega arith in ap mine z)

  module _ (h : IsRound r moment before events round) (room : HaveRoom (length events) (behind before round) (length round)) (others : AreOthers r) where
    abbrev E : List EntryLine
    E = lines_from 0 round

    abbrev quiet : List Said
    quiet = map (λ (_ : EntryLine). (tick_word [] None).0) E

    quiet_many : length quiet ≡ length E
    quiet_many = length_map (λ (_ : EntryLine). (tick_word [] None).0) E

    abbrev Of : ℕ → EntryLine → ℕ → Type 0
    Of k x i = IsOf r moment before events round quiet h room quiet_many k x i

    found : (k : ℕ) (x : EntryLine) → slice_get E k ≡ Some x → (i : ℕ) × Of k x i
    found k x at = of_thing r moment before events round quiet h room quiet_many k x at

    within_callers : (k : ℕ) (x : EntryLine) → slice_get E k ≡ Some x → x.entry.caller < callers
    within_callers k x at = let f = found k x at in let lt = f.1.caller in let n = many_events in omega (arith, lt, n)

    own_mine : (k : ℕ) (x : EntryLine) (i : ℕ) → slice_get E k ≡ Some x → slice_get (of_index x.entry.caller events) i ≡ Some (asked_in x) → slice_get (mine x.entry.caller) i ≡ Some (asked_in x)
    own_mine k x i at e = ap (λ zs. slice_get zs i) (sym (event_index x.entry.caller (within_callers k x at))) ∙ e

    sayable : (k : ℕ) (x : EntryLine) → slice_get E k ≡ Some x → (base.Sayable s w opens os due reports answers ticks moment orders r before round t) (asked_in x)
    sayable k x at = let f = found k x at in all_at (base.Sayable s w opens os due reports answers ticks moment orders r before round t) (mine x.entry.caller) f.0 (asked_in x) (mine_all (base.Sayable s w opens os due reports answers ticks moment orders r before round t) x.entry.caller (base.all_sayable s w opens os due reports answers ticks moment orders r before round t)) (own_mine k x f.0 at f.1.asked)

    all : (base.AreSaid s w opens os due reports answers ticks moment orders r before round t) E
    all = (base.said_all s w opens os due reports answers ticks moment orders r before round t) E (all_from (λ x. (base.Sayable s w opens os due reports answers ticks moment orders r before round t) (asked_in x)) E sayable)

    abbrev words : List Said
    words = all.list

    word_at : (k : ℕ) (x : EntryLine) (z : Said) → slice_get E k ≡ Some x → slice_get words k ≡ Some z → says s opens os left (asked_in x) ≡ Some z
    word_at k x z at is = (base.say_at s w opens os due reports answers ticks moment orders r before round t) E words k x z all.say at is

    kind_at : (k : ℕ) (x : EntryLine) (z : Said) → slice_get E k ≡ Some x → slice_get words k ≡ Some z → kind_of x.checkable z ≡ kind (asked_in x)
    kind_at k x z at is = said_kind (get_or (full_names s) x.checkable []) (get_or opens x.checkable None) x.checkable x.entry.event z (word_at k x z at is)

    small : (k : ℕ) (x : EntryLine) → slice_get E k ≡ Some x → kind (asked_in x) < 2 ^ 66
    small k x at = let f = found k x at in all_at (λ a. kind a < 2 ^ 66) (mine x.entry.caller) f.0 (asked_in x) (mine_all (λ a. kind a < 2 ^ 66) x.entry.caller (base.small_kinds s w opens os due reports answers ticks moment orders r before round t)) (own_mine k x f.0 at f.1.asked)

    in_kinds : AreInKinds E events round words
    in_kinds = record {
      fit = λ k x z at is. let e = kind_at k x z at is in let lt = small k x at in omega (arith, e, lt);
      rise = λ k u i j x y z v p q caller z_is v_is le.
          let e = kind_at k x z p.at z_is in
          let f = kind_at u y v q.at v_is in
          let m = fall_at kind (mine x.entry.caller) i j (asked_in x) (asked_in y) (falls x.entry.caller) le (own_mine k x i p.at p.asked) (ap (λ c. slice_get (mine c) j) caller ∙ own_mine u y j q.at q.asked) in
          omega (arith, e, f, m);
    }

    one_each : HaveOneResult E
    one_each = (base.one_from s w opens os due reports answers ticks moment orders r before round t) E (λ k u x y lt p q f g same.
        let a = found k x p in
        let c = found u y q in
        let v = taken_by x.entry.caller a.0 (asked_in x) (own_mine k x a.0 p a.1.asked) f in
        let z = taken_by y.entry.caller c.0 (asked_in y) (own_mine u y c.0 q c.1.asked) g in
        let v_own = own_taken x.entry.caller v.n v.u v.at in
        let z_own = own_taken y.entry.caller z.n z.u z.at in
        let order = one_order x.entry.caller y.entry.caller v.u z.u v_own z_own (ap place v.is ∙ (same ∙ sym (ap place z.is))) in
        let caller : x.entry.caller ≡ y.entry.caller = sym v_own.goes_so ∙ (ap (λ n. n % callers) order ∙ z_own.goes_so) in
        let places = one_place x.entry.caller v.n z.n v.u z.u v.at (ap (λ k. slice_get (filter (goes k) T) z.n) caller ∙ z.at) order in
        let index : a.0 ≡ c.0 = v.there ∙ (ap₂ (λ k n. length (lines_to k L) + n) caller places ∙ sym z.there) in
        let e : k ≡ u = same_place r moment before events round quiet h room quiet_many k u a.0 c.0 x y a.1 c.1 caller same index in
        absurd (omega (arith, e, lt)))

    heard_so : entries_heard callers (full_names s) opens E nothing_heard ≡ Some (record { said = words; spots = spots_from 0 E words })
    heard_so = heard callers (full_names s) opens E words (all_from (λ x. x.entry.caller < callers) E within_callers) all.say one_each

    -- ---- the told order

    told_order : (order : List ℕ) × (taken_in (length words) (spots_from 0 E words) ≡ Some order)
    told_order = some_order r moment before events round words h room all.many others in_kinds

    abbrev order : List ℕ
    order = told_order.0

    again : IsRound r moment before (all_events E (length events) order) round
    again = told_round r moment before events round words order h room all.many told_order.1

    inside : (i k : ℕ) → slice_get order i ≡ Some k → k < length E
    inside i k at =
        let o = tracks_meet (length words) (spots_from 0 E words) order told_order.1 (things_within E words) in
        let there : stands (from_on 0 (length words)) k ≡ true = permuted (from_on 0 (length words)) order k o.whole ∙ there_stands order i k at in
        let lt = from_within 0 (length words) k there in
        let many = all.many in
        omega (arith, lt, many)

    word_there : (k : ℕ) → k < length E → (z : Said) × (slice_get words k ≡ Some z)
    word_there k lt = let many = all.many in get_within words k (omega (arith, lt, many))

    -- what one caller takes in this order
    abbrev ev : ℕ → List Asked
    ev c = events_by E c order

    Rising : ℕ → List ℕ → Type 0
    Rising c ks = (i j k u : ℕ) → i < j → slice_get ks i ≡ Some k → slice_get ks j ≡ Some u → (x y : EntryLine) → slice_get E k ≡ Some x → slice_get E u ≡ Some y → x.entry.caller ≡ c → y.entry.caller ≡ c → kind (asked_in x) ≤ kind (asked_in y)

    rising : (c : ℕ) → Rising c order
    unfolding Rising
    rising c i j k u lt i_is j_is x y x_is y_is x_own y_own = by (cases_lt (kind (asked_in y)) (kind (asked_in x)))
      where
        by : (kind (asked_in y) < kind (asked_in x)) ⊎ (kind (asked_in x) ≤ kind (asked_in y)) → kind (asked_in x) ≤ kind (asked_in y)
        by (inr le) = le
        by (inl less) =
            let z = word_there k (inside i k i_is) in
            let v = word_there u (inside j u j_is) in
            let e = kind_at k x z.0 x_is z.1 in
            let f = kind_at u y v.0 y_is v.1 in
            let fit = small k x x_is in
            let few = room.callers_fit in
            let many = many_events in
            let own = within_callers k x x_is in
            let back = by_kinds E words order told_order.1 j i u k y x v.0 z.0 j_is i_is y_is x_is v.1 z.1 (omega (arith, e, f, x_own, y_own, less)) (omega (arith, e, fit, few, many, own)) in
            absurd (omega (arith, back, lt))

    events_all : (P : Asked → Type 0) (c : ℕ) (ks : List ℕ) → ((j u : ℕ) (y : EntryLine) → slice_get ks j ≡ Some u → slice_get E u ≡ Some y → y.entry.caller ≡ c → P (asked_in y)) → AllByRecursion P (events_by E c ks)
    events_all P c [] g = tt
    events_all P c (k ∷ ks) g = by (slice_get E k) refl (events_all P c ks (λ j. g (suc j)))
      where
        one : (x : EntryLine) → slice_get E k ≡ Some x → (b : Bool) → nat_eq x.entry.caller c ≡ b → AllByRecursion P (events_by E c ks) → AllByRecursion P (cond b (asked_in x ∷ events_by E c ks) (events_by E c ks))
        one x e true q rest = (g 0 k x refl e (eq_is x.entry.caller c q), rest)
        one x e false q rest = rest

        by : (o : Option EntryLine) → slice_get E k ≡ o → AllByRecursion P (events_by E c ks) → AllByRecursion P (with_event c o (events_by E c ks))
        by None e rest = rest
        by (Some x) e rest = one x e (nat_eq x.entry.caller c) refl rest

    fall_order : (c : ℕ) (ks : List ℕ) → Rising c ks → NeverFall kind (events_by E c ks)
    unfolding Rising
    fall_order c [] g = tt
    fall_order c (k ∷ ks) g = by (slice_get E k) refl (fall_order c ks (λ i j a b lt. g (suc i) (suc j) a b (omega (arith, lt))))
      where
        one : (x : EntryLine) → slice_get E k ≡ Some x → (b : Bool) → nat_eq x.entry.caller c ≡ b → NeverFall kind (events_by E c ks) → NeverFall kind (cond b (asked_in x ∷ events_by E c ks) (events_by E c ks))
        one x e true q rest = (events_all (λ b. kind (asked_in x) ≤ kind b) c ks (λ j u y at is own. g 0 (suc j) k u (omega arith) refl at x y e is (eq_is x.entry.caller c q) own), rest)
        one x e false q rest = rest

        by : (o : Option EntryLine) → slice_get E k ≡ o → NeverFall kind (events_by E c ks) → NeverFall kind (with_event c o (events_by E c ks))
        by None e rest = rest
        by (Some x) e rest = one x e (nat_eq x.entry.caller c) refl rest

    told_index : (c : ℕ) → c < callers → of_index c (all_events E (length events) order) ≡ ev c
    told_index c lt = of_index_each (λ k. events_by E k order) 0 (length events) c (let n = many_events in omega (arith, lt, n)) ∙ (let z : 0 + c ≡ c = omega arith in ap ev z)

    same_each : (c : ℕ) → c < callers → AreSameOnEach (ev c) (mine_parted c)
    same_each c lt k =
        let n = many_events in
        let m = length_map (λ k. events_by E k order) (from_on 0 (length events)) ∙ length_from_on 0 (length events) in
        ap (events_on k) (sym (told_index c lt))
        ∙ (sym (again.taken c k (omega (arith, lt, n, m)))
        ∙ (h.taken c k (omega (arith, lt, n)) ∙ (ap (events_on k) (event_index c lt) ∙ ap (events_on k) (parted c))))

    turned : (c : ℕ) → c < callers → AreAsInTurn kind 1 (2 ^ 64 + 1) (2 ^ 64 + 2) (lines_to c L) (D c) (R c) (C c) (ev c)
    turned c lt = as_in_turn kind 1 (2 ^ 64 + 1) (2 ^ 64 + 2) (lines_to c L) (D c) (R c) (C c) (ev c) (of_turn_to c) (fall_order c order (rising c)) (same_each c lt)

    -- ---- what is told in this order

    abbrev among : List Asked → List Asked
    among zs = (base.among s w opens os due reports answers ticks moment orders r before round t) zs

    abbrev reported : List Asked → List Asked
    reported zs = (base.reported s w opens os due reports answers ticks moment orders r before round t) zs

    abbrev also : Option EntryLine → List Asked → List Asked
    also None zs = zs
    also (Some x) zs = asked_in x ∷ zs

    abbrev asked_at : List ℕ → List Asked
    asked_at [] = []
    asked_at (k ∷ ks) = also (slice_get E k) (asked_at ks)

    abbrev takens_at : List ℕ → List Taken
    takens_at [] = []
    takens_at (k ∷ ks) = (base.with_taken s w opens os due reports answers ticks moment orders r before round t) (slice_get E k) (slice_get words k) (takens_at ks)

    same_word : (k : ℕ) (x : EntryLine) (at : slice_get E k ≡ Some x) (z : Said) → slice_get words k ≡ Some z → slice_get words k ≡ Some (sayable k x at).word
    same_word k x at z is = is ∙ (sym (word_at k x z at is) ∙ (sayable k x at).is)

    told_in : (ks : List ℕ) → ((i k : ℕ) → slice_get ks i ≡ Some k → k < length E) → (base.AreTold s w opens os due reports answers ticks moment orders r before round t) (lines_at words ks) (map report_read (reports_at words ks)) (takens_at ks) (asked_at ks)
    told_in [] g = record { ask = tt; as_taken = tt; asked = refl; opened = tt }
    told_in (k ∷ ks) g = by (get_within E k (g 0 k refl)) (word_there k (g 0 k refl)) (told_in ks (λ i. g (suc i)))
      where
        by : (x : EntryLine) × (slice_get E k ≡ Some x) → (z : Said) × (slice_get words k ≡ Some z) → (base.AreTold s w opens os due reports answers ticks moment orders r before round t) (lines_at words ks) (map report_read (reports_at words ks)) (takens_at ks) (asked_at ks)
            → (base.AreTold s w opens os due reports answers ticks moment orders r before round t) (lines_at words (k ∷ ks)) (map report_read (reports_at words (k ∷ ks))) (takens_at (k ∷ ks)) (asked_at (k ∷ ks))
        by x z m =
            let zs = asked_at ks in
            let g = sayable k x.0 x.1 in
            let same = same_word k x.0 x.1 z.0 z.1 in
            let one = (base.one_told s w opens os due reports answers ticks moment orders r before round t) x.0 g (lines_at words ks) (reports_at words ks) (takens_at ks) zs m in
            let with_entry = subst (λ o. (base.AreTold s w opens os due reports answers ticks moment orders r before round t) (line_in (Some g.word) ++ lines_at words ks) (map report_read (report_in (Some g.word) ++ reports_at words ks)) ((base.with_taken s w opens os due reports answers ticks moment orders r before round t) o (Some g.word) (takens_at ks)) (also o zs)) (sym x.1) one in
            subst (λ o. (base.AreTold s w opens os due reports answers ticks moment orders r before round t) (line_in o ++ lines_at words ks) (map report_read (report_in o ++ reports_at words ks)) ((base.with_taken s w opens os due reports answers ticks moment orders r before round t) (slice_get E k) o (takens_at ks)) (also (slice_get E k) zs)) (sym same) with_entry

    told_all : (base.AreTold s w opens os due reports answers ticks moment orders r before round t) (lines_at words order) (map report_read (reports_at words order)) (takens_at order) (asked_at order)
    told_all = told_in order inside

    -- lines are those of the first caller
    not_line : (k : ℕ) (x : EntryLine) → slice_get E k ≡ Some x → nat_eq x.entry.caller 0 ≡ false → 1 ≤ kind (asked_in x)
    not_line k x at q = by x.entry.caller refl
      where
        by : (c : ℕ) → x.entry.caller ≡ c → 1 ≤ kind (asked_in x)
        by zero e = absurd (true≢false (sym (is_eq x.entry.caller 0 e) ∙ q))
        by (suc c) e = let f = found k x at in all_at (λ a. 1 ≤ kind a) (mine (suc c)) f.0 (asked_in x) (no_lines_to c) (ap (λ n. slice_get (mine n) f.0) (sym e) ∙ own_mine k x f.0 at f.1.asked)

    lines_own : (ks : List ℕ) → among (asked_at ks) ≡ among (events_by E 0 ks)
    lines_own [] = refl
    lines_own (k ∷ ks) = by (slice_get E k) refl (lines_own ks)
      where
        one : (x : EntryLine) → slice_get E k ≡ Some x → (b : Bool) → nat_eq x.entry.caller 0 ≡ b → among (asked_at ks) ≡ among (events_by E 0 ks) → among (asked_in x ∷ asked_at ks) ≡ among (cond b (asked_in x ∷ events_by E 0 ks) (events_by E 0 ks))
        one x e true q rest = ap (λ zs. cond (nat_lt (kind (asked_in x)) 1) (asked_in x ∷ zs) zs) rest
        one x e false q rest = (base.line_no_more s w opens os due reports answers ticks moment orders r before round t) (asked_in x) (asked_at ks) (not_line k x e q) ∙ rest

        by : (o : Option EntryLine) → slice_get E k ≡ o → among (asked_at ks) ≡ among (events_by E 0 ks) → among (also o (asked_at ks)) ≡ among (with_event 0 o (events_by E 0 ks))
        by None e rest = rest
        by (Some x) e rest = one x e (nat_eq x.entry.caller 0) refl rest

    -- reports are those of the callers that their orders go to
    goes_own : (k : ℕ) (x : EntryLine) (at : slice_get E k ≡ Some x) (q : Report) → is_report x.entry.event ≡ true → get_or opens x.checkable None ≡ Some (record { number = q.order; missing = false }) → q.order % callers ≡ x.entry.caller
    goes_own k x at q rep opened =
        let f = found k x at in
        let v = taken_by x.entry.caller f.0 (asked_in x) (own_mine k x f.0 at f.1.asked) rep in
        let own = own_taken x.entry.caller v.n v.u v.at in
        let same = order_of (record { number = v.u.order; missing = stands (orders_of due) v.u.order }) (record { number = q.order; missing = false }) (sym own.opened ∙ (ap (λ c. get_or opens c None) (ap place v.is) ∙ opened)) in
        ap (λ n. n % callers) (sym same) ∙ own.goes_so

    module _ (c : ℕ) (us : List Taken) (zs : List Asked) (rest : map taken_event (filter (goes c) us) ≡ reported zs) where
      skip : (x : EntryLine) (b : Bool) → reported (asked_in x ∷ zs) ≡ reported zs → map taken_event (filter (goes c) us) ≡ reported (cond b (asked_in x ∷ zs) zs)
      skip x true same = rest ∙ sym same
      skip x false same = rest

      after : (x : EntryLine) (q : Report) (b : Bool) → reported (asked_in x ∷ zs) ≡ asked_in x ∷ reported zs → map taken_event (cond b ((base.taken_as s w opens os due reports answers ticks moment orders r before round t) x q ∷ filter (goes c) us) (filter (goes c) us)) ≡ reported (cond b (asked_in x ∷ zs) zs)
      after x q true longer = ap (λ ys. asked_in x ∷ ys) rest ∙ sym longer
      after x q false longer = rest

      more : (x : EntryLine) (q : Report) → q.order % callers ≡ x.entry.caller → reported (asked_in x ∷ zs) ≡ asked_in x ∷ reported zs → map taken_event (filter (goes c) ((base.taken_as s w opens os due reports answers ticks moment orders r before round t) x q ∷ us)) ≡ reported (cond (nat_eq x.entry.caller c) (asked_in x ∷ zs) zs)
      more x q own longer = ap (λ n. map taken_event (cond (nat_eq n c) ((base.taken_as s w opens os due reports answers ticks moment orders r before round t) x q ∷ filter (goes c) us) (filter (goes c) us))) own ∙ after x q (nat_eq x.entry.caller c) longer

      of_word : (k : ℕ) (x : EntryLine) (at : slice_get E k ≡ Some x) (g : (base.Sayable s w opens os due reports answers ticks moment orders r before round t) (asked_in x)) → map taken_event (filter (goes c) ((base.with_taken s w opens os due reports answers ticks moment orders r before round t) (Some x) (Some g.word) us)) ≡ reported (cond (nat_eq x.entry.caller c) (asked_in x ∷ zs) zs)
      of_word k x at g = by g.shows
        where
          with_reports : (qs : List Report) → report_in (Some g.word) ≡ qs → map taken_event (filter (goes c) (map ((base.taken_as s w opens os due reports answers ticks moment orders r before round t) x) qs ++ us)) ≡ reported (cond (nat_eq x.entry.caller c) (asked_in x ∷ zs) zs)
              → map taken_event (filter (goes c) ((base.with_taken s w opens os due reports answers ticks moment orders r before round t) (Some x) (Some g.word) us)) ≡ reported (cond (nat_eq x.entry.caller c) (asked_in x ∷ zs) zs)
          with_reports qs e m = ap (λ ps. map taken_event (filter (goes c) (map ((base.taken_as s w opens os due reports answers ticks moment orders r before round t) x) ps ++ us))) e ∙ m

          by : IsLineWord s opens os left (asked_in x) g.word ⊎ (IsLackingWord s opens os left (asked_in x) g.word ⊎ (IsReportWord s opens os left (asked_in x) g.word ⊎ IsTickWord s opens os left (asked_in x) g.word))
              → map taken_event (filter (goes c) ((base.with_taken s w opens os due reports answers ticks moment orders r before round t) (Some x) (Some g.word) us)) ≡ reported (cond (nat_eq x.entry.caller c) (asked_in x ∷ zs) zs)
          by (inl f) = with_reports [] f.reports (skip x (nat_eq x.entry.caller c) ((base.no_line s w opens os due reports answers ticks moment orders r before round t) (asked_in x) zs f.low))
          by (inr (inl f)) = with_reports [] f.reports (skip x (nat_eq x.entry.caller c) ((base.no_lacking s w opens os due reports answers ticks moment orders r before round t) (asked_in x) zs f.low f.high))
          by (inr (inr (inl f))) = with_reports (f.q ∷ []) f.reports (more x f.q (goes_own k x at f.q (ap is_report f.event) f.opened) ((base.report_more s w opens os due reports answers ticks moment orders r before round t) (asked_in x) zs f.is_kind))
          by (inr (inr (inr f))) = with_reports [] f.reports (skip x (nat_eq x.entry.caller c) ((base.no_tick s w opens os due reports answers ticks moment orders r before round t) (asked_in x) zs f.high))

    taken_own : (c : ℕ) (ks : List ℕ) → ((i k : ℕ) → slice_get ks i ≡ Some k → k < length E) → map taken_event (filter (goes c) (takens_at ks)) ≡ reported (events_by E c ks)
    taken_own c [] g = refl
    taken_own c (k ∷ ks) g = by (get_within E k (g 0 k refl)) (word_there k (g 0 k refl)) (taken_own c ks (λ i. g (suc i)))
      where
        by : (x : EntryLine) × (slice_get E k ≡ Some x) → (z : Said) × (slice_get words k ≡ Some z) → map taken_event (filter (goes c) (takens_at ks)) ≡ reported (events_by E c ks)
            → map taken_event (filter (goes c) ((base.with_taken s w opens os due reports answers ticks moment orders r before round t) (slice_get E k) (slice_get words k) (takens_at ks))) ≡ reported (with_event c (slice_get E k) (events_by E c ks))
        by x z rest =
            let g = sayable k x.0 x.1 in
            let one = of_word c (takens_at ks) (events_by E c ks) rest k x.0 x.1 g in
            subst (λ o. map taken_event (filter (goes c) ((base.with_taken s w opens os due reports answers ticks moment orders r before round t) (slice_get E k) o (takens_at ks))) ≡ reported (with_event c (slice_get E k) (events_by E c ks))) (sym (same_word k x.0 x.1 z.0 z.1))
            (subst (λ o. map taken_event (filter (goes c) ((base.with_taken s w opens os due reports answers ticks moment orders r before round t) o (Some g.word) (takens_at ks))) ≡ reported (with_event c o (events_by E c ks))) (sym x.1) one)

    -- ---- the reports

    abbrev told_reports : List Reported
    told_reports = map report_read (reports_at words order)

    abbrev key : Taken → ℕ
    key u = u.order % callers

    abbrev number_of : Asked → ℕ
    number_of a = (base.number_of s w opens os due reports answers ticks moment orders r before round t) a

    abbrev Opened : Taken → Type 0
    Opened u = (base.Opened s w opens os due reports answers ticks moment orders r before round t) u

    all_opened : AllByRecursion Opened TR
    all_opened = all_imply (IsResultOf s opens os left false) Opened (λ u g. g.opened) TR (base.reports_are s w opens os due reports answers ticks moment orders r before round t)

    part_same : (c : ℕ) → c < callers → IsPermutation (orders_taken (filter (goes c) TR)) (orders_taken (filter (goes c) (takens_at order)))
    part_same c lt =
        let p = IsPermutation-map number_of (R c) (reported (ev c)) (same_permuted (R c) (reported (ev c)) (λ k. sym ((turned c lt).same_reports k))) in
        let q : map number_of (R c) ≡ orders_taken (filter (goes c) TR) = (base.numbers_are s w opens os due reports answers ticks moment orders r before round t) (filter (goes c) TR) (all_kept Opened (goes c) TR all_opened) in
        let o : map number_of (reported (ev c)) ≡ orders_taken (filter (goes c) (takens_at order)) = ap (map number_of) (sym (taken_own c order inside)) ∙ (base.numbers_are s w opens os due reports answers ticks moment orders r before round t) (filter (goes c) (takens_at order)) (all_kept Opened (goes c) (takens_at order) told_all.opened) in
        subst (λ zs. IsPermutation zs (orders_taken (filter (goes c) (takens_at order)))) q (subst (IsPermutation (map number_of (R c))) o p)

    abbrev order_in : Taken → ℕ
    order_in u = u.order

    parts_same : (n j : ℕ) → j + n ≤ callers → IsPermutation (orders_taken (parts key j n TR)) (orders_taken (parts key j n (takens_at order)))
    parts_same zero j le = IsPermutation-refl []
    parts_same (suc n) j le =
        let p = IsPermutation-append (orders_taken (filter (goes j) TR)) (orders_taken (filter (goes j) (takens_at order))) (orders_taken (parts key (suc j) n TR)) (orders_taken (parts key (suc j) n (takens_at order))) (part_same j (omega (arith, le))) (parts_same n (suc j) (omega (arith, le))) in
        subst (λ zs. IsPermutation zs (orders_taken (filter (goes j) (takens_at order) ++ parts key (suc j) n (takens_at order)))) (sym (map-append order_in (filter (goes j) TR) (parts key (suc j) n TR)))
        (subst (IsPermutation (orders_taken (filter (goes j) TR) ++ orders_taken (parts key (suc j) n TR))) (sym (map-append order_in (filter (goes j) (takens_at order)) (parts key (suc j) n (takens_at order)))) p)

    in_callers : (ts : List Taken) → IsPermutation (orders_taken ts) (orders_taken (parts key 0 callers ts))
    in_callers ts = IsPermutation-map order_in ts (parts key 0 callers ts) (in_parts key callers 0 ts (λ i u at. (omega arith, omega (arith, some))))

    orders_same : IsPermutation (orders_taken TR) (orders_of told_reports)
    orders_same =
        subst (IsPermutation (orders_taken TR)) ((base.as_orders s w opens os due reports answers ticks moment orders r before round t) told_reports (takens_at order) told_all.as_taken)
        (IsPermutation-trans (orders_taken TR) (orders_taken (parts key 0 callers TR)) (orders_taken (takens_at order)) (in_callers TR)
        (IsPermutation-trans (orders_taken (parts key 0 callers TR)) (orders_taken (parts key 0 callers (takens_at order))) (orders_taken (takens_at order)) (parts_same callers 0 (omega arith))
        (IsPermutation-sym (orders_taken (takens_at order)) (orders_taken (parts key 0 callers (takens_at order))) (in_callers (takens_at order)))))

    reported_again : AreRereported left reports told_reports (takens_at order)
    reported_again = rereported left reports told_reports (takens_at order) told_all.as_taken orders_same

    -- ---- the lines

    refill : AreRefilled s answers (lines_at words order) (among (asked_at order))
    refill =
        let p = length_permutation (among (ev 0)) L (same_permuted (among (ev 0)) L (turned 0 some).same_lines) in
        let e = ap length (lines_own order) in
        let a = (base.ask_length s w opens os due reports answers ticks moment orders r before round t) (lines_at words order) (among (asked_at order)) told_all.ask in
        let b = (base.asked_length s w opens os due reports answers ticks moment orders r before round t) answers in
        refilled s w answers (lines_at words order) (among (asked_at order)) t.refused told_all.ask (omega (arith, p, e, a, b))

    -- ---- the turn

    abbrev refused_orders : List ℕ
    refused_orders = orders_refused (report_refusals os (due ++ reports))

    refused_same : report_refusals os (due ++ reports) ≡ report_refusals left reports
    refused_same = refusals_append os due reports ∙ ap (λ zs. zs ++ report_refusals left reports) t.due_taken

    abbrev turn : Turn
    turn = record { moment = moment; reports = reports_with refused_orders words order; lines = refill.all }

    turn_is : turn_told callers s opens (block_of os (due ++ reports) answers moment orders round) ≡ Some turn
    turn_is =
        ap (λ g. g >>= turn_heard s (block_of os (due ++ reports) answers moment orders round)) heard_so
        ∙ (ap (λ o. turn_in (refused_text s) moment (block_of os (due ++ reports) answers moment orders round).lines refused_orders words o) told_order.1
        ∙ ap (turn_with moment (reports_with refused_orders words order)) refill.are)

    reports_read : map report_read turn.reports ≡ told_again left reports told_reports
    reports_read =
        map-append report_read (reports_at words order) (map refused_report refused_orders)
        ∙ ap (λ zs. told_reports ++ zs) (read_refused refused_orders ∙ ap (λ zs. map refused_again (orders_refused zs)) refused_same)

    taken_so : taken_reports os (due ++ map report_read turn.reports) ≡ TD ++ takens_at order
    taken_so = ap (λ zs. taken_reports os (due ++ zs)) reports_read ∙ (taken_append os due (told_again left reports told_reports) ∙ ap (λ zs. TD ++ zs) reported_again.taken)

    lines_so : line_events (lines_read s turn.lines) ≡ among (ev 0)
    lines_so = refill.events ∙ lines_own order

    lines_last : (c : ℕ) → c < callers → lines_to c (among (ev 0)) ≡ among (ev c)
    lines_last zero lt = refl
    lines_last (suc c) lt = sym (nothing_on (among (ev (suc c))) (turned (suc c) lt).same_lines)

    one_dealt : (c : ℕ) → c < callers → dealt_to callers (line_events (lines_read s turn.lines)) (taken_reports os (due ++ map report_read turn.reports)) ticks c ≡ ev c
    one_dealt c lt =
        ap₂ (λ ls us. lines_to c ls ++ (map taken_event (filter (goes c) us) ++ C c)) lines_so taken_so
        ∙ (ap (λ us. lines_to c (among (ev 0)) ++ (map taken_event us ++ C c)) (keeps_append (goes c) TD (takens_at order))
        ∙ (ap (λ us. lines_to c (among (ev 0)) ++ (us ++ C c)) (map-append taken_event (filter (goes c) TD) (filter (goes c) (takens_at order)))
        ∙ (ap (λ us. lines_to c (among (ev 0)) ++ us) (append_assoc (D c) (map taken_event (filter (goes c) (takens_at order))) (C c))
        ∙ (ap₂ (λ ls us. ls ++ (D c ++ (us ++ C c))) (lines_last c lt) (taken_own c order inside) ∙ sym (turned c lt).are))))

    dealt_so : dealt callers (line_events (lines_read s turn.lines)) (taken_reports os (due ++ map report_read turn.reports)) ticks ≡ all_events E (length events) order
    dealt_so =
        map_from (dealt_to callers (line_events (lines_read s turn.lines)) (taken_reports os (due ++ map report_read turn.reports)) ticks) ev 0 callers (λ k le lt. one_dealt k (omega (arith, lt)))
        ∙ ap (λ n. map ev (from_on 0 n)) (sym many_events)

    told_so : IsToldBy callers s opens os due reports answers ticks moment orders r before round
    told_so = record {
      turn = turn;
      is = turn_is;
      at = refl;
      refusals = refill.refusals;
      reports_refused =
          ap (λ zs. report_refusals os (due ++ zs)) reports_read
          ∙ (refusals_append os due (told_again left reports told_reports) ∙ (ap (λ zs. report_refusals os due ++ zs) reported_again.refusals ∙ sym (refusals_append os due reports)));
      outstanding = ap (λ zs. still (due ++ zs) os) reports_read ∙ (still_append os due (told_again left reports told_reports) ∙ (reported_again.outstanding ∙ sym (still_append os due reports)));
      round_is = subst (λ es. IsRound r moment before es round) (sym dealt_so) again;
    }

pub turn_told_by : (callers : ℕ) → 1 ≤ callers → (s : PlainSite) → IsWellNamed s → (opens : List (Option Open)) (os : List Outstanding) (due reports : List Reported) (answers : List Answer) (ticks : List Asked) (moment : ℕ) (orders : List OrderLine) (r : Rules) (before round : Histories) → IsTellable s opens os due answers ticks → IsRound r moment before (dealt callers (line_events (map as_line answers)) (taken_reports os (due ++ reports)) ticks) round → HaveRoom callers (behind before round) (length round) → AreOthers r → IsToldBy callers s opens os due reports answers ticks moment orders r before round
turn_told_by callers some s w opens os due reports answers ticks moment orders r before round t h room others =
    told_so s w opens os due reports answers ticks moment orders r before round t callers some h (subst (λ n. HaveRoom n (behind before round) (length round)) (sym (many_events s w opens os due reports answers ticks moment orders r before round t callers some)) room) others
