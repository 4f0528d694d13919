-- The logs of a run can stand in memory where its turns do.
use Rattle.std.proofs.Common.{◌≡◌, ◌<◌, ◌≤◌, ◌+◌, ◌*◌, ◌^◌, ℕ, suc, true, List, [], ◌∷◌, ◌++◌, length, map, Option, Some, None, refl, sym, ap, ◌∙◌, subst, arith, lit≤}
use Rattle.std.proofs.lemmas.List.{length-append}
use Rattle.std.specs.List.{AllByRecursion}
use Rattle.jiff_tz.specs.declared.tzif.Tzif.{Tzif}
use Rattle.depend_graph.specs.Outlooks.{holds_in}
use Rattle.site_edge.specs.declared.turn.Turn.{Turn}
use Rattle.site_model.specs.PlainSite.{PlainCheck, PlainSite}
use Rattle.run_meaning.specs.Dealing.{checkable_of, line_refusals, refusing, report_refusals, still, without}
use Rattle.run_meaning.specs.Lookback.{ask_commands}
use Rattle.run_meaning.specs.Rounds.{behind}
use Rattle.run_meaning.specs.Runs.{Basis, IsRunFrom, IsTurn, Stage, TurnLog, greatest_moment, no_entries, stage_after, stage_by, start}
use Rattle.run_meaning.specs.Turns.{Line, Ordered, Outstanding, ReadTurn, Reported, asking, faulty, of_index}
use Rattle.run_meaning.proofs.Cutting.{is_joined, stage_joined}
use Rattle.run_meaning.proofs.Keeping.{few_from_start}
use Rattle.run_meaning.proofs.Lists.{length_map, of_index_nothing}
use Rattle.run_meaning.proofs.Lookback.{given}
use Rattle.run_text.specs.TurnReading.{lines_read, nothing_fed, report_read, turn_read}
use Rattle.turn_engine.specs.Orders.{command_of}
use Rattle.turn_engine.specs.Stages.{basis_of_site}
use Rattle.site_model.specs.declared.entry.Entry.{Entry}
use Rattle.site_audit.specs.LogLines.{IsOfTexts}
use Rattle.audit_laws.specs.Fitting.{entries_in, FitsLog, FitsOrder, FitsRefusal, FitsTurn}
use Rattle.audit_laws.specs.LegalLogs.{CanBeRun}
use Rattle.audit_laws.proofs.AskedLines.{all_asked, all_at, commands_alone}
use Rattle.audit_laws.proofs.EntryFits.{all_behind, entries_fit, onto}
use Rattle.audit_laws.proofs.EventFacts.{all_imply}
use Rattle.audit_laws.proofs.Giving.{orders_commanded, turn_gives, AreNumbered, GivesOrders, IsOfCommand}
use Rattle.audit_laws.proofs.Lacking.{due_all, numbers_low}
use Rattle.audit_laws.proofs.Printing.{joined_at}

-- ---- what is refused

lines_fit : (n : ℕ) (ls : List Line) → n + length ls ≤ 2 ^ 64 → AllByRecursion FitsRefusal (line_refusals n ls)
lines_fit n [] le = tt
lines_fit n (asking a ∷ ls) le = lines_fit (n + 1) ls (omega (arith, le))
lines_fit n (faulty f ∷ ls) le = (omega (arith, le), lines_fit (n + 1) ls (omega (arith, le)))

abbrev HasBits : Reported → Type 0
HasBits r = r.order < 2 ^ 64

reports_fit : (os : List Outstanding) (rs : List Reported) → AllByRecursion HasBits rs → AllByRecursion FitsRefusal (report_refusals os rs)
reports_fit os [] h = tt
reports_fit os (r ∷ rs) h = by (checkable_of r.order os) (reports_fit (without r.order os) rs h.1)
  where
    by : (o : Option ℕ) → AllByRecursion FitsRefusal (report_refusals (without r.order os) rs) → AllByRecursion FitsRefusal (refusing r o (report_refusals (without r.order os) rs))
    by None rest = (h.0, rest)
    by (Some c) rest = rest

many_lines : (s : PlainSite) (lines : List (List ℕ)) → length (lines_read s lines) ≡ length lines
many_lines s [] = refl
many_lines s (l ∷ lines) = ap suc (many_lines s lines)

both_all : {A : Type 0} (P Q : A → Type 0) (xs : List A) → AllByRecursion P xs → AllByRecursion Q xs → AllByRecursion (λ x. P x × Q x) xs
both_all P Q [] h g = tt
both_all P Q (x ∷ xs) h g = ((h.0, g.0), both_all P Q xs h.1 g.1)

all_push : {A : Type 0} (P : A → Type 0) (xs : List A) (x : A) → AllByRecursion P xs → P x → AllByRecursion P (xs ++ x ∷ [])
all_push P xs x h p = all_behind P xs (x ∷ []) h (p, tt)

abbrev none : List Entry
none = []

-- before any entry the moment is 0
no_moment : (cs : List PlainCheck) → greatest_moment (map (λ (c : PlainCheck). none) cs) ≤ 99999999999
no_moment [] = lit≤ tt
no_moment (c ∷ cs) = let le = no_moment cs in omega (arith, le)

-- ---- a run

module _ (s : PlainSite) (zone : Option Tzif) (callers : ℕ) (some : 1 ≤ callers) (most : callers ≤ 2 ^ 32) (can : CanBeRun s) where
  abbrev b : Basis
  b = basis_of_site s zone

  abbrev first : Stage
  first = start s (no_entries s)

  abbrev Asks : ReadTurn → Type 0
  Asks r = ask_commands r.lines ≡ true

  asks : (t : Turn) → Asks (turn_read s t)
  asks t = commands_alone s _ (all_asked s can.names t.lines)

  -- no more orders are outstanding behind turns than may be
  few_orders : (ts : List ReadTurn) (ls : List TurnLog) → IsRunFrom b callers first ts ls → AllByRecursion Asks ts → length (stage_by b first ts ls).plans.outstanding ≤ 65535
  few_orders ts ls run asked =
      let few = (few_from_start s (holds_in s zone) (command_of s) nothing_fed callers some (no_entries s) ts ls (record { someone = some; turns = run }) (record { fed = λ begun. refl; own = λ i t at. all_at Asks ts i t asked at })).few in
      let most = can.sound.most_orders in
      omega (arith, few, most)

  record FitsStage (st : Stage) : Type 0 where
    moment : st.moment ≤ 99999999999
    numbered : AreNumbered st.plans.given st.plans.outstanding
    given_few : st.plans.given ≤ st.turns * 65535
    due : AllByRecursion HasBits st.due

  module _ (before : List ReadTurn) (done : List TurnLog) (asked : AllByRecursion Asks before) (st : Stage) (run : IsRunFrom b callers first before done) (same : stage_by b first before done ≡ st) (t : Turn) (l : TurnLog) (is : IsTurn b callers st (turn_read s t) l) (fits : FitsTurn t) (stage : FitsStage st) (turns : st.turns < 2 ^ 40) (room : (c : ℕ) → length (behind st.histories l.round c) < 2 ^ 64) where
    abbrev r : ReadTurn
    r = turn_read s t

    abbrev next : Stage
    next = stage_after b st r l

    further : IsRunFrom b callers first (before ++ r ∷ []) (done ++ l ∷ [])
    further = is_joined b callers first before (r ∷ []) done (l ∷ []) run (subst (λ z. IsRunFrom b callers z (r ∷ []) (l ∷ [])) (sym same) (is, refl))

    comes_to : stage_by b first (before ++ r ∷ []) (done ++ l ∷ []) ≡ next
    comes_to = stage_joined b callers first before (r ∷ []) done (l ∷ []) run ∙ ap (λ z. stage_after b z r l) same

    gives : GivesOrders s st.plans.given l.orders next.plans.outstanding
    gives = turn_gives s (holds_in s zone) (command_of s) nothing_fed callers some st r l is (asks t) stage.numbered

    few : length l.orders ≤ 65535
    few =
        let a = few_orders (before ++ r ∷ []) (done ++ l ∷ []) further (all_push Asks before r asked (asks t)) in
        let e = ap (λ (z : Stage). length z.plans.outstanding) comes_to in
        let d = length-append (still (st.due ++ map report_read t.reports) st.plans.outstanding) (map given l.orders) in
        let m = length_map given l.orders in
        omega (arith, a, e, d, m)

    moment : l.moment ≤ 99999999999
    moment = let e = is.moment in let f = stage.moment in let g = fits.moment in omega (arith, e, f, g)

    number : l.number ≡ st.turns + 1
    number = is.number

    orders_low : AllByRecursion (λ (o : Ordered). o.number < 2 ^ 64) l.orders
    orders_low =
        all_imply (λ (o : Ordered). o.number ≤ st.plans.given + length l.orders) (λ o. o.number < 2 ^ 64)
        (λ o le. let f = few in let g = stage.given_few in omega (arith, le, f, g, turns)) l.orders (numbers_low st.plans.given l.orders gives.counted.numbers)

    orders_fit : AllByRecursion FitsOrder l.orders
    orders_fit =
        all_imply (λ (o : Ordered). (o.number < 2 ^ 64) × IsOfCommand (command_of s) o) FitsOrder (λ o h. record { number = h.0; texts = subst IsOfTexts (sym h.1) (can.commands o.checkable) }) l.orders
        (both_all (λ (o : Ordered). o.number < 2 ^ 64) (IsOfCommand (command_of s)) l.orders orders_low
        (subst (AllByRecursion (IsOfCommand (command_of s))) (sym is.orders) (orders_commanded s (holds_in s zone) (command_of s) st.plans l.moment st.histories l.round)))

    refusals_fit : AllByRecursion FitsRefusal l.refusals
    refusals_fit =
        subst (AllByRecursion FitsRefusal) (sym is.refusals)
        (all_behind FitsRefusal (line_refusals 1 (lines_read s t.lines)) (report_refusals st.plans.outstanding (st.due ++ map report_read t.reports))
        (lines_fit 1 (lines_read s t.lines) (let m = many_lines s t.lines in let lt = fits.lines in omega (arith, m, lt)))
        (reports_fit st.plans.outstanding (st.due ++ map report_read t.reports) (all_behind HasBits st.due (map report_read t.reports) stage.due (onto report_read HasBits t.reports fits.reports))))

    log_fits : FitsLog l
    log_fits = record {
      number = (let e = number in omega (arith, e, turns));
      moment = moment;
      refusals = refusals_fit;
      entries = entries_fit s zone callers most can.names can.attempts st t l is moment room;
      orders = orders_fit;
    }

    next_fits : FitsStage next
    next_fits = record {
      moment = moment;
      numbered = gives.numbered;
      given_few = (let e = number in let f = few in let g = stage.given_few in omega (arith, e, f, g));
      due = due_all (λ n. n < 2 ^ 64) l.orders orders_low;
    }

  abbrev HasRoom : Stage → List TurnLog → Type 0
  HasRoom st ls = (c : ℕ) → length (of_index c st.histories) + entries_in c ls < 2 ^ 64

  walk : (ts : List Turn) (ls : List TurnLog) (before : List ReadTurn) (done : List TurnLog) (st : Stage) → AllByRecursion Asks before → IsRunFrom b callers first before done → stage_by b first before done ≡ st → IsRunFrom b callers st (map (turn_read s) ts) ls
      → AllByRecursion FitsTurn ts → FitsStage st → st.turns + length ts ≤ 2 ^ 40 → HasRoom st ls → AllByRecursion FitsLog ls
  walk [] ls before done st asked run same rest fits stage turns room = subst (AllByRecursion FitsLog) (sym rest) tt
  walk (t ∷ ts) [] before done st asked run same rest fits stage turns room = absurd rest
  walk (t ∷ ts) (l ∷ ls) before done st asked run same rest fits stage turns room =
      let own : (c : ℕ) → length (behind st.histories l.round c) < 2 ^ 64 = λ c. let d = length-append (of_index c st.histories) (of_index c l.round) in let g = room c in omega (arith, d, g) in
      let low : st.turns < 2 ^ 40 = omega (arith, turns) in
      let n = rest.0.number in (
        log_fits before done asked st run same t l rest.0 fits.0 stage low own,
        walk ts ls (before ++ turn_read s t ∷ []) (done ++ l ∷ []) (stage_after b st (turn_read s t) l) (all_push Asks before (turn_read s t) asked (asks t)) (further before done asked st run same t l rest.0 fits.0 stage low own)
            (comes_to before done asked st run same t l rest.0 fits.0 stage low own) rest.1 fits.1 (next_fits before done asked st run same t l rest.0 fits.0 stage low own) (omega (arith, turns, n))
            (λ c. let e = ap (length {A = Entry}) (joined_at st.histories l.round c) in let d = length-append (of_index c st.histories) (of_index c l.round) in let g = room c in omega (arith, e, d, g)),
      )

  pub logs_fit : (ts : List Turn) (ls : List TurnLog) → IsRunFrom b callers first (map (turn_read s) ts) ls → AllByRecursion FitsTurn ts → length ts ≤ 2 ^ 40 → ((c : ℕ) → entries_in c ls < 2 ^ 64) → AllByRecursion FitsLog ls
  logs_fit ts ls run fits turns few =
      walk ts ls [] [] first tt refl refl run fits (record { moment = no_moment s.checkables; numbered = record { single = tt; fresh = λ n h. refl }; given_few = omega arith; due = tt }) (omega (arith, turns))
      (λ c. let e = ap (length {A = Entry}) (of_index_nothing s.checkables c) in let g = few c in omega (arith, e, g))
