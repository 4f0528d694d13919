-- A turn of one caller that its block tells again.
use Rattle.std.specs.Prelude.{◌≡◌, ◌<◌, ◌^◌, ℕ, List, [], ◌∷◌, ◌++◌, map, get_or, Option, Some, None}
use Rattle.std.specs.List.{AllByRecursion}
use Rattle.site_edge.specs.declared.turn.Turn.{Turn}
use Rattle.site_model.specs.PlainSite.{PlainSite}
use Rattle.site_model.specs.declared.event.Event.TheVariants as event
use Rattle.event_text.specs.Lines.{Answer}
use Rattle.run_meaning.specs.Acts.{Rules}
use Rattle.run_meaning.specs.Alone.{alone}
use Rattle.run_meaning.specs.Dealing.{checkable_of, dealt, line_events, line_refusals, report_refusals, still, taken_reports}
use Rattle.run_meaning.specs.Rounds.{IsRound}
use Rattle.run_meaning.specs.Shares.{orders_refused}
use Rattle.run_meaning.specs.Turns.{Asked, Histories, Line, Outstanding, Reported}
use Rattle.run_text.specs.TurnReading.{as_line, lines_read, report_read}
use Rattle.site_audit.specs.Order.{stands}
use Rattle.site_audit.specs.Told.{turn_told}
use Rattle.audit_laws.specs.Types.{Block, Open, OrderLine}
use Rattle.audit_laws.specs.Askable.{CanBeAsked}
use Rattle.audit_laws.specs.Kinds.{AllRise}
use Rattle.audit_laws.specs.Refilled.{refused_from, AreOfLines}
use Rattle.audit_laws.specs.Rereported.{orders_of}
use Rattle.audit_laws.specs.Retaken.{lines_from}

-- what the caller takes, in its order
abbrev pub events_of_turn : List Outstanding → List Reported → List Line → List Asked → List Asked
events_of_turn os reports lines ticks = line_events lines ++ (map (λ t. t.asked) (taken_reports os reports) ++ ticks)

-- each number is above those before it
abbrev pub AreRising : List ℕ → Type 0
AreRising [] = Unit {0}
AreRising (n ∷ ns) = AllByRecursion (λ m. n < m) ns × AreRising ns

-- a turn whose lines were read so, while these orders are outstanding and these reports come first since their macros are missing
pub record IsTellable (s : PlainSite) (opens : List (Option Open)) (os : List Outstanding) (due : List Reported) (answers : List Answer) (ticks : List Asked) : Type 0 where
  -- each refused line is some line's fault, and what was asked can be asked
  pub refused : AreOfLines s answers
  pub asked : AllByRecursion (λ a. CanBeAsked s a.checkable a.event) (line_events (map as_line answers))
  -- the order of a checkable is the one that is outstanding
  pub opened : (c n : ℕ) → checkable_of n os ≡ Some c → get_or opens c None ≡ Some (record { number = n; missing = stands (orders_of due) n })
  pub fit : (c : ℕ) (o : Open) → get_or opens c None ≡ Some o → o.number < 2 ^ 64
  -- the reports that come first are taken, and stand by their orders
  pub due_taken : report_refusals os due ≡ []
  pub due_rise : AreRising (orders_of due)
  -- ticks stand by their checkables
  pub are_ticks : AllByRecursion (λ a. (a.event ≡ event.Tick) × (a.checkable < 2 ^ 32)) ticks
  pub ticks_rise : AllRise (λ a. a.checkable) ticks

-- the block of such a turn
abbrev pub block_of : List Outstanding → List Reported → List Answer → ℕ → List OrderLine → Histories → Block
block_of os reports answers moment orders round = record {
  moment = moment;
  lines = refused_from 1 answers;
  reports = orders_refused (report_refusals os reports);
  entries = lines_from 0 round;
  orders = orders;
}

-- it tells a turn at its moment of which the same is refused, the same orders stay outstanding, and the round is the same
pub record IsToldSo (s : PlainSite) (opens : List (Option Open)) (os : List Outstanding) (due reports : List Reported) (answers : List Answer) (ticks : List Asked) (moment : ℕ) (orders : List OrderLine) (r : Rules) (before round : Histories) : Type 0 where
  pub turn : Turn
  pub is : turn_told 1 s opens (block_of os (due ++ reports) answers moment orders round) ≡ Some turn
  pub at : turn.moment ≡ moment
  pub refusals : line_refusals 1 (lines_read s turn.lines) ≡ line_refusals 1 (map as_line answers)
  pub reports_refused : report_refusals os (due ++ map report_read turn.reports) ≡ report_refusals os (due ++ reports)
  pub outstanding : still (due ++ map report_read turn.reports) os ≡ still (due ++ reports) os
  pub round_is : round ≡ alone r moment before (events_of_turn os (due ++ map report_read turn.reports) (lines_read s turn.lines) ticks)

-- The same of several callers: what they take of the told turn makes this round too, as one of those that it can make.
pub record IsToldBy (callers : ℕ) (s : PlainSite) (opens : List (Option Open)) (os : List Outstanding) (due reports : List Reported) (answers : List Answer) (ticks : List Asked) (moment : ℕ) (orders : List OrderLine) (r : Rules) (before round : Histories) : Type 0 where
  pub turn : Turn
  pub is : turn_told callers s opens (block_of os (due ++ reports) answers moment orders round) ≡ Some turn
  pub at : turn.moment ≡ moment
  pub refusals : line_refusals 1 (lines_read s turn.lines) ≡ line_refusals 1 (map as_line answers)
  pub reports_refused : report_refusals os (due ++ map report_read turn.reports) ≡ report_refusals os (due ++ reports)
  pub outstanding : still (due ++ map report_read turn.reports) os ≡ still (due ++ reports) os
  pub round_is : IsRound r moment before (dealt callers (line_events (lines_read s turn.lines)) (taken_reports os (due ++ map report_read turn.reports)) ticks) round
