-- The turns that a log tells.
use Rattle.std.specs.Prelude.{◌≡◌, ℕ, ◌==◌, List, [], ◌∷◌, ◌++◌, length, map, slice_get, Option, Some, None, if◌then◌else◌}
use Rattle.std.specs.List.{flat_map}
use Rattle.event_text.specs.declared.line_fault.LineFault.{LineFault}
use Rattle.log_text.specs.Fronts.{◌>>=◌}
use Rattle.log_text.specs.SiteNames.{names_of}
use Rattle.run_text.specs.declared.style.Style.{Style}
use Rattle.site_edge.specs.declared.report.Report.{Report}
use Rattle.site_edge.specs.declared.turn.Turn.{Turn}
use Rattle.site_model.specs.PlainSite.{PlainSite, full_names}
use Rattle.site_audit.specs.Blocks.{blocks_of, lines_of}
use Rattle.site_audit.specs.BlockReading.{block_read}
use Rattle.site_audit.specs.Commands.{closed_to_name, host_to_name, refused_text}
use Rattle.site_audit.specs.Filling.{filled}
use Rattle.site_audit.specs.Hearing.{entries_heard}
use Rattle.site_audit.specs.Telling.{after_entries, after_orders}
use Rattle.site_audit.specs.Tracks.{taken_in}
use Rattle.site_audit.specs.declared.block.Block.{Block}
use Rattle.site_audit.specs.declared.block.RefusedLine.{RefusedLine}
use Rattle.site_audit.specs.declared.hearing.Heard.{Heard}
use Rattle.site_audit.specs.declared.telling.Open.{Open}
use Rattle.site_audit.specs.declared.telling.Said.{Said}
use Rattle.site_audit.specs.declared.telling.Said.TheVariants as said
use Rattle.site_audit.specs.declared.told.Named.{Named}

-- the lines of what is said at these places, and the reports
abbrev pub line_in : Option Said → List (List ℕ)
line_in None = []
line_in (Some (said.Line l)) = l ∷ []
line_in (Some (said.Report r)) = []
line_in (Some (said.Lacking order)) = []
line_in (Some said.Tick) = []

abbrev pub report_in : Option Said → List Report
report_in None = []
report_in (Some (said.Line l)) = []
report_in (Some (said.Report r)) = r ∷ []
report_in (Some (said.Lacking order)) = []
report_in (Some said.Tick) = []

abbrev pub lines_at : List Said → List ℕ → List (List ℕ)
lines_at said order = flat_map (λ k. line_in (slice_get said k)) order

abbrev pub reports_at : List Said → List ℕ → List Report
reports_at said order = flat_map (λ k. report_in (slice_get said k)) order

-- the told reports in told order, and then the refused ones
abbrev pub refused_report : ℕ → Report
refused_report order = record { order = order; status = 0; output = [] }

abbrev pub reports_with : List ℕ → List Said → List ℕ → List Report
reports_with refused said order = reports_at said order ++ map refused_report refused

abbrev pub turn_with : ℕ → List Report → Option (List (List ℕ)) → Option Turn
turn_with moment reports None = None
turn_with moment reports (Some lines) = Some (record { moment = moment; reports = reports; lines = lines })

-- the turn of what is said in this order, and of what is refused: the told lines fill the numbers that the refused ones leave
abbrev pub turn_in : (LineFault → Option (List ℕ)) → ℕ → List RefusedLine → List ℕ → List Said → Option (List ℕ) → Option Turn
turn_in text moment lines reports said None = None
turn_in text moment lines reports said (Some order) = turn_with moment (reports_with reports said order) (filled text lines (record { lines = []; left = lines_at said order }))

abbrev pub turn_heard : PlainSite → Block → Heard → Option Turn
turn_heard s b h = turn_in (refused_text s) b.moment b.lines b.reports h.said (taken_in (length h.said) h.spots)

-- the turn that a block of so many callers tells, if each checkable has this order; the orders after the block
abbrev pub nothing_heard : Heard
nothing_heard = record { said = []; spots = [] }

abbrev pub turn_told : ℕ → PlainSite → List (Option Open) → Block → Option Turn
turn_told callers s os b = entries_heard callers (full_names s) os b.entries nothing_heard >>= turn_heard s b

abbrev pub orders_after : List (Option Open) → Block → List (Option Open)
orders_after os b = after_orders (after_entries os b.entries) b.orders

-- the same of the lines of a block
abbrev pub block_told : ℕ → PlainSite → Style → List (Option Open) → List (List ℕ) → Option Turn
block_told callers s style os lines = block_read style (names_of s) lines >>= turn_told callers s os

abbrev pub orders_with : List (Option Open) → Option Block → List (Option Open)
orders_with os None = os
orders_with os (Some b) = orders_after os b

abbrev pub orders_behind : PlainSite → Style → List (Option Open) → List (List ℕ) → List (Option Open)
orders_behind s style os lines = orders_with os (block_read style (names_of s) lines)

-- the turns that blocks tell, up to the first block that tells none
abbrev pub turns_with : (List (Option Open) → List Turn) → List (Option Open) → Option Turn → List Turn
turns_with again os None = []
turns_with again os (Some t) = t ∷ again os

abbrev pub turns_from : ℕ → PlainSite → Style → List (Option Open) → List (List (List ℕ)) → List Turn
turns_from callers s style os [] = []
turns_from callers s style os (x ∷ xs) = turns_with (λ ns. turns_from callers s style ns xs) (orders_behind s style os x) (block_told callers s style os x)

abbrev pub no_orders : PlainSite → List (Option Open)
no_orders s = map (λ _. None) s.checkables

abbrev pub first_turns : ℕ → PlainSite → Style → List (List (List ℕ)) → List Turn
first_turns callers s style blocks = turns_from callers s style (no_orders s) blocks

-- a turn for each block, or none at all
abbrev pub all_told : ℕ → List Turn → Option (List Turn)
all_told count turns = if length turns == count then Some turns else None

abbrev pub turns_in : ℕ → PlainSite → Style → List (List (List ℕ)) → Option (List Turn)
turns_in callers s style blocks = all_told (length blocks) (first_turns callers s style blocks)

-- the turns that a log of so many callers tells, after the line of its version
abbrev pub told_turns : ℕ → PlainSite → Style → List ℕ → Option (List Turn)
told_turns callers s style log = turns_in callers s style (blocks_of (lines_of log))

-- the names that refused lines have are those of a site
pub record IsOf (s : PlainSite) (n : Named) : Type 0 where
  pub host : n.host ≡ host_to_name s.checkables
  pub closed : n.closed ≡ closed_to_name s.checkables
