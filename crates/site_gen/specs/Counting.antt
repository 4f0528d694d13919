-- Counts that go on.
use Rattle.std.specs.Prelude.{◌+◌, ℕ, not, List, filter, length}
use Rattle.std.specs.List.{flat_map}
use Rattle.run_meaning.specs.Runs.{TurnLog}
use Rattle.site_model.specs.declared.decision.Decision.{Decision}
use Rattle.site_model.specs.declared.entry.Entry.{Entry}
use Rattle.site_posts.specs.declared.segment.Segment.{Segment}
use Rattle.site_gen.specs.Counts.{decisions_in, entries_of, is_sent}
use Rattle.site_gen.specs.declared.counts.Counts.{Counts}

-- the entries of these segments
abbrev pub entries_in : List Segment → List Entry
entries_in xs = flat_map (λ x. x.entries) xs

-- with these decisions counted
abbrev pub with_decisions : Counts → List Decision → Counts
with_decisions c ds = record c { sent = c.sent + length (filter is_sent ds); suppressed = c.suppressed + length (filter (λ d. not (is_sent d)) ds) }

-- with these entries and what is decided at them
abbrev pub with_entries : Counts → List Entry → Counts
with_entries c es = with_decisions (record c { entries = c.entries + length es }) (decisions_in es)

-- with so many orders besides
abbrev pub with_orders : Counts → ℕ → Counts
with_orders c n = record c { orders = c.orders + n }

-- with the log of a turn
abbrev pub with_turn : Counts → TurnLog → Counts
with_turn c l = with_orders (with_entries c (entries_of l)) (length l.orders)
