-- All are down where those of the rest are.
use Rattle.std.proofs.Common.{◌≡◌, drop}
use Rattle.std.specs.List.{list_all}
use Rattle.run_meaning.specs.Turns.{of_index}
use Rattle.depend_graph.specs.Outlooks.{down_at, flagged, meant_by}
use Rattle.depend_graph.proofs.outlook.Outlook.leads_back.Given as goal

abbrev pub invariant-loop-other : goal.invariant-loop-other
invariant-loop-other l =
    list_all (down_at (meant_by l.self) (flagged l.self.above.now l.blocked)) (drop l.other-index (of_index l.depend l.self.followers.now))
    ≡ list_all (down_at (meant_by l.self) (flagged l.self.above.now l.blocked)) (of_index l.depend l.self.followers.now)
