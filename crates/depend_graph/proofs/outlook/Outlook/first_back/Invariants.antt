-- The first of the rest that passes is the first of all.
use Rattle.std.proofs.Common.{◌≡◌, drop}
use Rattle.run_meaning.specs.Turns.{of_index}
use Rattle.depend_graph.specs.Outlooks.{first_of, flagged, leads_back, meant_by}
use Rattle.depend_graph.proofs.outlook.Outlook.first_back.Given as goal

abbrev pub invariant-loop-depend : goal.invariant-loop-depend
invariant-loop-depend l =
    first_of (leads_back (meant_by l.self) (flagged l.self.above.now l.blocked) l.self.followers.now) (drop l.depend-index (of_index l.checkable l.self.leaders.now))
    ≡ first_of (leads_back (meant_by l.self) (flagged l.self.above.now l.blocked) l.self.followers.now) (of_index l.checkable l.self.leaders.now)
