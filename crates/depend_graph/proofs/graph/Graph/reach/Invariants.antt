-- The flags of the ancestors so far say whether they are held back.
use Rattle.std.proofs.Common.{◌≡◌, ℕ, ◌<◌, length, get_or}
use Rattle.site_model.specs.PlainSite.{site_view}
use Rattle.run_meaning.specs.Reachability.{is_held, reach_of}
use Rattle.run_meaning.specs.Turns.{of_index}
use Rattle.depend_graph.specs.Outlooks.{flagged, outlook_of}
use Rattle.depend_graph.proofs.graph.Graph.reach.Given as goal

abbrev pub invariant-loop-ancestor : goal.invariant-loop-ancestor
invariant-loop-ancestor l = record {
  long : length l.blocked.items ≡ length (of_index l.checkable l.self.ancestors);
  flags : (k : ℕ) → k < l.ancestor-index →
      flagged (of_index l.checkable l.self.ancestors) l.blocked.items (get_or l.ancestor-items k 0)
      ≡ is_held (reach_of (outlook_of (site_view l.site) l.zone l.fn.purpose l.fn.moment l.sights) (get_or l.ancestor-items k 0));
}
