-- What is left raises the counts to what all sights make of those at first.
use Rattle.std.proofs.Common.{◌≡◌, ℕ, drop}
use Rattle.round_check.specs.Shelves.{counted}
use Rattle.round_check.specs.Walking.{raised}
use Rattle.round_check.proofs.shelf.Counts.raise_all.Given as goal

abbrev pub invariant-loop-sight : goal.invariant-loop-sight
invariant-loop-sight l = (q : ℕ) → raised (drop l.sight-index l.sights) (counted l.self.counts.entries) q ≡ raised l.fn.sights (counted l.fn.self.counts.entries) q
