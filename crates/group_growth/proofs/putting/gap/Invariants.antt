use Rattle.std.proofs.Common.{◌≡◌, ◌+◌, drop}
use Rattle.group_growth.specs.Adding.{gap_for}
use Rattle.group_growth.proofs.putting.gap.Given as goal

abbrev pub invariant-loop-pair : goal.invariant-loop-pair
invariant-loop-pair l = (l.at ≡ l.pair-index) × (l.pair-index + gap_for l.key (drop l.pair-index l.pairs) ≡ gap_for l.key l.pairs)
