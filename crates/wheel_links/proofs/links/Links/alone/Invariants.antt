use Rattle.std.proofs.Common.{◌≡◌, vec_len}
use Rattle.wheel_links.specs.Links.{AreAlone}
use Rattle.wheel_links.proofs.links.Links.alone.Given as goal

abbrev pub invariant-loop-cell : goal.invariant-loop-cell
invariant-loop-cell l = (vec_len l.cells ≡ l.cell) × AreAlone l.cells.items
