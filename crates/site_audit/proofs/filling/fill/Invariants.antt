use Rattle.std.proofs.Common.{◌≡◌, [], drop}
use Rattle.site_audit.specs.Commands.{refused_with}
use Rattle.site_audit.specs.Filling.{filled}
use Rattle.site_audit.proofs.filling.fill.Given as goal

-- the lines so far, filled up with what is left, are all lines
abbrev pub invariant-loop-one : goal.invariant-loop-one
invariant-loop-one l =
    filled (refused_with l.host l.closed) (drop l.one-index l.refused) (record { lines = l.lines; left = l.left }) ≡ filled (refused_with l.host l.closed) l.refused (record { lines = []; left = l.told })
