use Rattle.std.proofs.Common.{◌≡◌, drop}
use Rattle.std.specs.List.{concat}
use Rattle.std.specs.Str.{bytes_eq}
use Rattle.site_audit.proofs.agreeing.is_text_of.Given as goal

-- the rest is what is left of the lines exactly where all is all of them
abbrev pub invariant-loop-line : goal.invariant-loop-line
invariant-loop-line l = bytes_eq l.rest (concat (drop l.line-index l.lines)) ≡ bytes_eq l.bytes (concat l.lines)
