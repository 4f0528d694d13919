use Rattle.std.proofs.Common.{◌≡◌, map, take}
use Rattle.log_text.proofs.site_names.depend_names.Given as goal

-- the names that were passed
abbrev pub invariant-loop-depend : goal.invariant-loop-depend
invariant-loop-depend l = l.names ≡ take l.depend-index (map (λ d. d.name) l.depends)
