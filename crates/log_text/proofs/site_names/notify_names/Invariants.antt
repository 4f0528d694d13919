use Rattle.std.proofs.Common.{◌≡◌, map, take}
use Rattle.log_text.proofs.site_names.notify_names.Given as goal

-- the names that were passed
abbrev pub invariant-loop-notify : goal.invariant-loop-notify
invariant-loop-notify l = l.names ≡ take l.notify-index (map (λ n. n.name) l.notifies)
