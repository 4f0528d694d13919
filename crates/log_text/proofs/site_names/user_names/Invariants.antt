use Rattle.std.proofs.Common.{◌≡◌, map, take}
use Rattle.log_text.proofs.site_names.user_names.Given as goal

-- the names that were passed
abbrev pub invariant-loop-user : goal.invariant-loop-user
invariant-loop-user l = l.names ≡ take l.user-index (map (λ u. u.name) l.users)
