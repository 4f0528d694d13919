use Rattle.std.proofs.Common.{◌≡◌, ◌++◌, drop}
use Rattle.site_model.specs.PlainSite.{site_view}
use Rattle.site_text.specs.Entries.{users_text}
use Rattle.site_text.proofs.decisions.push_users.Given as goal

-- what stands so far and what the rest gives are the whole text
abbrev pub invariant-loop-user : goal.invariant-loop-user
invariant-loop-user l =
    l.out ++ users_text (site_view l.site) (drop l.user-index l.users) ≡ l.fn.out ++ users_text (site_view l.site) l.users
