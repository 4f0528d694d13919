use Rattle.std.proofs.Common.{◌≡◌, ◌++◌, false, nat_lt, drop, map}
use Rattle.site_model.specs.PlainSite.{site_view}
use Rattle.site_text.specs.Entries.{parts_text, sight_text}
use Rattle.site_text.proofs.entries.push_each_sight.Given as goal

-- what stands so far and what the rest gives are the whole text
abbrev pub invariant-loop-i : goal.invariant-loop-i
invariant-loop-i l =
    l.out ++ parts_text (nat_lt 0 l.i) (map (sight_text (site_view l.site)) (drop l.i l.sights)) ≡ l.fn.out ++ parts_text false (map (sight_text (site_view l.site)) l.sights)
