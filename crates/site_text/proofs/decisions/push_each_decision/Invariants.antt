use Rattle.std.proofs.Common.{◌≡◌, ◌++◌, false, nat_lt, drop, map}
use Rattle.site_model.specs.PlainSite.{site_view}
use Rattle.site_text.specs.Entries.{parts_text, decision_text}
use Rattle.site_text.proofs.decisions.push_each_decision.Given as goal

-- what stands so far and what the rest gives are the whole text
abbrev pub invariant-loop-i : goal.invariant-loop-i
invariant-loop-i l =
    l.out ++ parts_text (nat_lt 0 l.i) (map (decision_text (site_view l.site)) (drop l.i l.decisions)) ≡ l.fn.out ++ parts_text false (map (decision_text (site_view l.site)) l.decisions)
