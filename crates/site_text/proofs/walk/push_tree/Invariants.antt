use Rattle.std.proofs.Common.{◌≡◌, ◌++◌}
use Rattle.site_base.specs.View.{view}
use Rattle.site_text.specs.Listing.{tree_text}
use Rattle.site_text.specs.Walk.{opened_text, opened_weight}
use Rattle.site_text.proofs.walk.push_tree.Given as goal

-- what stands so far and what is open are the whole text
abbrev pub invariant-loop-bracket : goal.invariant-loop-bracket
invariant-loop-bracket l = l.out ++ opened_text l.opened.items ≡ l.fn.out ++ tree_text (view l.tree)

abbrev pub decreases-loop-bracket : goal.decreases-loop-bracket
decreases-loop-bracket l = opened_weight l.opened.items
