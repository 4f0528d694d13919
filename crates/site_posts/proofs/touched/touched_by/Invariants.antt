-- The acts so far are on these checkables, and on no others.
use Rattle.site_posts.proofs.Touching.{AreOn, Touches}
use Rattle.site_posts.proofs.touched.touched_by.Given as goal
use Rattle.std.proofs.Common.{take}

abbrev pub invariant-loop-list : goal.invariant-loop-list
invariant-loop-list l = Touches l.lists l.list-index l.touched.items

abbrev pub invariant-loop-act : goal.invariant-loop-act
invariant-loop-act l = record {
  before : Touches l.lists l.list-index l.touched.items;
  here : AreOn l.touched.items (take l.act-index l.act-items);
}
