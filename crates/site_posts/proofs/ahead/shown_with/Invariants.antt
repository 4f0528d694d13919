-- What is shown so far, and what is left.
use Rattle.site_posts.proofs.Leading.{IsShown}
use Rattle.site_posts.proofs.ahead.shown_with.Given as goal

abbrev pub invariant-loop-one : goal.invariant-loop-one
invariant-loop-one l = IsShown l.ahead l.sights l.one-index l.next l.shown.items
