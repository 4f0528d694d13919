-- The posts behind those that are left have ended.
use Rattle.std.proofs.Common.{length}
use Rattle.post_rounds.proofs.Endings.{Ending}
use Rattle.post_rounds.proofs.closing.close_all.Given as goal

abbrev pub invariant-loop-post : goal.invariant-loop-post
invariant-loop-post g l = Ending g.M.Machine.fit g.M.Machine.after g.M.Machine.caller_of l.fn.posts.items l.fn.hands.items l.posts.items l.hands.items l.ended.items

abbrev pub decreases-loop-post : goal.decreases-loop-post
decreases-loop-post g l = length l.posts.items
