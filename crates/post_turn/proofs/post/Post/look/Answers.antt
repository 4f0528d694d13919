use Rattle.post_turn.proofs.Lists.{stays}
use Rattle.post_turn.proofs.post.Post.look.Goals as goal

pub leave-requires-clause-body : goal.leave-requires-clause-body
leave-requires-clause-body g c κs within = let body = c.enter-body.ensures.body in (stays g.M.Machine.caller_of _ _ _ body.0, body.1)
