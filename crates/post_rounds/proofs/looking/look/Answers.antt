-- One look at the post of a place.
use Rattle.std.proofs.Common.{refl}
use Rattle.post_rounds.specs.Rounds.{sense}
use Rattle.post_rounds.specs.Hands.{base_of}
use Rattle.std.specs.Prelude.{map}
use Rattle.post_rounds.proofs.Held.{held_at, held_set, looked}
use Rattle.post_rounds.proofs.looking.look.Goals as goal

pub look-count-requires-after_bounds : goal.look-count-requires-after_bounds
look-count-requires-after_bounds g c κs within = (held_at g.M.Machine.caller_of c.args.posts.now c.args._caller c.args.hand.now.items c.requires.hand c.args.post c.requires.post c.index-posts-at.result c.index_mut.result.now c.index-posts-at.is c.index_mut.ensures.value).0

pub returns-clause-hand : goal.returns-clause-hand
returns-clause-hand g c = held_set g.M.Machine.caller_of c.args.posts.now c.args._caller c.args.hand.now.items c.requires.hand c.args.post c.requires.post c.index-posts-at.result c.index_mut.result.now c.index-posts-at.is c.index_mut.ensures.value c.look-count.new.pass c.look-count.ensures.pass c.look-count.ensures.own

pub returns-clause-sight : goal.returns-clause-sight
returns-clause-sight g c =
    looked g.M.Machine.caller_of c.args.posts.now c.args._caller c.args.hand.now.items c.requires.hand c.args.post c.requires.post c.index-posts-at.result c.index_mut.result.now c.index-posts-at.is c.index_mut.ensures.value
    (sense g.M.Machine.entry_of g.M.Machine.caller_of g.M.Machine.after g.M.Machine.glance_of (g.K.Maker.event_of c.args._maker.now) (map base_of c.args.posts.now)) refl refl
    c.look-count.new.pass c.look-count.result.0 c.look-count.result.1 c.look-count.ensures.pass.1 c.look-count.ensures.own c.look-count.ensures.seen c.look-count.ensures.length c.look-count.ensures.glance
