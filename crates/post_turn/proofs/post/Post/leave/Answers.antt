use Rattle.std.proofs.Common.{◌≡◌, refl, sym, ap, ◌∙◌, arith, [], ◌∷◌, Some, None}
use mathlib.Core.Option.{none}
use Rattle.atomic_table.specs.Table.{step}
use Rattle.post_turn.specs.History.{entries_of}
use Rattle.post_turn.specs.Turns.{caller, resting, grown}
use Rattle.post_turn.specs.Passes.{start_of, seen_of, mine_of}
use Rattle.post_turn.proofs.Lists.{own_after}
use Rattle.post_turn.proofs.Serves.{serves_as}
use Rattle.post_turn.proofs.Passing.{seen_at, mine_at, exchanged, rests}
use Rattle.post_turn.proofs.post.Post.leave.Given.{Over}
use Rattle.post_turn.proofs.post.Post.leave.Goals as goal

pub fetch_add-served-requires : goal.fetch_add-served-requires
fetch_add-served-requires g c =
    let post = c.args.self.now in
    let pass = c.args.pass.now in
    let sized = post.sized in
    let body = c.requires.body in
    let back = exchanged c.args.pass.now.place.me c.exchange.new.seat.me None (Some c.args.body) _ _ c.requires.turn.2 c.exchange.ensures.3 in (
      c.exchange.ensures.0 ∙ c.requires.turn.0,
      (let w = sized.0 in omega arith),
      serves_as g.M.Machine.fit g.M.Machine.after g.M.Machine.caller_of _ _ _ (step 1 1 1 0 none) _ _ _ _ (caller post.machine (start_of post) pass.caller (seen_of pass) (mine_of pass)) c.args.body sized.1 back body.0 body.1.0 body.1.1,
    )

-- the seat once the next ticket is served
abbrev served : (g : Over) (c : goal.After-wake_next g)
    → c.fetch_add-served.new.seat.me ≡ (resting (grown (caller c.args.self.now.machine (start_of c.args.self.now) c.args.pass.now.caller (seen_of c.args.pass.now) (mine_of c.args.pass.now)) c.args.body.history.items ∷ []), [])
served g c = c.fetch_add-served.ensures.2 _ _ c.args.body (exchanged c.args.pass.now.place.me c.exchange.new.seat.me None (Some c.args.body) _ _ c.requires.turn.2 c.exchange.ensures.3)

pub returns-clause-pass : goal.returns-clause-pass
returns-clause-pass g c =
    let post = c.args.self.now in
    ((c.fetch_add-served.ensures.0 ∙ c.exchange.ensures.0 ∙ c.requires.turn.0, rests post.machine (start_of post) c.args.pass.now.caller _ _ c.fetch_add-served.new.seat.me (served g c)), refl)

pub returns-clause-seen : goal.returns-clause-seen
returns-clause-seen g c = ap seen_at (served g c)

pub returns-clause-mine : goal.returns-clause-mine
returns-clause-mine g c = ap mine_at (served g c)

pub returns-clause-own : goal.returns-clause-own
returns-clause-own g c =
    let pass = c.args.pass.now in
    let now = served g c in
    ap (entries_of g.M.Machine.caller_of pass.caller) (ap seen_at now) ∙ own_after g.M.Machine.caller_of pass.caller (seen_of pass) (mine_of pass) c.args.body.history.items c.requires.body.0 c.requires.own ∙ sym (ap mine_at now)
