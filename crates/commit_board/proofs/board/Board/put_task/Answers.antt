-- One task more is open.
use Rattle.std.proofs.Common.{ap, ◌∙◌, arith, slice_get, sym, subst}
use Rattle.commit_board.proofs.Keeping.{has_room, opens_again}
use Rattle.commit_board.proofs.board.Board.put_task.Goals as goal

pub push_reserved-requires : goal.push_reserved-requires
push_reserved-requires g c =
    omega (arith, c.self.inside.free.ok, has_room c.self.invariant c.args.place c.args.task (ap (λ b. slice_get b.slots c.args.place) c.self.view_is ∙ c.requires.claimed))

pub invariant_of-self : goal.invariant_of-self
invariant_of-self g c =
    opens_again c.self.invariant c.push_reserved.new.self c.args.place c.args.task c.push_reserved.ensures.items c.push_reserved.ensures.capacity
    (ap (λ b. slice_get b.slots c.args.place) c.self.view_is ∙ c.requires.claimed)
    (subst (λ w. g.L.Course.asks w c.args.place c.args.task) (sym (ap (λ b. b.wave) c.self.view_is)) c.requires.asked)
