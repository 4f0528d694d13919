-- One task more has its answer.
use Rattle.std.proofs.Common.{ap, ◌∙◌, slice_get, sym, subst}
use Rattle.commit_board.proofs.Keeping.{answers, waits}
use Rattle.commit_board.proofs.board.Board.put_answer.Goals as goal

pub overflow_sub-self : goal.overflow_sub-self
overflow_sub-self g c = waits c.self.invariant c.args.place (ap (λ b. slice_get b.slots c.args.place) c.self.view_is ∙ c.requires.claimed)

pub invariant_of-self : goal.invariant_of-self
invariant_of-self g c =
    answers c.self.invariant c.args.place c.args.answer (ap (λ b. slice_get b.slots c.args.place) c.self.view_is ∙ c.requires.claimed)
    (subst (λ w. g.L.Course.gives w c.args.place c.args.answer) (sym (ap (λ b. b.wave) c.self.view_is)) c.requires.right)
