-- A draft is made by one step.
use Rattle.checkable_core.proofs.stepping.draft.Goals as goal

pub returns : goal.returns
returns c h stands has = record {
  taken = c.step-taken.ensures.taken h stands has;
  status = λ e is at taken. c.step-taken.ensures.stands h e stands is at taken;
}
