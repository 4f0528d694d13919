-- What is kept goes on by one entry.
use Rattle.std.proofs.Common.{Bool, refl, sym, subst}
use Rattle.run_meaning.specs.Downtimes.{calls_from}
use Rattle.checkable_core.specs.Keeping.{IsProblemOf}
use Rattle.checkable_core.proofs.Kept.{kept_more}
use Rattle.checkable_core.proofs.running.Running.keep.Goals as goal

pub returns-clause-ok : goal.returns-clause-ok
returns-clause-ok c = λ s k check h keeps late shown.
    let e = c.args.entry.now in
    kept_more c.args.self.now _ s k check h e c.view-view.result keeps late shown refl c.view-view.ensures
    (λ so stands. c.in_ok-enter.ensures.ok check (calls_from check 1 h) (subst (λ (b : Bool). IsProblemOf check e.event b) (sym c.is_problem-problem.ensures) so) stands)
    c.in_ok-enter.ensures.latest
    (λ stands follows. c.note.ensures s k check h stands follows)
