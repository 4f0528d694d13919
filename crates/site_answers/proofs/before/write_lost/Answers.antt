use Rattle.std.proofs.Common.{ℕ, List, subst}
use Rattle.run_replies.specs.Runs.{replied}
use Rattle.site_replies.specs.Replies.{bad_state, no_file}
use Rattle.site_run.specs.Logs.{EndsOutput}
use Rattle.site_answers.proofs.before.write_lost.Goals as goal

pub returns-in-NoFile-clause-no_file : goal.returns-in-NoFile-clause-no_file
returns-in-NoFile-clause-no_file g c = λ e.
    subst (λ (n : List ℕ). EndsOutput c.write_made.result (replied (no_file n)) (g.S.Sink.written c.args.out.now) (g.S.Sink.written c.write_made.new.out)) c.state_name-name.ensures
    (c.write_made.ensures.written (no_file c.state_name-name.result.now) c.no_file.ensures)

pub returns-in-BadState-clause-bad_state : goal.returns-in-BadState-clause-bad_state
returns-in-BadState-clause-bad_state g c = λ e.
    subst (λ (n : List ℕ). EndsOutput c.write_made-in-BadState.result (replied (bad_state n)) (g.S.Sink.written c.args.out.now) (g.S.Sink.written c.write_made-in-BadState.new.out)) c.state_name-name.ensures
    (c.write_made-in-BadState.ensures.written (bad_state c.state_name-name.result.now) c.bad_state.ensures)
