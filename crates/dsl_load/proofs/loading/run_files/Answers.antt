-- The load is the run of its first file from where it begins.
use Rattle.std.proofs.Common.{sym, ◌∙◌}
use Rattle.eval_work.specs.Works.{state_of, view_of}
use Rattle.dsl_load.proofs.Running.{run_is, run_stops, runs_on}
use Rattle.dsl_load.proofs.loading.run_files.Goals as goal

pub returns-in_err-run_order-clause-runs : goal.returns-in_err-run_order-clause-runs
returns-in_err-run_order-clause-runs c =
    runs_on _ _ c.from_residual-in_err-run_order.result c.in_err-run_order.field-0.0 c.from_residual-in_err-run_order.ensures.1
    (run_stops _ _ (view_of c.load_view-view.result) c.in_ok-work.work.depth (state_of c.in_ok-work.work) (state_of c.run_order.new.work) c.in_err-run_order.field-0.0 c.load_view-view.ensures.view c.in_ok-work.ensures.depth c.in_ok-work.ensures.start c.in_err-run_order.ensures.gives)

pub returns-clause-runs : goal.returns-clause-runs
returns-clause-runs c =
    (c.in_ok-run_order.field-0, sym (run_is _ _ (view_of c.load_view-view.result) c.in_ok-work.work.depth (state_of c.in_ok-work.work) c.load_view-view.ensures.view c.in_ok-work.ensures.depth c.in_ok-work.ensures.start) ∙ c.in_ok-run_order.ensures.gives)
