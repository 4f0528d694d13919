use Rattle.std.proofs.Common.{subst}
use Rattle.dsl_syntax.specs.SyntaxView.{block_view}
use Rattle.dsl_syntax.proofs.SyntaxRows.{block_fields}
use Rattle.dsl_value.specs.declared.value.Value.{Value}
use Rattle.eval_meaning.specs.Evaluation.{body_of}
use Rattle.eval_work.specs.Works.{state_of, view_of, Gives}
use Rattle.item_body.proofs.body.run_block.Goals as goal

pub returns-clause-gives : goal.returns-clause-gives
returns-clause-gives c =
    subst (λ d. Gives {X = Value} {Y = Value} (λ v. v) c.eval_body.result (state_of c.eval_body.new.work) (body_of (view_of c.args.view.now) d (block_view c.args.block.now) (state_of c.args.work.now))) c.requires.depth
    (rw (block_fields c.args.block.now, ← c.deref.ensures.value) c.eval_body.ensures.gives)
