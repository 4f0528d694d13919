use Rattle.std.proofs.Common.{sym, ap, subst, ◌∙◌}
use Rattle.site_base.specs.View.{view as tree_view}
use Rattle.dsl_value.specs.declared.value.Value.{Value}
use Rattle.dsl_value.specs.declared.value.Value.TheVariants as value
use Rattle.eval_meaning.specs.States.{gives}
use Rattle.eval_meaning.specs.Objects.{loaded}
use Rattle.eval_work.specs.Works.{state_of, view_of, Gives}
use Rattle.name_work.proofs.Reading.{read_shown, read_absent, read_blocked}
use Rattle.name_work.proofs.objects.read_object.Goals as goal

pub returns-then-not-is_absent-clause-gives : goal.returns-then-not-is_absent-clause-gives
returns-then-not-is_absent-clause-gives c =
    read_blocked (view_of c.args.view.now) c.args.place c.args.read (state_of c.args.work.now) c.in-None.ensures.absent (sym c.is_absent.ensures ∙ c.if-not-is_absent.true)

pub returns-in_ok-push-in-Some-clause-gives : goal.returns-in_ok-push-in-Some-clause-gives
returns-in_ok-push-in-Some-clause-gives c =
    rw (read_shown (view_of c.args.view.now) c.args.place c.args.read (state_of c.args.work.now) (tree_view c.in-Some.tree.now) c.in-Some.ensures.found)
    (subst (λ rs. Gives {X = Value} {Y = Value} (λ v. v) c.load.result (state_of c.load.new.work) (loaded c.args.place (tree_view c.in-Some.tree.now) (record (state_of c.args.work.now) { reads = rs }))) c.in_ok-push-in-Some.ensures.items c.load.ensures.gives)

pub returns-in_ok-push-in-None-clause-gives : goal.returns-in_ok-push-in-None-clause-gives
returns-in_ok-push-in-None-clause-gives c =
    read_absent (view_of c.args.view.now) c.args.place c.args.read (state_of c.args.work.now) c.in-None.ensures.absent (sym c.is_absent.ensures ∙ c.if-not-is_absent.false)
    ∙ ap (λ rs. gives value.Null (record (state_of c.args.work.now) { reads = rs })) (sym c.in_ok-push-in-None.ensures.items)
