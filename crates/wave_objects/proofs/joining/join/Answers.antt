use Rattle.std.proofs.Common.{◌≡◌, ◌++◌, List, IfOk, OnOk, subst}
use Rattle.site_base.specs.declared.diag.Diag.{Diag}
use Rattle.site_model.specs.PlainSite.{PlainObject, object_view}
use Rattle.wave_objects.proofs.joining.join.Goals as goal

pub returns-clause-object : goal.returns-clause-object
returns-clause-object c = subst (λ (x : PlainObject). IfOk c.join_by.result (λ o. object_view o ≡ x)) c.in_ok-answer.ensures.object c.join_by.ensures.object

pub returns-clause-faults : goal.returns-clause-faults
returns-clause-faults c = subst (λ (ds : List Diag). OnOk c.join_by.result (c.join_by.new.faults ≡ c.args.faults.now ++ ds)) c.in_ok-answer.ensures.faults c.join_by.ensures.faults
