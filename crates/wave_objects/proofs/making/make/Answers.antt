-- What is added is what the item comes to.
use Rattle.std.proofs.Common.{◌≡◌, ◌++◌, OnOk, map, subst}
use Rattle.site_model.specs.PlainSite.{PlainObject, object_view}
use Rattle.eval_work.specs.Works.{plain_item}
use Rattle.commit_meaning.specs.Answers.{Answer, made_in, diags_in}
use Rattle.wave_order.specs.WaveItems.{plain_pending}
use Rattle.wave_objects.specs.Steps.{groups_by}
use Rattle.wave_objects.proofs.making.make.Goals as goal

pub returns-clause-objects : goal.returns-clause-objects
returns-clause-objects c =
    subst (λ (a : Answer PlainObject). OnOk c.add_answer.result (map object_view c.add_answer.new.out.objects.items ≡ map object_view c.args.out.now.objects.items ++ made_in a)) c.in_ok-answer.ensures c.add_answer.ensures.objects

pub returns-clause-groups : goal.returns-clause-groups
returns-clause-groups c =
    subst (λ (a : Answer PlainObject). OnOk c.add_answer.result (map plain_item c.add_answer.new.out.groups.items ≡ map plain_item c.args.out.now.groups.items ++ groups_by (plain_pending c.args.pending) a)) c.in_ok-answer.ensures c.add_answer.ensures.groups

pub returns-clause-faults : goal.returns-clause-faults
returns-clause-faults c =
    subst (λ (a : Answer PlainObject). OnOk c.add_answer.result (c.add_answer.new.out.faults ≡ c.args.out.now.faults ++ diags_in a)) c.in_ok-answer.ensures c.add_answer.ensures.faults
