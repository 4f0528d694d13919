-- What a view shows of an object that is found.
use Rattle.std.proofs.Common.{Some, sym, ap, ◌∙◌}
use Rattle.std.specs.Prelude.{option_map}
use Rattle.std.specs.Arc.{arc_value}
use Rattle.site_base.specs.View.{view}
use Rattle.site_model.specs.declared.object.Object.{Object}
use Rattle.eval_work.specs.Lists.{object_at}
use Rattle.eval_work.proofs.Found.{shown_at}
use Rattle.name_work.proofs.objects.find_object.Goals as goal

pub returns-in-Some-clause-found : goal.returns-in-Some-clause-found
returns-in-Some-clause-found c =
    let os = c.args.objects.now in
    shown_at c.args.read.now os
    ∙ sym (ap (λ k. option_map (λ (o : Object). view (arc_value o.tree)) (object_at k c.args.read.now.name os)) c.as_str.ensures)
    ∙ sym (ap (λ n. option_map (λ (o : Object). view (arc_value o.tree)) (object_at c.as_str.result.now n os)) c.as_str-2.ensures)
    ∙ ap (option_map (λ (o : Object). view (arc_value o.tree))) c.in-Some.ensures.found
    ∙ sym (ap (λ t. Some (view t)) c.deref.ensures)

pub returns-in-None-clause-absent : goal.returns-in-None-clause-absent
returns-in-None-clause-absent c =
    let os = c.args.objects.now in
    shown_at c.args.read.now os
    ∙ sym (ap (λ k. option_map (λ (o : Object). view (arc_value o.tree)) (object_at k c.args.read.now.name os)) c.as_str.ensures)
    ∙ sym (ap (λ n. option_map (λ (o : Object). view (arc_value o.tree)) (object_at c.as_str.result.now n os)) c.as_str-2.ensures)
    ∙ ap (option_map (λ (o : Object). view (arc_value o.tree))) c.in-None.ensures.absent
