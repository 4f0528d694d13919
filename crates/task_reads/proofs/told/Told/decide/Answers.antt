-- A read is told as the world's look-up says.
use Rattle.std.proofs.Common.{◌≡◌, Some, None, sym, ap, ◌∙◌}
use Rattle.std.specs.Arc.{arc_value}
use Rattle.site_base.specs.View.{view}
use Rattle.eval_work.specs.Lists.{object_at}
use Rattle.eval_work.specs.Works.{view_of}
use Rattle.task_reads.proofs.Telling.{sight_found, sight_lost, told_lacking, told_shown}
use Rattle.task_reads.proofs.told.Told.decide.Goals as goal

pub returns-in-Some-clause-told : goal.returns-in-Some-clause-told
returns-in-Some-clause-told c =
    let w = c.args.world.now in
    let r = c.args.read in
    let os = w.objects.now in
    let o = c.in-Some.object.now in
    let at : object_at r.kind r.name os ≡ Some o =
    sym (ap (λ k. object_at k r.name os) c.as_str.ensures) ∙ sym (ap (λ n. object_at c.as_str.result.now n os) c.as_str-2.ensures) ∙ c.in-Some.ensures.found in
    told_shown (view_of w) c.args.self.now c.show.new.self r (view (arc_value o.tree)) c.show.result c.requires (sight_found w r o at) c.show.ensures.objects c.show.ensures.known c.show.ensures.looks

pub returns-else-not-is_absent-clause-told : goal.returns-else-not-is_absent-clause-told
returns-else-not-is_absent-clause-told c =
    let w = c.args.world.now in
    let r = c.args.read in
    let os = w.objects.now in
    let none : object_at r.kind r.name os ≡ None =
    sym (ap (λ k. object_at k r.name os) c.as_str.ensures) ∙ sym (ap (λ n. object_at c.as_str.result.now n os) c.as_str-2.ensures) ∙ c.in-None.ensures.absent in
    told_lacking (view_of w) c.args.self.now c.lack.new.self r c.lack.result c.requires (sight_lost w r none (sym c.is_absent.ensures ∙ c.if-not-is_absent.false)) c.lack.ensures.objects c.lack.ensures.absent c.lack.ensures.whole c.lack.ensures.looks
