-- All answers, which rules take one after another, are those at all objects.
use Rattle.std.proofs.Common.{◌∙◌, ap, map, subst, sym}
use Rattle.site_model.specs.PlainSite.{object_view}
use Rattle.eval_work.specs.Works.{view_of}
use Rattle.wave_objects.specs.Applying.{HaveTaken}
use Rattle.wave_objects.specs.AtTargets.{PlacedNamed}
use Rattle.wave_objects.specs.ByType.{rules_going_to, type_rules}
use Rattle.wave_objects.proofs.ApplyLaws.{new_shared, taken_applied, within_one}
use Rattle.wave_objects.proofs.TakeLaws.{rules_stay}
use Rattle.wave_objects.proofs.TaskLaws.{all_answers, all_shared, all_within}
use Rattle.wave_objects.proofs.TypeLaws.{named_of_type}
use Rattle.wave_objects.proofs.applying_many.apply_to_all_by_many.Goals as goal

pub answers_at_objects-requires-clause-named : goal.answers_at_objects-requires-clause-named
answers_at_objects-requires-clause-named g c κs within = λ kind.
    subst (PlacedNamed c.args.view.now.store.now) (sym (ap (type_rules kind) c.deref-2.ensures.value ∙ (c.in_ok-types.ensures kind ∙ ap (rules_going_to kind 0) c.deref.ensures.value)))
    (named_of_type c.args.view.now.store.now kind 0 c.args.rules.now.items c.requires.named)

pub take_all-requires : goal.take_all-requires
take_all-requires g c =
    let os = c.args.objects.now in
    let types = c.deref-2.result.now in
    all_within c.args.view.now os types _
    (within_one (view_of c.args.view.now) (map object_view os) types c.args.rules.now.items (λ kind. ap (type_rules kind) c.deref-2.ensures.value ∙ (c.in_ok-types.ensures kind ∙ ap (rules_going_to kind 0) c.deref.ensures.value)))
    os c.in_ok-answers.answers.items c.in_ok-answers.ensures

pub returns-clause-rules : goal.returns-clause-rules
returns-clause-rules g c = rules_stay 0 _ c.args.rules.now.items c.take_all.new.rules.items c.in_ok-take_all.ensures.taken

pub returns-clause-applied : goal.returns-clause-applied
returns-clause-applied g c =
    let v = view_of c.args.view.now in
    let os = c.args.objects.now in
    let types = c.deref-2.result.now in
    let rules = c.args.rules.now.items in
    taken_applied v (map object_view os) types rules (λ kind. ap (type_rules kind) c.deref-2.ensures.value ∙ (c.in_ok-types.ensures kind ∙ ap (rules_going_to kind 0) c.deref.ensures.value)) c.take_all.new.rules.items
    (subst (λ answers. HaveTaken 0 answers rules c.take_all.new.rules.items) (all_answers c.args.view.now os types os c.in_ok-answers.answers.items c.in_ok-answers.ensures) c.in_ok-take_all.ensures.taken)
    c.requires.new

pub returns-clause-shared : goal.returns-clause-shared
returns-clause-shared g c =
    let store = c.args.view.now.store.now in
    let os = c.args.objects.now in
    c.in_ok-take_all.ensures.shared store (new_shared store c.args.rules.now.items c.requires.new) (all_shared c.args.view.now os c.deref-2.result.now os c.in_ok-answers.answers.items c.in_ok-answers.ensures)
