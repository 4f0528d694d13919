-- What its rules make of all their targets stands with the items of the wave.
use Rattle.std.proofs.Common.{◌≡◌, List, IfOk, map, refl, sym, ap, ◌∙◌, subst}
use Rattle.std.specs.List.{filter}
use Rattle.site_base.specs.declared.diag.Diag.{Diag}
use Rattle.eval_meaning.specs.Registered.{PlainItem}
use Rattle.dsl_load.specs.Loads.{plain_parts}
use Rattle.eval_work.specs.Kept.{RulesNamed}
use Rattle.eval_work.specs.Works.{view_of, plain_item, plain_rule}
use Rattle.commit_meaning.specs.Waves.{is_in_wave}
use Rattle.wave_order.specs.WaveItems.{plain_pending}
use Rattle.wave_objects.specs.Plain.{with_items}
use Rattle.wave_objects.proofs.ApplyLaws.{applied_named}
use Rattle.wave_objects.proofs.GatherLaws.{faults_gathered, items_gathered}
use Rattle.wave_objects.proofs.NamedRules.{kept_named}
use Rattle.wave_objects.proofs.gathering_many.gather_by_many.Goals as goal

pub apply_to_all_by_many-requires-clause-named : goal.apply_to_all_by_many-requires-clause-named
apply_to_all_by_many-requires-clause-named g c κs within =
    let store = c.args.view.now.store.now in
    let rules = c.deref.result.now in
    applied_named store c.in_ok-rules.rules.items (filter (λ r. is_in_wave c.args.wave r.kind) (map plain_rule rules)) c.in_ok-rules.ensures.rules
    (kept_named store c.args.wave rules (subst (RulesNamed store) (sym c.deref.ensures.value) c.requires.captured))

pub returns-clause-items : goal.returns-clause-items
returns-clause-items g c =
    let load = plain_parts (with_items c.args.items c.args.parts.now) in
    let same = items_gathered load (view_of c.args.view.now) c.args.objects.now c.args.wave c.requires.view (map plain_item c.args.items.items) (map plain_rule c.deref.result.now) c.apply_to_all_by_many.new.rules.items
    refl (ap (map plain_rule) c.deref.ensures.value) c.in_ok-apply_to_all_by_many.ensures.applied (c.in_ok-apply_to_all_by_many.ensures.rules ∙ c.in_ok-rules.ensures.rules) in
    subst (λ (is : List PlainItem). IfOk c.put_together.result (λ g. map plain_pending g.items.items ≡ is)) same c.put_together.ensures.items

pub returns-clause-faults : goal.returns-clause-faults
returns-clause-faults g c =
    let load = plain_parts (with_items c.args.items c.args.parts.now) in
    let same = faults_gathered load (view_of c.args.view.now) c.args.objects.now c.args.wave c.requires.view (map plain_rule c.deref.result.now) c.apply_to_all_by_many.new.rules.items
    (ap (map plain_rule) c.deref.ensures.value) c.in_ok-apply_to_all_by_many.ensures.applied (c.in_ok-apply_to_all_by_many.ensures.rules ∙ c.in_ok-rules.ensures.rules) in
    subst (λ (ds : List Diag). IfOk c.put_together.result (λ g. g.faults ≡ ds)) same c.put_together.ensures.faults

pub returns-clause-shared : goal.returns-clause-shared
returns-clause-shared g c = c.put_together.ensures.shared c.args.view.now.store.now c.in_ok-apply_to_all_by_many.ensures.shared
