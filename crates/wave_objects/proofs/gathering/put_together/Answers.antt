-- The items that were registered come first, and then those that rules have made.
use Rattle.std.proofs.Common.{◌++◌, map, ap, ◌∙◌}
use Rattle.std.specs.List.{filter, flat_map}
use Rattle.eval_meaning.specs.Registered.{PlainItem}
use Rattle.eval_work.specs.Works.{plain_item}
use Rattle.eval_work.specs.declared.item.Item.{Item}
use Rattle.commit_meaning.specs.Orders.{by_number}
use Rattle.commit_meaning.specs.Waves.{is_in_wave, item_number}
use Rattle.wave_order.specs.WaveItems.{plain_pending}
use Rattle.wave_objects.specs.Applying.{faults_by, made_by}
use Rattle.wave_objects.proofs.WaitLaws.{after_applied, after_registered}
use Rattle.wave_objects.proofs.gathering.put_together.Goals as goal

pub returns-clause-items : goal.returns-clause-items
returns-clause-items c =
    let registered = filter (λ (i : PlainItem). is_in_wave c.args.wave i.kind) (map plain_item c.args.items.items) in
    let made = flat_map made_by c.args.rules.items in
    c.in_ok-items_by_number.ensures.items
    ∙ ap (by_number item_number) (c.in_ok-add_applied.ensures.items ∙ ap (λ is. is ++ made) (c.in_ok-add_registered.ensures.items ∙ ap (λ is. map plain_pending is ++ registered) c.new.ensures.items))

pub returns-clause-faults : goal.returns-clause-faults
returns-clause-faults c = c.in_ok-add_applied.ensures.faults ∙ ap (λ ds. ds ++ flat_map faults_by c.args.rules.items) c.new-2.ensures

pub returns-clause-shared : goal.returns-clause-shared
returns-clause-shared c = λ s h.
    let first = after_registered s c.new.result.items c.add_registered.new.out.items (filter (λ (i : Item). is_in_wave c.args.wave i.kind) c.args.items.items) c.in_ok-add_registered.ensures.whole c.new.ensures.items in
    c.in_ok-items_by_number.ensures.shared s (after_applied s c.add_registered.new.out.items c.add_applied.new.out.items.items c.args.rules.items c.in_ok-add_applied.ensures.whole first h)
