-- A caller behind the first takes no lines.
use Rattle.std.proofs.Common.{[], ◌∷◌, ◌++◌, map, ap, ◌∙◌}
use Rattle.std.proofs.lemmas.List.{map-append}
use Rattle.site_posts.specs.Made.{asked_of}
use Rattle.site_posts.specs.Many.{asked_in}
use Rattle.turn_deal.proofs.ByCaller.{next_list}
use Rattle.turn_deal.proofs.callers.lists_with.Goals as goal

pub loop-caller-preserved : goal.loop-caller-preserved
loop-caller-preserved c =
    let so_far = c.loop-caller.lists.items in
    next_list (map asked_of c.args.lines.items) c.loop-caller.caller (map asked_in so_far) _ c.loop-caller.auto.caller
    (ap (map asked_in) c.in_ok-push-2.ensures.items ∙ map-append asked_in so_far (c.new.result ∷ []) ∙ ap (λ as'. map asked_in so_far ++ map asked_of as' ∷ []) c.new.ensures.items) c.loop-caller.invariant
