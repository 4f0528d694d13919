-- One of the lists is longer by the act.
use Rattle.std.proofs.Common.{[], ◌∷◌, map, ap, ◌∙◌}
use Rattle.std.proofs.lemmas.List.{map-append}
use Rattle.site_posts.specs.Made.{asked_of}
use Rattle.site_posts.specs.Many.{asked_in}
use Rattle.turn_deal.proofs.ByCaller.{act_added}
use Rattle.turn_deal.proofs.callers.add.Goals as goal

pub returns-clause-acts : goal.returns-clause-acts
returns-clause-acts c =
    act_added asked_in c.args.lists.now.items c.args.caller c.index_mut.result.now c.push.new.self (asked_of c.args.act) c.requires c.index_mut.ensures.value
    (ap (map asked_of) c.in_ok-push.ensures.items ∙ map-append asked_of c.index_mut.result.now.items (c.args.act ∷ []))
