use Rattle.std.proofs.Common.{rules, ◌≡◌, ◌+◌, length, refl, ◌∙◌, arith}
use Rattle.site_audit.proofs.Taking.{none_in, some_in}
use Rattle.site_audit.proofs.Tracking.{all_within, match_none, match_some}
use Rattle.site_audit.proofs.tracks.take_sorted.Goals as goal

pub order_of-requires : goal.order_of-requires
order_of-requires c =
    let s : c.in-Some.all ≡ length c.args.spots.now + c.args.count = search rules in
    all_within c.in-Some.all (length c.args.spots.now) c.args.spots.now c.as_slice.result.now refl (omega (arith, s)) (λ k d l. let t = c.requires.things k d l in omega (arith, t, s)) (c.as_slice.ensures.value ∙ c.in_ok-pairs.ensures)

pub returns-in-Some-2 : goal.returns-in-Some-2
returns-in-Some-2 c =
    let s : c.in-Some.all ≡ length c.args.spots.now + c.args.count = search rules in
    some_in c.args.count c.args.spots.now c.in-Some.all c.as_slice.result.now c.requires.sorted c.requires.things s (c.as_slice.ensures.value ∙ c.in_ok-pairs.ensures) c.in-Some-2.order.items c.in_ok-things_of-in-Some-2.field-0.items
    (match_some _ _ _ _ c.in-Some-2.is c.in_ok-order.ensures) (search rules)

pub returns : goal.returns
returns c =
    let s : c.in-Some.all ≡ length c.args.spots.now + c.args.count = search rules in
    none_in c.args.count c.args.spots.now c.in-Some.all c.as_slice.result.now c.requires.sorted c.requires.things s (c.as_slice.ensures.value ∙ c.in_ok-pairs.ensures) (match_none _ _ _ c.in-None.is c.in_ok-order.ensures)
