-- The events of one caller more.
use Rattle.std.proofs.Common.{◌≡◌, ◌<◌, ◌≤◌, ◌+◌, ◌++◌, ◌∷◌, [], length, map, take, sym, ap, ◌∙◌, arith, length-append, length-take-le}
use Rattle.std.proofs.lemmas.List.{map-append}
use Rattle.run_meaning.proofs.Lists.{length_map}
use Rattle.run_meaning.specs.Rounds.{events_on}
use Rattle.run_meaning.specs.Turns.{of_index}
use Rattle.site_posts.specs.Made.{asked_of}
use Rattle.site_posts.specs.Many.{asked_in}
use Rattle.round_check.specs.Kept.{shelf_at}
use Rattle.round_check.proofs.LoopLaws.{take_one, wanted_more}
use Rattle.round_check.proofs.Stepping.{at_is}
use Rattle.round_check.proofs.checking.wanted_of.Goals as goal

pub loop-list-preserved : goal.loop-list-preserved
loop-list-preserved c =
    let i = c.loop-list.list-index in
    let lists = c.args.lists.now in
    let list = c.list-item.result in
    let w = c.loop-list.wanted.items in
    let shelf = c.in_ok-events_in.field-0 in
    let xs = map asked_in (take i lists) in
    let grown = c.in_ok-push.ensures.items in
    let at = at_is i lists list c.loop-list-test.true c.list-item.is in
    let so_far = c.loop-list.invariant in
    let l = ap length grown ∙ length-append w (shelf ∷ []) in
    let less = c.loop-list-test.true in
    let many : length w ≡ length xs = so_far.0 ∙ sym (length_map asked_in (take i lists) ∙ length-take-le i lists (omega (arith, less))) in (
      omega (arith, l, so_far.0),
      λ k p.
          ap (λ z. shelf_at z k p) grown
          ∙ wanted_more w xs shelf (asked_in list) many so_far.1 (λ q. c.in_ok-events_in.ensures q ∙ ap (λ as'. events_on q (map asked_of as')) c.deref.ensures.value) k p
          ∙ ap (λ z. events_on p (of_index k z)) (sym (ap (map asked_in) (take_one i lists list at) ∙ map-append asked_in (take i lists) (list ∷ []))),
    )
