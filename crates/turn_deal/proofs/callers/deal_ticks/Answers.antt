-- One tick more is with its caller.
use Rattle.std.proofs.Common.{◌≡◌, ◌<◌, ◌%◌, ◌∷◌, ◌++◌, [], length, map, set, sym, ap, subst, arith}
use Rattle.std.proofs.lemmas.Nat.{mod_below}
use Rattle.run_meaning.specs.Turns.{of_index}
use Rattle.site_posts.specs.Made.{asked_of}
use Rattle.site_posts.specs.Many.{asked_in}
use Rattle.turn_deal.proofs.ByCaller.{one_given}
use Rattle.turn_deal.proofs.callers.deal_ticks.Goals as goal

pub loop-tick-preserved : goal.loop-tick-preserved
loop-tick-preserved c =
    let callers = length c.args.lists.now.items in
    let lists = map asked_in c.loop-tick.lists.items in
    let tick = asked_of c.in-Some.tick in
    let same : c.len-callers.result ≡ callers = omega (arith, c.len-callers.ensures, c.args.lists.now.ok.0) in
    let within : tick.checkable % callers < length lists = subst (λ n. tick.checkable % callers < n) (sym c.loop-tick.invariant.many) (mod_below tick.checkable callers c.requires) in
    one_given (λ a. a.checkable) (λ a. a) callers (map asked_in c.args.lists.now.items) lists _ tick _ _ _ (ap (map asked_of) c.in-Some.ensures.steps.0) within
    (subst (λ n. map asked_in c.add.new.lists.items ≡ set lists (tick.checkable % n) (of_index (tick.checkable % n) lists ++ tick ∷ [])) same c.in_ok-add.ensures.acts) c.loop-tick.invariant
