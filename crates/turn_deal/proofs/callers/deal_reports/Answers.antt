-- One report more is with its caller.
use Rattle.std.proofs.Common.{◌≡◌, ◌<◌, ◌%◌, ◌∷◌, ◌++◌, [], length, map, set, sym, ap, subst, arith}
use Rattle.std.proofs.lemmas.Nat.{mod_below}
use Rattle.run_meaning.specs.Turns.{of_index}
use Rattle.site_posts.specs.Many.{asked_in}
use Rattle.turn_deal.specs.Dealt.{taken_of}
use Rattle.turn_deal.proofs.ByCaller.{one_given}
use Rattle.turn_deal.proofs.callers.deal_reports.Goals as goal

pub loop-report-preserved : goal.loop-report-preserved
loop-report-preserved c =
    let callers = length c.args.lists.now.items in
    let lists = map asked_in c.loop-report.lists.items in
    let report = taken_of c.in-Some.report in
    let same : c.len-callers.result ≡ callers = omega (arith, c.len-callers.ensures, c.args.lists.now.ok.0) in
    let within : report.order % callers < length lists = subst (λ n. report.order % callers < n) (sym c.loop-report.invariant.many) (mod_below report.order callers c.requires) in
    one_given (λ t. t.order) (λ t. t.asked) callers (map asked_in c.args.lists.now.items) lists _ report _ _ _ (ap (map taken_of) c.in-Some.ensures.steps.0) within
    (subst (λ n. map asked_in c.add.new.lists.items ≡ set lists (report.order % n) (of_index (report.order % n) lists ++ report.asked ∷ [])) same c.in_ok-add.ensures.acts) c.loop-report.invariant
