-- Lines, reports and ticks are dealt one kind after another.
use Rattle.std.proofs.Common.{◌≡◌, ◌++◌, length, map, filter, sym, ap, ◌∙◌, subst}
use Rattle.run_meaning.proofs.Lists.{length_map}
use Rattle.run_meaning.specs.Dealing.{goes_to, lines_to}
use Rattle.run_meaning.specs.Turns.{from_on, of_index}
use Rattle.site_posts.specs.Made.{asked_of}
use Rattle.site_posts.specs.Many.{asked_in}
use Rattle.turn_deal.specs.Dealt.{taken_of}
use Rattle.turn_deal.proofs.ByCaller.{all_dealt, many_numbers}
use Rattle.turn_deal.proofs.dealt.Acts.for_many.Goals as goal

pub returns : goal.returns
returns c =
    let workers = c.args.workers in
    let lines = map asked_of c.args.self.lines.items in
    let reports = map taken_of c.args.self.reports.items in
    let ticks = map asked_of c.args.self.ticks.items in
    let lists = c.in_ok-lists.lists.items in
    let first = map asked_in lists in
    let second = map asked_in c.deal_reports.new.lists.items in
    let third = map asked_in c.deal_ticks.new.lists.items in
    let many : length lists ≡ workers = sym (length_map asked_in lists) ∙ ap length c.in_ok-lists.ensures ∙ length_map (λ k. lines_to k lines) (from_on 0 workers) ∙ many_numbers 0 workers in
    let still : length c.deal_reports.new.lists.items ≡ workers = c.deal_reports.ensures.many ∙ many in
    all_dealt workers lines reports ticks first second third c.in_ok-lists.ensures (length_map asked_in c.deal_ticks.new.lists.items ∙ c.deal_ticks.ensures.many ∙ still)
    (λ k. subst (λ n. of_index k second ≡ of_index k first ++ map (λ t. t.asked) (filter (λ t. goes_to n k t.order) reports)) many (c.in_ok-deal_reports.ensures.each k))
    (λ k. subst (λ n. of_index k third ≡ of_index k second ++ filter (λ a. goes_to n k a.checkable) ticks) still (c.in_ok-deal_ticks.ensures.each k))
