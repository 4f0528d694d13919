-- One line more was dealt.
use Rattle.std.proofs.Common.{◌≡◌, ◌+◌, ◌++◌, map, drop, subst, arith}
use Rattle.site_model.specs.PlainSite.{site_view}
use Rattle.run_meaning.specs.Dealing.{line_refusals}
use Rattle.run_text.specs.TurnReading.{lines_read}
use Rattle.turn_deal.proofs.LineByLine.{events_more, refusals_more}
use Rattle.site_posts.specs.Made.{asked_of}
use Rattle.turn_deal.specs.Dealt.{refusal_of}
use Rattle.turn_deal.proofs.lines.deal_lines.Goals as goal

pub loop-i-preserved : goal.loop-i-preserved
loop-i-preserved c =
    let s = site_view c.args.site.now in
    let l = c.loop-i in
    let before = c.args.before in
    let next : (before + l.i + 1) + 1 ≡ before + (l.i + 1) + 1 = omega arith in
    record {
      events = events_more s c.args.lines.now l.i c.index-lines-i.result c.as_slice.result.now (map asked_of l.acts.items) _ _ c.loop-i-test.true c.index-lines-i.is c.as_slice.ensures c.in_ok-deal_line.ensures.events l.invariant.events;
      refusals =
          subst (λ n. map refusal_of c.deal_line.new.refusals.items ++ line_refusals n (lines_read s (drop (l.i + 1) c.args.lines.now)) ≡ line_refusals (before + 1) (lines_read s c.args.lines.now)) next
          (refusals_more s (before + l.i + 1) c.args.lines.now l.i c.index-lines-i.result c.as_slice.result.now (map refusal_of l.refusals.items) _ _ c.loop-i-test.true c.index-lines-i.is c.as_slice.ensures c.in_ok-deal_line.ensures.refusals l.invariant.refusals);
    }
