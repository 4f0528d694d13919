-- What was dealt so far, followed by what the rest gives, is all.
use Rattle.std.proofs.Common.{◌≡◌, ◌+◌, ◌++◌, map, drop}
use Rattle.site_model.specs.PlainSite.{site_view}
use Rattle.run_meaning.specs.Dealing.{line_events, line_refusals}
use Rattle.run_text.specs.TurnReading.{lines_read}
use Rattle.site_posts.specs.Made.{asked_of}
use Rattle.turn_deal.specs.Dealt.{refusal_of}
use Rattle.turn_deal.proofs.lines.deal_lines.Given as goal

abbrev pub invariant-loop-i : goal.invariant-loop-i
invariant-loop-i l =
    let s = site_view l.site in
    record {
      events : map asked_of l.acts.items ++ line_events (lines_read s (drop l.i l.lines)) ≡ line_events (lines_read s l.fn.lines);
      refusals : map refusal_of l.refusals.items ++ line_refusals (l.before + l.i + 1) (lines_read s (drop l.i l.lines)) ≡ line_refusals (l.before + 1) (lines_read s l.fn.lines);
    }
