-- The parts so far give what the lines of these parts give.
use Rattle.std.proofs.Common.{◌≡◌, ◌*◌, ◌++◌, length, map, take}
use Rattle.std.specs.Vec.Iter.{into_iter_items}
use Rattle.site_model.specs.PlainSite.{site_view}
use Rattle.run_meaning.specs.Dealing.{line_events, line_refusals}
use Rattle.run_text.specs.TurnReading.{lines_read}
use Rattle.site_posts.specs.Made.{asked_of}
use Rattle.turn_deal.specs.Dealt.{refusal_of}
use Rattle.turn_deal.proofs.parts.joined.Given as goal

abbrev pub invariant-loop-part : goal.invariant-loop-part
invariant-loop-part l =
    let s = site_view l._site in
    let so_far = take (length l.yielded * l._size) l.lines in
    record {
      whole : l.yielded ++ into_iter_items l.part-iterator ≡ l.fn.parts.items;
      events : map asked_of l.acts.items ≡ line_events (lines_read s so_far);
      refusals : map refusal_of l.refusals.items ≡ line_refusals 1 (lines_read s so_far);
    }
