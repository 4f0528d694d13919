-- The segments so far are behind the watches.
use Rattle.std.proofs.Common.{◌≡◌, length, drop}
use Rattle.site_model.specs.PlainSite.{site_view}
use Rattle.run_meaning.specs.Turns.{Histories}
use Rattle.site_posts.specs.Segments.{segments_of}
use Rattle.check_plan.specs.Followed.{followed}
use Rattle.check_plan.specs.Shown.{AreAllShown}
use Rattle.check_plan.proofs.Watching.{AreFollowed}
use Rattle.check_plan.proofs.following.follow.Given as goal

abbrev pub invariant-loop-segment : goal.invariant-loop-segment
invariant-loop-segment l =
    let s = site_view l.site in
    record {
      many : length l.watches ≡ length l.initial.watches;
      so_far : (before round : Histories) → length round ≡ length s.checkables → l.segments ≡ segments_of round → AreAllShown s before round
          → AreFollowed s before (drop l.segment-index l.segments) l.watches (followed s before round l.initial.watches);
    }
