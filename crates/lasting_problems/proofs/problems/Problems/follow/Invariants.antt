-- What was looked at so far is noted.
use Rattle.std.proofs.Common.{◌≡◌, ℕ, length, drop}
use Rattle.site_model.specs.PlainSite.{PlainSite}
use Rattle.run_meaning.specs.Runs.{joined}
use Rattle.run_meaning.specs.Turns.{Histories}
use Rattle.site_posts.specs.Books.{AreBooks, histories_of}
use Rattle.site_posts.specs.Segments.{segments_of}
use Rattle.lasting_problems.specs.Lasting.{lasting}
use Rattle.lasting_problems.specs.Noted.{noted}
use Rattle.lasting_problems.proofs.Rounding.{IsSoFar, now}
use Rattle.lasting_problems.proofs.problems.Problems.follow.Given as goal

abbrev pub invariant-loop-segment : goal.invariant-loop-segment
invariant-loop-segment l =
    (s : PlainSite) (moment : ℕ) (before round : Histories) → AreBooks s moment l.books → length round ≡ length s.checkables → histories_of l.books ≡ joined before round → l.segments ≡ segments_of round → l.initial.self ≡ noted (lasting s before)
    → IsSoFar (now s before (joined before round)) (drop l.segment-index l.segments) (lasting s (joined before round)) (length s.checkables) l.self
