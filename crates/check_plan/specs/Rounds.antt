-- A plan and a round, from the plan before the turn on.
use Rattle.std.specs.Prelude.{◌≡◌, List, [], length}
use Rattle.checkable_core.specs.Contents.{Contents}
use Rattle.run_meaning.specs.Runs.{joined}
use Rattle.run_meaning.specs.Schedule.{watches_after}
use Rattle.run_meaning.specs.Turns.{Histories, Plans}
use Rattle.site_model.specs.PlainSite.{PlainSite}
use Rattle.site_posts.specs.Books.{histories_of}
use Rattle.site_posts.specs.Segments.{segments_of}
use Rattle.site_posts.specs.declared.segment.Segment.{Segment}
use Rattle.check_plan.specs.Followed.{followed}
use Rattle.check_plan.specs.Plans.{Plan}
use Rattle.check_plan.specs.Shown.{AreAllShown}

-- the watches are those of these plans, where no entry came yet, and as many orders were given; of the plans' orders any may have had a report
-- since
pub record BeginsWith (s : PlainSite) (plans : Plans) (p : Plan) : Type 0 where
  pub watches : p.watches ≡ watches_after s plans [] []
  pub given : p.orders.given ≡ plans.given

-- the round has these segments, and its entries, each of which tells what its checkable shows, stand in the books behind those before it
pub record IsRoundOf (s : PlainSite) (books : List Contents) (segments : List Segment) (before round : Histories) : Type 0 where
  pub whole : length round ≡ length s.checkables
  pub stand : histories_of books ≡ joined before round
  pub gathered : segments ≡ segments_of round
  pub shown : AreAllShown s before round

-- after the entries of a round
abbrev pub with_round : PlainSite → Histories → Histories → Plan → Plan
with_round s before round p = record p { watches = followed s before round p.watches }
