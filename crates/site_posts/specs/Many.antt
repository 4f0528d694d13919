-- What the callers of a round bring, and what it leaves.
use Rattle.std.specs.Prelude.{◌≡◌, ℕ, List, map, Vec, Option}
use Rattle.std.specs.declared.alloc.Global.{Global}
use Rattle.jiff_tz.specs.declared.tzif.Tzif.{Tzif}
use Rattle.checkable_core.specs.Contents.{Contents}
use Rattle.checkable_core.specs.Entries.{rules_in}
use Rattle.run_meaning.specs.Rounds.{IsRound}
use Rattle.run_meaning.specs.Runs.{joined}
use Rattle.run_meaning.specs.Turns.{Asked, Histories}
use Rattle.site_model.specs.PlainSite.{PlainSite}
use Rattle.site_posts.specs.Books.{AreBooks, histories_of}
use Rattle.site_posts.specs.Made.{asked_of}
use Rattle.site_posts.specs.Segments.{segments_of}
use Rattle.site_posts.specs.declared.act.Act.{Act}
use Rattle.site_posts.specs.declared.segment.Segment.{Segment}

-- the events of one caller's acts
abbrev pub asked_in : Vec Act Global → List Asked
asked_in list = map asked_of list.items

-- of the callers' events there is a round: these are its segments, and its entries stand in the books, after those that stood there
pub record IsRoundOf (s : PlainSite) (zone : Option Tzif) (moment : ℕ) (old new : List Contents) (events : List (List Asked)) (segments : List Segment) : Type 0 where
  pub round : Histories
  pub is : IsRound (rules_in s zone) moment (histories_of old) events round
  pub told : segments ≡ segments_of round
  pub behind : histories_of new ≡ joined (histories_of old) round
  pub books : AreBooks s moment new
