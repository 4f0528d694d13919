-- What is answered of a round that is told of.
use Rattle.std.specs.Prelude.{◌≡◌, ℕ, List, Option}
use Rattle.jiff_tz.specs.declared.tzif.Tzif.{Tzif}
use Rattle.checkable_core.specs.Contents.{Contents}
use Rattle.checkable_core.specs.Entries.{rules_in}
use Rattle.run_meaning.specs.Rounds.{IsRound}
use Rattle.run_meaning.specs.Turns.{Asked, Histories}
use Rattle.site_model.specs.PlainSite.{PlainSite}
use Rattle.site_posts.specs.Books.{histories_of}
use Rattle.site_posts.specs.Many.{IsRoundOf}
use Rattle.site_posts.specs.declared.segment.Segment.{Segment}
use Rattle.round_check.specs.declared.told.Told.{Told}
use Rattle.round_check.specs.Making.{told_in}

-- of the callers' events there is such a round, which these segments tell and the books have; and no other is told of so
pub record IsOnlyRound (s : PlainSite) (zone : Option Tzif) (moment : ℕ) (old new : List Contents) (events : List (List Asked)) (told : List Told) (segments : List Segment) : Type 0 where
  pub made : IsRoundOf s zone moment old new events segments
  pub only : (other : Histories) → IsRound (rules_in s zone) moment (histories_of old) events other → told_in other ≡ told → other ≡ made.round

-- there is no such round
abbrev pub IsNoRound : PlainSite → Option Tzif → ℕ → List Contents → List (List Asked) → List Told → Type 0
IsNoRound s zone moment old events told = (round : Histories) → IsRound (rules_in s zone) moment (histories_of old) events round → told_in round ≡ told → ⊥
