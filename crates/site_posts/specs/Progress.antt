-- How far a round has come in which acts are taken one after another.
use Rattle.std.specs.Prelude.{◌≡◌, ℕ, List, [], ◌++◌, length, slice_get, Option, Some}
use Rattle.jiff_tz.specs.declared.tzif.Tzif.{Tzif}
use Rattle.checkable_core.specs.Entries.{rules_in}
use Rattle.run_meaning.specs.Acts.{Rules}
use Rattle.run_meaning.specs.Alone.{Move, moves_of, round_of}
use Rattle.run_meaning.specs.Runs.{joined}
use Rattle.run_meaning.specs.Turns.{Asked, Histories, of_index}
use Rattle.site_model.specs.PlainSite.{PlainSite}
use Rattle.site_posts.specs.Outlooks.{IsNoneOf}

-- the entries of a round: of each of these checkables at its place, and of no others
pub record AreKept (touched : List ℕ) (rows round : Histories) : Type 0 where
  pub whole : length rows ≡ length touched
  pub each : (p k : ℕ) → slice_get touched p ≡ Some k → of_index p rows ≡ of_index k round
  pub others : (k : ℕ) → IsNoneOf k touched → of_index k round ≡ []

-- these moves were made: the entries that they made come after those before the round, and are kept
pub record HasCome (s : PlainSite) (zone : Option Tzif) (moment : ℕ) (before : Histories) (touched : List ℕ) (done : List Move) (now rows : Histories) : Type 0 where
  pub stand : now ≡ joined before (round_of (rules_in s zone) moment before done)
  pub kept : AreKept touched rows (round_of (rules_in s zone) moment before done)

-- after these moves some of a caller's acts were taken, the first ones
pub record HasStopped (r : Rules) (moment : ℕ) (before : Histories) (done : List Move) (caller : ℕ) (acts : List Asked) (after : Histories) : Type 0 where
  pub taken : List Asked
  pub rest : List Asked
  pub first : taken ++ rest ≡ acts
  pub are : after ≡ joined before (round_of r moment before (done ++ moves_of caller taken))
