-- What parts of a turn's lines give.
use Rattle.std.specs.Prelude.{◌≡◌, ◌+◌, ◌*◌, ◌/◌, ◌%◌, ◌<◌, ℕ, List, Result, min, length, map, slice_index_or, IfOk}
use Rattle.std.specs.Fork.{slice_chunk}
use Rattle.run_meaning.specs.Dealing.{line_events, line_refusals}
use Rattle.run_text.specs.TurnReading.{lines_read}
use Rattle.site_base.specs.declared.memory.OutOfMemory.{OutOfMemory}
use Rattle.site_model.specs.PlainSite.{PlainSite}
use Rattle.site_posts.specs.Made.{asked_of}
use Rattle.turn_deal.specs.Dealt.{refusal_of}
use Rattle.turn_deal.specs.declared.lines.LinesDealt.{LinesDealt}

-- these lines of a turn, with so many before them, give these acts and refusals
pub record Deal (s : PlainSite) (before : ℕ) (lines : List (List ℕ)) (d : LinesDealt) : Type 0 where
  pub events : map asked_of d.acts.items ≡ line_events (lines_read s lines)
  pub refusals : map refusal_of d.refusals.items ≡ line_refusals (before + 1) (lines_read s lines)

-- each part of the lines has been dealt, if memory lasted; parts are of this size, and the last one is what is left
pub record AreParts (s : PlainSite) (size : ℕ) (lines : List (List ℕ)) (parts : List (Result LinesDealt OutOfMemory)) : Type 0 where
  pub many : length parts ≡ length lines / size + min 1 (length lines % size)
  pub each : (n : ℕ) (r : Result LinesDealt OutOfMemory) → n < length parts → IfOk (slice_index_or parts n r) (Deal s (n * size) (slice_chunk lines size n))
