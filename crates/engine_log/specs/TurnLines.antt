-- The lines of what a turn of the engine gives.
use Rattle.std.specs.Prelude.{◌≡◌, ◌+◌, ◌/◌, ◌%◌, ◌<◌, ℕ, List, Result, min, length, map, slice_index_or, IfOk}
use Rattle.std.specs.Fork.{slice_chunk}
use Rattle.std.specs.List.{flat_map}
use Rattle.run_text.specs.LogText.{styled_entry}
use Rattle.run_text.specs.declared.style.Style.{Style}
use Rattle.site_base.specs.declared.memory.OutOfMemory.{OutOfMemory}
use Rattle.site_model.specs.PlainSite.{PlainSite}
use Rattle.site_posts.specs.declared.segment.Segment.{Segment}

-- the lines of the entries that a checkable gets
abbrev pub segment_lines : Style → PlainSite → Segment → List (List ℕ)
segment_lines style s x = map (styled_entry style s x.checkable) x.entries

-- the lines of each part of these segments, if memory lasts; parts are of this size, and the last one is what is left
pub record AreParts (style : Style) (s : PlainSite) (size : ℕ) (xs : List Segment) (parts : List (Result (List (List ℕ)) OutOfMemory)) : Type 0 where
  pub many : length parts ≡ length xs / size + min 1 (length xs % size)
  pub each : (n : ℕ) (r : Result (List (List ℕ)) OutOfMemory) → n < length parts → IfOk (slice_index_or parts n r) (λ lines. lines ≡ flat_map (segment_lines style s) (slice_chunk xs size n))
