-- The lines of a round, by the checkables that get entries.
use Rattle.std.proofs.Common.{◌≡◌, ℕ, suc, [], ◌∷◌, ◌++◌, map, refl, ap}
use Rattle.std.specs.List.{flat_map}
use Rattle.run_meaning.specs.Turns.{Histories}
use Rattle.site_model.specs.PlainSite.{PlainSite}
use Rattle.site_posts.specs.Segments.{segments_from}
use Rattle.run_text.specs.LogText.{round_lines, styled_entry}
use Rattle.run_text.specs.declared.style.Style.{Style}
use Rattle.engine_log.specs.TurnLines.{segment_lines}

pub lines_from : (style : Style) (s : PlainSite) (k : ℕ) (round : Histories) → flat_map (segment_lines style s) (segments_from k round) ≡ flat_map (λ lines. lines) (round_lines style s k round)
lines_from style s k [] = refl
lines_from style s k ([] ∷ round) = lines_from style s (suc k) round
lines_from style s k ((e ∷ es) ∷ round) = ap (λ ls. map (styled_entry style s k) (e ∷ es) ++ ls) (lines_from style s (suc k) round)
