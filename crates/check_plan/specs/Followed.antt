-- What a round's entries leave of watches.
use Rattle.std.specs.Prelude.{ℕ, suc, List, [], ◌∷◌}
use Rattle.checkable_core.specs.Contents.{check_at}
use Rattle.run_meaning.specs.Schedule.{Watch, watch_from}
use Rattle.run_meaning.specs.Turns.{Histories, of_index}
use Rattle.site_model.specs.PlainSite.{PlainSite}

-- of the checkables from this index on, whose entries in the round these are
abbrev pub followed_from : PlainSite → ℕ → Histories → Histories → List Watch → List Watch
followed_from s k before [] ws = ws
followed_from s k before (es ∷ round) [] = []
followed_from s k before (es ∷ round) (w ∷ ws) = watch_from (check_at s k) (of_index k before) es w ∷ followed_from s (suc k) before round ws

abbrev pub followed : PlainSite → Histories → Histories → List Watch → List Watch
followed s before round ws = followed_from s 0 before round ws
