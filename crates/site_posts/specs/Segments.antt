-- The entries of a round, by the checkables that get some.
use Rattle.std.specs.Prelude.{ℕ, suc, List, [], ◌∷◌}
use Rattle.run_meaning.specs.Turns.{Histories}
use Rattle.site_model.specs.declared.entry.Entry.{Entry}
use Rattle.site_posts.specs.declared.segment.Segment.{Segment}

abbrev pub segment_of : ℕ × List Entry → Segment
segment_of kept = record { checkable = kept.0; entries = kept.1 }

-- those of the checkables from this index on that get any, ascending
abbrev pub segments_from : ℕ → Histories → List Segment
segments_from k [] = []
segments_from k ([] ∷ round) = segments_from (suc k) round
segments_from k ((e ∷ es) ∷ round) = record { checkable = k; entries = e ∷ es } ∷ segments_from (suc k) round

abbrev pub segments_of : Histories → List Segment
segments_of round = segments_from 0 round
