-- Which checkables are due, by their indices.
use Rattle.std.specs.Prelude.{ℕ, suc, not, nat_le, ◌&&◌, List, [], ◌∷◌, if◌then◌else◌}
use Rattle.run_meaning.specs.Schedule.{Due, Watch}

-- those from this index on that are due at a moment, by rising index
abbrev pub due_by_index : ℕ → ℕ → List Watch → List Due
due_by_index moment k [] = []
due_by_index moment k (w ∷ ws) =
    if not w.waiting && nat_le w.slot.next moment
    then record { since = w.slot.next; checkable = k } ∷ due_by_index moment (suc k) ws
    else due_by_index moment (suc k) ws
