-- What is left comes behind the answers so far, is answered, and has room.
use Rattle.std.proofs.Common.{◌≡◌, ◌+◌, ◌≤◌, ◌++◌, length, map, not, vec_capacity, count_by}
use Rattle.std.specs.Vec.Iter.{into_iter_items}
use Rattle.commit_board.specs.declared.slot.Slot.TheVariants.{Answered}
use Rattle.commit_board.specs.Boards.{has_answer}
use Rattle.commit_board.proofs.board.move_answers.Given as goal

abbrev pub invariant-loop-slot : goal.invariant-loop-slot
invariant-loop-slot g l =
    (map (λ a. Answered a) l.list.items ++ into_iter_items l.slot-iterator ≡ map (λ a. Answered a) l.fn.list.items ++ l.fn.slots.items)
    × (count_by (λ s. not (has_answer s)) (into_iter_items l.slot-iterator) ≡ 0)
    × (length l.list.items + length (into_iter_items l.slot-iterator) ≤ vec_capacity l.list)
