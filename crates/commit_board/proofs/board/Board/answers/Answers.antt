-- The answers are right, since the slots' are.
use Rattle.std.proofs.Common.{rules, ◌≡◌, ◌++◌, ap, ◌∙◌, map, sym, true}
use Rattle.commit_board.specs.declared.slot.Slot.TheVariants.{Answered}
use Rattle.commit_board.proofs.Keeping.{are_right}
use Rattle.commit_board.proofs.board.Board.answers.Goals as goal

pub returns-clause-right : goal.returns-clause-right
returns-clause-right g c =
    let runs : c.self.inside.is_running ≡ true = search rules in
    are_right c.self.invariant.stands runs c.move_answers.new.list.items
    (sym (c.move_answers.ensures ∙ (ap (λ l. map (λ a. Answered a) l ++ c.replace-slots.result.items) c.in_ok-list.ensures.items ∙ ap (λ v. v.items) c.replace-slots.ensures.value)))
