-- One part more is cut off, and the last is what is left.
use Rattle.std.proofs.Common.{◌≡◌, ◌++◌, List, ℕ, take, ap, ◌∙◌, take-append-drop}
use Rattle.std.specs.Borrow.{Bor}
use Rattle.std.specs.List.{concat}
use Rattle.script_parts.specs.Parts.{texts_of}
use Rattle.script_parts.proofs.PartByPart.{all_parts, part_more}
use Rattle.script_parts.proofs.cutting.cut.Goals as goal

pub loop-rest-preserved : goal.loop-rest-preserved
loop-rest-preserved c =
    let parts = c.loop-rest.parts.items in
    let part = c.split_at.result.0 in
    let before = c.loop-rest.rest.now in
    let rest = c.split_at.result.1.now in
    let n = c.next_turn.result in
    let both : part.now ++ rest ≡ before =
    ap (λ xs. xs ++ rest) c.split_at.ensures.front ∙ ap (λ ys. take n before ++ ys) c.split_at.ensures.back ∙ take-append-drop n before in
    ap (λ (ps : List (Bor (List ℕ))). concat (texts_of ps) ++ rest) c.in_ok-push.ensures.items
    ∙ part_more parts part rest
    ∙ ap (λ xs. concat (texts_of parts) ++ xs) both
    ∙ c.loop-rest.invariant

pub returns : goal.returns
returns c =
    let parts = c.loop-rest.parts.items in
    let rest = c.loop-rest.rest in
    ap (λ (ps : List (Bor (List ℕ))). concat (texts_of ps)) c.in_ok-push-2.ensures.items
    ∙ all_parts parts rest
    ∙ c.loop-rest.invariant
