-- The line is the last piece.
use Rattle.std.proofs.Common.{◌≡◌, ◌++◌, ◌∷◌, [], length, ap, ap₂, ◌∙◌, arith}
use Rattle.site_keep.specs.Pieces.{pieces}
use Rattle.site_keep.proofs.WriteLaws.{piece_added}
use Rattle.site_keep.proofs.saved_lines.SavedLines.push.Goals as goal

pub returns : goal.returns
returns c =
    let old = c.self.inside in
    let line = c.args.line.now in
    let text : c.extend_from_slice.new.self.items ≡ old.text.items ++ line = grind arith in
    let lengths : c.push.new.self.items ≡ old.lengths.items ++ length line ∷ [] = grind arith in
    let seen : pieces old.lengths.items old.text.items ≡ c.args.self.now = grind arith in
    ap₂ pieces lengths text ∙ piece_added old.lengths.items old.text.items line c.self.invariant ∙ ap (λ xs. xs ++ line ∷ []) seen
