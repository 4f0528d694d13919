-- What stands, with the pieces of the rest, is all.
use Rattle.std.proofs.Common.{◌≡◌, ◌++◌, drop, length, sum}
use Rattle.serde_json.specs.Data.{array}
use Rattle.site_keep.specs.Pieces.{pieces}
use Rattle.site_keep.specs.Shape.{line_items}
use Rattle.site_keep.specs.Writing.{item_tokens, tokens_of}
use Rattle.site_keep.proofs.saved_lines.write_pieces.Given as goal

abbrev pub invariant-loop-count : goal.invariant-loop-count
invariant-loop-count l =
    (l.out.tokens ++ item_tokens (line_items (pieces (drop l.count-index l.lengths) l.rest)) ≡ l.fn.out.tokens ++ tokens_of (array (line_items (pieces l.lengths l.fn.text))))
    × (l.out.before ≡ l.fn.out.before) × (sum (drop l.count-index l.lengths) ≡ length l.rest)
