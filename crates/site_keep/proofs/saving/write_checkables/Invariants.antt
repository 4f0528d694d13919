-- What stands, with the checkables that are left, is all.
use Rattle.std.proofs.Common.{◌≡◌, ◌++◌, drop}
use Rattle.serde_json.specs.Data.{array}
use Rattle.site_model.specs.PlainSite.{site_view}
use Rattle.site_keep.specs.Shape.{saved_items}
use Rattle.site_keep.specs.Writing.{item_tokens, saved_among, tokens_of}
use Rattle.site_keep.proofs.saving.write_checkables.Given as goal

abbrev pub invariant-loop-i : goal.invariant-loop-i
invariant-loop-i l =
    (l.out.tokens ++ item_tokens (saved_items (saved_among (drop l.i (site_view l.site).checkables) (drop l.i l.lines)))
    ≡ l.fn.out.tokens ++ tokens_of (array (saved_items (saved_among (site_view l.site).checkables l.lines)))) × (l.out.before ≡ l.fn.out.before)
