use Rattle.std.proofs.Common.{◌≡◌, ◌++◌, map, drop, string_bytes}
use Rattle.site_base.specs.View.{view}
use Rattle.commit_meaning.specs.Names.{joined, text_of}
use Rattle.item_body.proofs.full_name.joined_name.Given as goal

abbrev pub invariant-loop-owner : goal.invariant-loop-owner
invariant-loop-owner l = string_bytes l.full ++ joined (map (text_of (view l.tree)) (drop l.owner-index l.owners)) l.name ≡ joined (map (text_of (view l.tree)) l.owners) l.name
