-- A tree beside its plain value, level by level.
use Rattle.std.proofs.Common.{◌≡◌, ℕ, List, Vec, Global, rules}
use Rattle.site_base.specs.Data.{string, list, dict}
use Rattle.site_base.specs.View.{view, items_view, pairs_view}
use Rattle.site_base.specs.declared.tree.Tree.{Tree, Null, Str, List as Listed, Dict, the_lemmas}
use Rattle.site_base.specs.declared.tree.Tree as tree

pub view-Str : (t : List ℕ) → view (tree.Str t) ≡ string t
view-Str t = search (rules, the_lemmas)

pub view-List : (v : Vec Tree Global) → view (tree.List v) ≡ list (items_view v.items)
view-List v = search (rules, the_lemmas)

pub view-Dict : (v : Vec (List ℕ × Tree) Global) → view (tree.Dict v) ≡ dict (pairs_view v.items)
view-Dict v = search (rules, the_lemmas)
