-- Trees beside their plain values.
use Rattle.std.proofs.Common.{◌≡◌, ℕ, ℤ, Bool, List, Vec, Global, rules}
use Rattle.site_base.specs.Data.{null, boolean, number, string, list, dict}
use Rattle.site_base.specs.View.{view, items_view, pairs_view}
use Rattle.site_base.specs.declared.tree.Tree.{Tree, the_lemmas}
use Rattle.site_base.specs.declared.tree.Tree as tree

pub view_null : view tree.Null ≡ null
view_null = search (rules, the_lemmas)

pub view_bool : (b : Bool) → view (tree.Bool b) ≡ boolean b
view_bool b = search (rules, the_lemmas)

pub view_number : (n : ℤ) → view (tree.Number n) ≡ number n
view_number n = search (rules, the_lemmas)

pub view_str : (t : List ℕ) → view (tree.Str t) ≡ string t
view_str t = search (rules, the_lemmas)

pub view_list : (v : Vec Tree Global) → view (tree.List v) ≡ list (items_view v.items)
view_list v = search (rules, the_lemmas)

pub view_dict : (v : Vec (List ℕ × Tree) Global) → view (tree.Dict v) ≡ dict (pairs_view v.items)
view_dict v = search (rules, the_lemmas)
