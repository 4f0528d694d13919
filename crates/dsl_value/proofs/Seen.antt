-- Trees that hold no others, beside their plain values.
use Rattle.std.proofs.Common.{◌≡◌, ℤ, Bool, rules}
use Rattle.site_base.specs.Data.{null, boolean, number}
use Rattle.site_base.specs.View.{view}
use Rattle.site_base.specs.declared.tree.Tree.{the_lemmas}
use Rattle.site_base.specs.declared.tree.Tree as tree

pub view-Null : view tree.Null ≡ null
view-Null = search (rules, the_lemmas)

pub view-Bool : (b : Bool) → view (tree.Bool b) ≡ boolean b
view-Bool b = search (rules, the_lemmas)

pub view-Number : (n : ℤ) → view (tree.Number n) ≡ number n
view-Number n = search (rules, the_lemmas)
