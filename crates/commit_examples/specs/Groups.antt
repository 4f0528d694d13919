-- Groups of hosts.
use Rattle.std.specs.Prelude.{ℕ, List, [], ◌∷◌, codes}
use Rattle.site_base.specs.Data as tree
use Rattle.site_base.specs.Data.{Items, no_items, Pairs, no_pairs, pair}
use Rattle.dsl_syntax.specs.Syntax.{Statements, assign, ignore}
use Rattle.eval_meaning.specs.Registered.{PlainItem}
use Rattle.commit_examples.specs.Parts.{text, named, host_name, same, block, always}
use Rattle.commit_examples.specs.Objects.{item_of}

abbrev pub group_of : ℕ → List ℕ → Statements → PlainItem
group_of k n b = item_of k (codes "HostGroup") n b

-- one that takes each host
abbrev pub all : PlainItem
all = group_of 3 (codes "all") (block (always ∷ []))

-- one that takes none, since it has no `assign`
abbrev pub none : PlainItem
none = group_of 4 (codes "none") (block (ignore (same host_name (text (codes "a"))) ∷ []))

-- one that takes the host a
abbrev pub just_a : PlainItem
just_a = group_of 5 (codes "just a") (block (assign (same host_name (text (codes "a"))) ∷ []))

-- one whose condition is a name that nothing defines
abbrev pub faulty : PlainItem
faulty = group_of 6 (codes "faulty") (block (assign (named (codes "x")) ∷ []))

abbrev pub strings : List (List ℕ) → Items
strings [] = no_items
strings (t ∷ ts) = tree.item (tree.string t) (strings ts)

-- attributes with these groups
abbrev pub in_groups : List (List ℕ) → Pairs
in_groups ns = pair (codes "groups") (tree.list (strings ns)) (pair (codes "name") (tree.string (codes "a")) no_pairs)
