-- Names that are added to a list, and pairs to a dictionary, as the code goes about it.
use Rattle.std.specs.Prelude.{ℕ, suc, List, [], ◌∷◌, Bool, true, false, if◌then◌else◌}
use Rattle.std.specs.Ordering.{is_gt}
use Rattle.site_base.specs.Data.{Items}
use Rattle.site_base.specs.declared.tree.Tree.{Tree}
use Rattle.dsl_value.specs.Pairs.{key_cmp}
use Rattle.commit_meaning.specs.Groups.{has_string, with_last}

-- a list with one more name, if it isn't there yet
abbrev pub with_name : List ℕ → Items → Items
with_name n ds = if has_string n ds then ds else with_last n ds

-- a list with more names
abbrev pub with_names : List (List ℕ) → Items → Items
with_names [] ds = ds
with_names (n ∷ ns) ds = with_names ns (with_name n ds)

-- whether one of these names isn't in a list
abbrev pub any_missing : List (List ℕ) → Items → Bool
any_missing [] ds = false
any_missing (n ∷ ns) ds = if has_string n ds then any_missing ns ds else true

-- how many pairs stand before a key, up to the first that doesn't
abbrev pub gap_for : List ℕ → List (List ℕ × Tree) → ℕ
gap_for k [] = 0
gap_for k (p ∷ ps) = if is_gt (key_cmp k p.0) then suc (gap_for k ps) else 0
