-- What a load begins with.
use Rattle.std.proofs.Common.{◌≡◌, ℕ, List, [], ◌∷◌, ◌++◌, map, codes, refl}
use Rattle.dsl_value.specs.Pairs.{Pairs, put, dict_of}
use Rattle.dsl_value.specs.Whole.{NamesAll}
use Rattle.dsl_value.specs.declared.value.Value.{Value}
use Rattle.dsl_value.specs.declared.value.Value.TheVariants as value
use Rattle.eval_meaning.specs.Load.{states_and_kinds, folders, folder_names, own_name, vars_cell, first_globals, first_constants, constant_that}

pub dict_append : (ps qs rs : Pairs) → dict_of (ps ++ qs) rs ≡ dict_of qs (dict_of ps rs)
dict_append [] qs rs = refl
dict_append (p ∷ ps) qs rs = dict_append ps qs (put p.0 p.1 rs)

-- strings name nothing
own_names_named : (cells functions : ℕ) (ns : List (List ℕ)) → NamesAll cells functions (map own_name ns)
own_names_named cells functions [] = tt
own_names_named cells functions (n ∷ ns) = (tt, own_names_named cells functions ns)

pub strings_named : (cells functions : ℕ) → NamesAll cells functions (folders ++ map own_name states_and_kinds)
strings_named cells functions = (tt, (tt, own_names_named cells functions states_and_kinds))

-- `Vars` may be put in last
pub vars_last : put (codes "Vars") (value.Ref vars_cell) (dict_of (folders ++ map own_name states_and_kinds) []) ≡ first_globals
vars_last = refl
