-- Items whose names objects may have.
use Rattle.std.specs.Prelude.{◌≡◌, true, List}
use Rattle.std.specs.List.{AllByRecursion}
use Rattle.eval_meaning.specs.Load.{Loaded}
use Rattle.eval_meaning.specs.Registered.{PlainItem}
use Rattle.eval_meaning.specs.Registration.{is_good_name}

abbrev pub IsGood : PlainItem → Type 0
IsGood i = is_good_name i.name ≡ true

abbrev pub AreGood : List PlainItem → Type 0
AreGood = AllByRecursion IsGood

-- each item that a load registered has a name that an object may have
abbrev pub HasGoodNames : Loaded → Type 0
HasGoodNames load = AreGood load.items
