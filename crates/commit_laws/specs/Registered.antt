-- What is true of all that a load registers.
use Rattle.std.specs.Prelude.{◌≡◌, ◌≢◌, ◌<◌, ℕ, true, AllPairs}
use Rattle.std.specs.List.{AllByRecursion}
use Rattle.site_base.specs.declared.item_no.ItemNo.{ItemNo}
use Rattle.eval_meaning.specs.Registered.{PlainItem, PlainRule}
use Rattle.eval_meaning.specs.Registration.{is_among, types, target_types}
use Rattle.dsl_value.specs.declared.value.Value.{Value}
use Rattle.eval_meaning.specs.Load.{Loaded, loaded}
use Rattle.eval_meaning.specs.States.{Outcome, gives, faults, blocked}

-- the number of a statement, which has no target and is no element of a `for`
abbrev pub statement_number : ℕ → ItemNo
statement_number n = record { item = n; target = record { item = 0; host = 0; key = 0 }; key = 0 }

-- an item is of one of the types, and has the number of its statement
pub record IsRegisteredItem (i : PlainItem) : Type 0 where
  pub known : is_among i.kind types ≡ true
  pub number : i.number ≡ statement_number i.number.item

-- a rule is of one of the types, and goes to a type to which rules of its own type go
pub record IsRegisteredRule (r : PlainRule) : Type 0 where
  pub known : is_among r.kind types ≡ true
  pub target : is_among r.target (target_types r.kind) ≡ true

-- All of it together. Items and rules are numbered as they are registered, and no item has the number of a rule.
pub record IsRegistered (load : Loaded) : Type 0 where
  pub items : AllByRecursion IsRegisteredItem load.items
  pub rules : AllByRecursion IsRegisteredRule load.rules
  pub items_rise : AllPairs (λ i j. i.number.item < j.number.item) load.items
  pub rules_rise : AllPairs (λ r q. r.number.item < q.number.item) load.rules
  pub apart : AllByRecursion (λ i. AllByRecursion (λ r. i.number.item ≢ r.number.item) load.rules) load.items

-- so is what the run of a load's files gives
abbrev pub GivesRegistered : Outcome Value → Type 0
GivesRegistered (gives v s) = IsRegistered (loaded s)
GivesRegistered (faults l k t rs) = Unit {0}
GivesRegistered (blocked r rs) = Unit {0}
