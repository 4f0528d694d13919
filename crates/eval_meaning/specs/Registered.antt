-- What a load registers: templates, objects that are to be made, and rules that make objects.
use Rattle.std.specs.Prelude.{ℕ, List, Bool, Option}
use Rattle.site_base.specs.Data.{Data}
use Rattle.site_base.specs.declared.item_no.ItemNo.{ItemNo}
use Rattle.site_base.specs.declared.place.Place.{Place}
use Rattle.dsl_syntax.specs.Syntax.{Statements, Loop}
use Rattle.dsl_value.specs.Pairs.{Pairs}

-- a template, with what it captured
pub record PlainTemplate : Type 0 where
  pub kind : List ℕ
  pub name : List ℕ
  pub place : Place
  pub captured : Pairs
  pub body : Statements

-- An object that is to be made. The attributes in `presets` are there before its body is run, and those in `names` are locals of the body.
-- One of an `object` statement has its name as its one preset.
pub record PlainItem : Type 0 where
  pub number : ItemNo
  pub kind : List ℕ
  pub name : List ℕ
  pub place : Place
  pub presets : List (List ℕ × Data)
  pub names : List (List ℕ × Data)
  pub captured : Pairs
  pub body : Statements
  pub builtin : Bool

-- a name, and where its expression stands
pub record PlacedName : Type 0 where
  pub name : List ℕ
  pub place : Place

-- a rule that makes objects of a type for the objects of another
pub record PlainRule : Type 0 where
  pub number : ItemNo
  pub kind : List ℕ
  pub name : Option PlacedName
  pub place : Place
  pub target : List ℕ
  pub loop : Option Loop
  pub captured : Pairs
  pub body : Statements

-- a file of the site: its name, whether it is a part of the library, and its statements
pub record PlainFile : Type 0 where
  pub name : List ℕ
  pub builtin : Bool
  pub statements : Statements
