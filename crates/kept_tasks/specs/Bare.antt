-- What is left of tasks without numbers and places, and which loads agree.
use Rattle.std.specs.Prelude.{◌≡◌, ℕ, List, [], ◌∷◌, map}
use Rattle.site_base.specs.Data.{Data}
use Rattle.site_base.specs.declared.item_no.ItemNo.{ItemNo}
use Rattle.site_model.specs.PlainSite.{PlainObject}
use Rattle.dsl_syntax.specs.Syntax.{Statements, no_statements, more_statements, statement, assign, ignore}
use Rattle.dsl_value.specs.Pairs.{Pairs}
use Rattle.eval_meaning.specs.Load.{Loaded}
use Rattle.eval_meaning.specs.Registered.{PlainItem, PlainRule}
use Rattle.commit_meaning.specs.Names.{Target, host, service}
use Rattle.place_laws.specs.Alike.{nowhere}
use Rattle.place_laws.specs.MovedStates.{moved_item, moved_rule, moved_store, moved_template}
use Rattle.place_laws.specs.MovedSyntax.{moved_statements}

-- The store of both is the same but for the places in its functions, cell by cell in the order in which they were made, and so are the templates.
pub record Agree (load other : Loaded) : Type 0 where
  pub store : moved_store nowhere load.store ≡ moved_store nowhere other.store
  pub templates : map (moved_template nowhere) load.templates ≡ map (moved_template nowhere) other.templates

abbrev pub no_number : ItemNo
no_number = record { item = 0; target = record { item = 0; host = 0; key = 0 }; key = 0 }

abbrev pub bare_item : PlainItem → PlainItem
bare_item i = record (moved_item nowhere i) { number = no_number }

abbrev pub bare_rule : PlainRule → PlainRule
bare_rule r = record (moved_rule nowhere r) { number = no_number }

-- of a target its name and its tree, and those of its host before it
abbrev pub bare_target : Target → List (List ℕ × Data)
bare_target (host h) = (h.name, h.tree) ∷ []
bare_target (service h s) = (h.name, h.tree) ∷ (s.name, s.tree) ∷ []

-- of an object that groups may take, its type, its name and its tree before they took it
pub record Member : Type 0 where
  pub kind : List ℕ
  pub name : List ℕ
  pub tree : Data

abbrev pub bare_member : PlainObject → Member
bare_member o = record { kind = o.kind; name = o.name; tree = o.tree }

-- the `assign` and `ignore` of a body
abbrev pub conditions : Statements → Statements
conditions no_statements = no_statements
conditions (more_statements (statement l (assign e)) xs) = more_statements (statement l (assign e)) (conditions xs)
conditions (more_statements (statement l (ignore e)) xs) = more_statements (statement l (ignore e)) (conditions xs)
conditions (more_statements x xs) = conditions xs

-- of a group its name, what it captured and its conditions
pub record Taker : Type 0 where
  pub name : List ℕ
  pub captured : Pairs
  pub conditions : Statements

abbrev pub bare_group : PlainItem → Taker
bare_group g = record { name = g.name; captured = g.captured; conditions = moved_statements nowhere (conditions g.body) }
