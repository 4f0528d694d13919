-- What an evaluation works on, with its syntax at other places.
use Rattle.std.specs.Prelude.{map, option_map}
use Rattle.site_base.specs.declared.place.Place.{Place}
use Rattle.dsl_value.specs.PlainStores.{Closure, PlainStore}
use Rattle.eval_meaning.specs.Registered.{PlainTemplate, PlainItem, PlacedName, PlainRule, PlainFile}
use Rattle.eval_meaning.specs.Views.{View}
use Rattle.eval_meaning.specs.States.{Loading, Task, load, item, rule, State}
use Rattle.eval_meaning.specs.Load.{Loaded}
use Rattle.place_laws.specs.MovedSyntax.{moved_function, moved_loop, moved_statements}

-- what a function captured has no place
abbrev pub moved_closure : (Place → Place) → Closure → Closure
moved_closure move f = record { func = moved_function move f.func; captured = f.captured }

abbrev pub moved_store : (Place → Place) → PlainStore → PlainStore
moved_store move s = record s { functions = map (moved_closure move) s.functions }

-- ---- what a load registers

abbrev pub moved_template : (Place → Place) → PlainTemplate → PlainTemplate
moved_template move t = record t { place = move t.place; body = moved_statements move t.body }

abbrev pub moved_item : (Place → Place) → PlainItem → PlainItem
moved_item move i = record i { place = move i.place; body = moved_statements move i.body }

abbrev pub moved_name : (Place → Place) → PlacedName → PlacedName
moved_name move n = record n { place = move n.place }

abbrev pub moved_rule : (Place → Place) → PlainRule → PlainRule
moved_rule move r = record r { name = option_map (moved_name move) r.name; place = move r.place; loop = option_map (moved_loop move) r.loop; body = moved_statements move r.body }

abbrev pub moved_file : (Place → Place) → PlainFile → PlainFile
moved_file move f = record f { statements = moved_statements move f.statements }

-- ---- views and states

abbrev pub moved_view : (Place → Place) → View → View
moved_view move view = record view {
  store = moved_store move view.store;
  templates = map (moved_template move) view.templates;
  rules = map (moved_rule move) view.rules;
  files = map (moved_file move) view.files;
}

abbrev pub moved_loading : (Place → Place) → Loading → Loading
moved_loading move m = record m {
  templates = map (moved_template move) m.templates;
  items = map (moved_item move) m.items;
  rules = map (moved_rule move) m.rules;
}

abbrev pub moved_task : (Place → Place) → Task → Task
moved_task move (load m) = load (moved_loading move m)
moved_task move (item kind bound) = item kind bound
moved_task move rule = rule

abbrev pub moved_state : (Place → Place) → State → State
moved_state move s = record s { functions = map (moved_closure move) s.functions; task = moved_task move s.task }

-- what a load gives
abbrev pub moved_loaded : (Place → Place) → Loaded → Loaded
moved_loaded move d = record {
  store = moved_store move d.store;
  templates = map (moved_template move) d.templates;
  items = map (moved_item move) d.items;
  rules = map (moved_rule move) d.rules;
}
