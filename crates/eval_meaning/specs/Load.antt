-- A load, from its start to its end.
use Rattle.std.specs.Prelude.{ℕ, List, [], ◌∷◌, ◌++◌, length, map, codes, Bool, true, false}
use Rattle.dsl_value.specs.Pairs.{Pairs, dict_of}
use Rattle.dsl_value.specs.Contents.{dict}
use Rattle.dsl_value.specs.PlainStores.{PlainStore}
use Rattle.dsl_value.specs.declared.value.Value.{Value}
use Rattle.dsl_value.specs.declared.value.Value.TheVariants as value
use Rattle.eval_meaning.specs.Registered.{PlainTemplate, PlainItem, PlainRule, PlainFile}
use Rattle.eval_meaning.specs.Views.{View}
use Rattle.eval_meaning.specs.States.{State, Outcome, load, Loading, globals_cell}
use Rattle.eval_meaning.specs.Registration.{loading}
use Rattle.eval_meaning.specs.Files.{file_with}
use Rattle.eval_meaning.specs.Evaluation.{evaluated}

-- ---- budgets: steps, units of space, and how many nodes may be open at once

abbrev pub load_steps : ℕ
load_steps = 10000000

abbrev pub load_space : ℕ
load_space = 268435456

abbrev pub item_steps : ℕ
item_steps = 200000

abbrev pub item_space : ℕ
item_space = 16777216

abbrev pub most_open : ℕ
most_open = 300

-- ---- the start

-- these constants are strings of their own names
abbrev pub states_and_kinds : List (List ℕ)
states_and_kinds =
    codes "OK" ∷ codes "Warning" ∷ codes "Critical" ∷ codes "Unknown" ∷ codes "Up" ∷ codes "Down" ∷ codes "Problem" ∷ codes "Recovery"
    ∷ codes "Acknowledgement" ∷ codes "Custom" ∷ codes "DowntimeStart" ∷ codes "DowntimeEnd" ∷ codes "DowntimeRemoved" ∷ codes "FlappingStart"
    ∷ codes "FlappingEnd" ∷ []

abbrev pub folders : Pairs
folders = (codes "ConfigDir", value.Str (codes "/etc/icinga2")) ∷ (codes "LogDir", value.Str (codes "/var/log/icinga2")) ∷ []

-- the names of the folders can be replaced
abbrev pub folder_names : List (List ℕ)
folder_names = codes "ConfigDir" ∷ codes "LogDir" ∷ []

abbrev pub own_name : List ℕ → List ℕ × Value
own_name n = (n, value.Str n)

abbrev pub constant_that : Bool → List ℕ → List ℕ × Value
constant_that can_be_replaced n = (n, value.Bool can_be_replaced)

abbrev pub first_constants : Pairs
first_constants = dict_of (map (constant_that false) states_and_kinds ++ map (constant_that true) folder_names) []

-- `Vars` is a plain global, an empty dictionary in the second cell
abbrev pub vars_cell : ℕ
vars_cell = 1

abbrev pub first_globals : Pairs
first_globals = dict_of ((codes "Vars", value.Ref vars_cell) ∷ folders ++ map own_name states_and_kinds) []

abbrev pub first_loading : List ℕ → Loading
first_loading order = record { order = order; constants = first_constants; templates = []; items = []; rules = [] }

abbrev pub load_start : List ℕ → State
load_start order = record {
  cells = dict first_globals ∷ dict [] ∷ [];
  base = 0;
  functions = [];
  this = value.Ref globals_cell;
  locals = [];
  in_file = true;
  steps = load_steps;
  space = load_space;
  reads = [];
  task = load (first_loading order);
}

-- a load has no objects, and so `get_host` and `get_service` give null: the view shows none, and all of them
abbrev pub load_view : List PlainFile → View
load_view files = record {
  store = record { cells = []; base = 0; functions = [] };
  templates = [];
  rules = [];
  objects = [];
  absent = [];
  whole = codes "Host" ∷ codes "Service" ∷ [];
  files = files;
}

-- ---- the run and the end

-- the files as one evaluation, from the first file of the order on
unfoldable pub load_run : List PlainFile → List ℕ → Outcome Value
load_run files order = file_with (load_view files) (evaluated (load_view files) most_open) order (load_start order)

-- what a load gives: its store, in which all cells are frozen then, and what it registered
pub record Loaded : Type 0 where
  pub store : PlainStore
  pub templates : List PlainTemplate
  pub items : List PlainItem
  pub rules : List PlainRule

-- what a load has come to once all files were run
abbrev pub loaded : State → Loaded
loaded s = record {
  store = record { cells = s.cells; base = length s.cells; functions = s.functions };
  templates = (loading s).templates;
  items = (loading s).items;
  rules = (loading s).rules;
}
