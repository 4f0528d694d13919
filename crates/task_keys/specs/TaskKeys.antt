-- The keys of tasks: of all that a task comes to but numbers and places.
use Rattle.std.specs.Prelude.{ℕ, List, [], ◌∷◌, ◌++◌, Option, Some, None, option_map}
use Rattle.dsl_syntax.specs.Syntax.{Loop}
use Rattle.site_model.specs.PlainSite.{PlainObject}
use Rattle.eval_meaning.specs.Registered.{PlainItem, PlainRule, PlacedName}
use Rattle.commit_meaning.specs.Names.{Target, host, service}
use Rattle.kept_tasks.specs.Bare.{conditions}
use Rattle.task_keys.specs.Keys.{boolean_key, text_key, maybe_text_key}
use Rattle.task_keys.specs.TreeKeys.{data_key}
use Rattle.task_keys.specs.SyntaxKeys.{loop_key, statements_key}
use Rattle.task_keys.specs.ValueKeys.{pairs_key, trees_key}

abbrev pub item_key : PlainItem → List ℕ
item_key i = text_key i.kind ++ (text_key i.name ++ (trees_key i.presets ++ (trees_key i.names ++ (pairs_key i.captured ++ (statements_key i.body ++ boolean_key i.builtin)))))

abbrev pub text_of : PlacedName → List ℕ
text_of n = n.name

abbrev pub maybe_loop_key : Option Loop → List ℕ
maybe_loop_key None = 0 ∷ []
maybe_loop_key (Some x) = 1 ∷ loop_key x

abbrev pub rule_key : PlainRule → List ℕ
rule_key r = text_key r.kind ++ (maybe_text_key (option_map text_of r.name) ++ (text_key r.target ++ (maybe_loop_key r.loop ++ (pairs_key r.captured ++ statements_key r.body))))

-- of an object its name and its tree
abbrev pub named_key : PlainObject → List ℕ
named_key o = text_key o.name ++ data_key o.tree

abbrev pub target_key : Target → List ℕ
target_key (host h) = 0 ∷ named_key h
target_key (service h s) = 1 ∷ (named_key h ++ named_key s)

abbrev pub member_key : PlainObject → List ℕ
member_key o = text_key o.kind ++ named_key o

abbrev pub group_key : PlainItem → List ℕ
group_key g = text_key g.name ++ (pairs_key g.captured ++ statements_key (conditions g.body))

abbrev pub groups_key : List PlainItem → List ℕ
groups_key [] = 0 ∷ []
groups_key (g ∷ gs) = 1 ∷ (group_key g ++ groups_key gs)
