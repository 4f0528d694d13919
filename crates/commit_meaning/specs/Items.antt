-- What is made of an item: its object, or what is wrong with it.
use Rattle.std.specs.Prelude.{List, [], ◌∷◌, false}
use Rattle.site_base.specs.Data.{Data}
use Rattle.site_base.specs.declared.diag.Diag.{Diag}
use Rattle.site_model.specs.PlainSite.{PlainObject}
use Rattle.object_types.specs.Checks.{object_faults}
use Rattle.object_types.specs.Names.{type_named}
use Rattle.dsl_value.specs.Pairs.{Pairs, dict_of}
use Rattle.dsl_value.specs.Contents.{dict}
use Rattle.dsl_value.specs.declared.value.Value.{Value}
use Rattle.eval_meaning.specs.Registered.{PlainItem}
use Rattle.eval_meaning.specs.Views.{View}
use Rattle.eval_meaning.specs.States.{State, Outcome, ◌>>=◌, item, with_new}
use Rattle.eval_meaning.specs.Frames.{first_locals, entered}
use Rattle.eval_meaning.specs.Evaluation.{body_of}
use Rattle.eval_meaning.specs.Load.{most_open}
use Rattle.commit_meaning.specs.Answers as answer
use Rattle.commit_meaning.specs.Answers.{Answer, answered}
use Rattle.commit_meaning.specs.Starts.{fresh, values_of, tree_at}
use Rattle.commit_meaning.specs.Names.{full_name_by}

-- ---- the evaluation

-- The frame of a body: what the item captured and then its bound names are locals. Templates that are imported get the same bound values,
-- of which the last of each name counts here too.
abbrev pub in_body : PlainItem → Pairs → Value → State → State
in_body i bound this s = entered this (first_locals i.captured bound) false (record s { task = item i.kind (dict_of bound []) })

-- the body is run, and `this` is the object
abbrev pub body_run : View → PlainItem → Pairs → Value → State → Outcome Data
body_run view i bound this s = body_of view most_open i.body (in_body i bound this s) >>= λ _ s1. tree_at i.place this s1

-- The values of bound names and of presets are made once, and `this` is a new dictionary of the presets.
unfoldable pub item_run : View → PlainItem → Outcome Data
item_run view i =
    values_of i.names [] (fresh view.store (item i.kind []) []) >>= λ bound s. (values_of i.presets [] s >>= λ presets s1. (with_new (dict (dict_of presets [])) s1 >>= λ this s2. body_run view i bound this s2))

-- ---- the object

abbrev pub object_of : PlainItem → Data → PlainObject
object_of i d = record { kind = i.kind; name = full_name_by (type_named i.kind) i.name d; place = i.place; number = i.number; builtin = i.builtin; tree = d }

abbrev pub checked_by : PlainItem → Data → List Diag → Answer PlainObject
checked_by i d [] = answer.made (object_of i d)
checked_by i d (f ∷ fs) = answer.diagnosed (f ∷ fs)

-- the attributes are as the object's type says
abbrev pub checked : PlainItem → Answer Data → Answer PlainObject
checked i (answer.made d) = checked_by i d (object_faults (record { number = i.number; place = i.place }) (type_named i.kind) d)
checked i (answer.diagnosed ds) = answer.diagnosed ds
checked i (answer.blocked r) = answer.blocked r

-- what an item comes to over a view: an object, or the diagnostics of the first of evaluation, tree and check that has any
unfoldable pub item_answer : View → PlainItem → Answer PlainObject
item_answer view i = checked i (answered i.number (item_run view i))
