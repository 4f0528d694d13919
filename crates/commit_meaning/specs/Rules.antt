-- What a rule makes of one target: items, one for each element that is kept.
use Rattle.std.specs.Prelude.{ℕ, ◌+◌, List, [], ◌∷◌, ◌++◌, map, false, Option, Some, None, option_map, if◌then◌else◌}
use Rattle.site_base.specs.Quoted.{quoted}
use Rattle.site_base.specs.declared.place.Place.{Place}
use Rattle.site_base.specs.declared.diag_kind.DiagKind.TheVariants.{BadName}
use Rattle.site_base.specs.declared.item_no.ItemNo.{ItemNo}
use Rattle.dsl_syntax.specs.Syntax.{Loop, loop}
use Rattle.object_types.specs.Names.{type_named}
use Rattle.dsl_value.specs.Pairs.{Pairs}
use Rattle.dsl_value.specs.Contents.{PlainCell, array, dict, cell_at}
use Rattle.dsl_value.specs.declared.value.Value.{Value}
use Rattle.dsl_value.specs.declared.value.Value.TheVariants as value
use Rattle.eval_meaning.specs.Registered.{PlainItem, PlainRule, PlacedName}
use Rattle.eval_meaning.specs.Views.{View}
use Rattle.eval_meaning.specs.States.{State, Outcome, gives, faults, ◌>>=◌, rule}
use Rattle.eval_meaning.specs.Parts.{place_of}
use Rattle.eval_meaning.specs.Members.{or_wrong}
use Rattle.eval_meaning.specs.Frames.{first_locals, entered}
use Rattle.eval_meaning.specs.Registration.{is_good_name, name_preset}
use Rattle.eval_meaning.specs.Evaluation.{value_of}
use Rattle.eval_meaning.specs.Load.{most_open}
use Rattle.commit_meaning.specs.Answers.{Answer, answered}
use Rattle.commit_meaning.specs.Starts.{fresh, Trees, values_of, trees_at}
use Rattle.commit_meaning.specs.Names.{Target, target_number, target_no, target_names, target_presets}
use Rattle.commit_meaning.specs.Conditions.{Verdict, no_verdict, judged, is_kept}

-- ---- what a `for` goes over

-- an element: the key with which its instance's name ends, and what the names of the `for` are bound to
pub record Element : Type 0 where
  pub key : List ℕ
  pub bound : Pairs

-- the elements of an array, which are strings alone
abbrev pub of_strings : List ℕ → List Value → Option (List Element)
of_strings n [] = Some []
of_strings n (value.Str t ∷ vs) = option_map (λ es. record { key = t; bound = (n, value.Str t) ∷ [] } ∷ es) (of_strings n vs)
of_strings n (v ∷ vs) = None

-- the pairs of a dictionary, which stand in the order of their keys
abbrev pub of_pairs : List ℕ → List ℕ → Pairs → List Element
of_pairs k n ps = map (λ p. record { key = p.0; bound = (k, value.Str p.0) ∷ (n, p.1) ∷ [] }) ps

-- one name takes an array, and two take a dictionary
abbrev pub of_cell : List ℕ → Option (List ℕ) → PlainCell → Option (List Element)
of_cell k None (array vs) = of_strings k vs
of_cell k (Some n) (dict ps) = Some (of_pairs k n ps)
of_cell k o c = None

-- null has no element
abbrev pub of_value : List PlainCell → List ℕ → Option (List ℕ) → Value → Option (List Element)
of_value cells k o value.Null = Some []
of_value cells k o (value.Ref c) = of_cell k o (cell_at cells c)
of_value cells k o v = None

-- ---- the evaluation

-- the frame of a rule's expressions: `this` is null, and what the rule captured and then the bound names are locals
abbrev pub in_rule : Pairs → Pairs → State → State
in_rule captured bound s = entered value.Null (first_locals captured bound) false s

-- the elements that the expression of a `for` gives; anything else is a fault at the expression
abbrev pub looped : View → PlainRule → Trees → Loop → State → Outcome (List Element)
looped view r names (loop k o e) s =
    values_of names [] s >>= λ bound s1. (value_of view most_open e (in_rule r.captured bound s1) >>= λ v s2. or_wrong (place_of e) (of_value s2.cells k o v) s2)

-- without a `for` there is one element, without a key, and nothing is evaluated
abbrev pub elements_of : View → PlainRule → Trees → Option Loop → State → Outcome (List Element)
elements_of view r names (Some x) s = looped view r names x s
elements_of view r names None s = gives (record { key = []; bound = [] } ∷ []) s

-- cells and functions as they were before, while steps, space and reads go on
abbrev pub back_at : State → State → State
back_at before s = record before { steps = s.steps; space = s.space; reads = s.reads }

-- ---- the instances

abbrev pub prefix : Option PlacedName → List ℕ
prefix (Some n) = n.name
prefix None = []

abbrev pub name_place : PlainRule → Option PlacedName → Place
name_place r (Some n) = n.place
name_place r None = r.place

-- a bad name stands at the expression of the `for`, without one at the rule's name, and without a name at the rule
abbrev pub place_by : PlainRule → Option Loop → Place
place_by r (Some (loop k o e)) = place_of e
place_by r None = name_place r r.name

-- the item of an element with this number; no rule stands in the library
abbrev pub instance : PlainRule → Target → ℕ → List ℕ → Trees → PlainItem
instance r t k name names = record {
  number = record { item = r.number.item; target = target_no (target_number t); key = k };
  kind = r.kind;
  name = name;
  place = r.place;
  presets = name_preset name ++ target_presets (type_named r.kind) t;
  names = names;
  captured = r.captured;
  body = r.body;
  builtin = false;
}

-- the name of an element that is kept has to be one that an object may have
abbrev pub named_instance : PlainRule → Target → ℕ → List ℕ → Trees → State → Outcome (List PlainItem)
named_instance r t k name names s =
    if is_good_name name then gives (instance r t k name names ∷ []) s else faults (place_by r r.loop) BadName (quoted name) s.reads

abbrev pub unless_dropped : PlainRule → Target → ℕ → Element → Trees → Verdict → State → Outcome (List PlainItem)
unless_dropped r t k e names v s = if is_kept r.body v then named_instance r t k (prefix r.name ++ e.key) names s else gives [] s

-- An element is judged over new copies of all that is bound.
abbrev pub element_judged : View → PlainRule → Target → ℕ → Element → Trees → State → Outcome (List PlainItem)
element_judged view r t k e names s =
    values_of names [] s >>= λ bound s1. (judged view r.body no_verdict (in_rule r.captured bound s1) >>= λ v s2. unless_dropped r t k e names v s2)

-- What a `for` binds goes through its trees before the element is judged.
abbrev pub element_run : View → PlainRule → Target → ℕ → Element → State → Outcome (List PlainItem)
element_run view r t k e s = trees_at r.place e.bound [] s >>= λ own s1. element_judged view r t k e (target_names t ++ own) s1

-- Element after element, with rising numbers, behind the items that are there; each begins in the store that the `for` left.
abbrev pub elements_run : View → PlainRule → Target → State → ℕ → List Element → List PlainItem → State → Outcome (List PlainItem)
elements_run view r t before k [] is s = gives is s
elements_run view r t before k (e ∷ es) is s =
    element_run view r t k e (back_at before s) >>= λ js s1. elements_run view r t before (k + 1) es (is ++ js) s1

-- elements are numbered from 1; the one without a `for` is 0
abbrev pub first_number : Option Loop → ℕ
first_number (Some x) = 1
first_number None = 0

unfoldable pub rule_run : View → PlainRule → Target → Outcome (List PlainItem)
rule_run view r t =
    elements_of view r (target_names t) r.loop (fresh view.store rule []) >>= λ es s. elements_run view r t s (first_number r.loop) es [] s

-- the number of a rule at a target
abbrev pub pair_number : PlainRule → Target → ItemNo
pair_number r t = record { item = r.number.item; target = target_no (target_number t); key = 0 }

-- what a rule comes to at a target over a view: the items that are kept, or its first fault
unfoldable pub instances : View → PlainRule → Target → Answer (List PlainItem)
instances view r t = answered (pair_number r t) (rule_run view r t)
