-- What a load registers: constants, objects, templates and rules.
use Rattle.std.specs.Prelude.{ℕ, ◌+◌, ◌==◌, List, [], ◌∷◌, ◌++◌, length, codes, slice_get, nat_lt, Bool, true, false, not, ◌||◌, ◌&&◌, Option, Some, None, if◌then◌else◌}
use Rattle.std.specs.Fmt.{decimal}
use Rattle.std.specs.List.{list_any}
use Rattle.std.specs.Str.{bytes_eq}
use Rattle.site_base.specs.Data as tree
use Rattle.site_base.specs.Data.{Data}
use Rattle.site_base.specs.Quoted.{quoted}
use Rattle.site_base.specs.declared.item_no.ItemNo.{ItemNo}
use Rattle.site_base.specs.declared.place.Place.{Place}
use Rattle.site_base.specs.declared.diag_kind.DiagKind.TheVariants.{NotHere, ConstSet, BadName, UnknownType, BadTarget, NoAssign, Duplicate}
use Rattle.dsl_syntax.specs.Syntax.{Expression, MaybeExpression, no_expression, some_expression, MaybeLoop, no_loop, some_loop, Loop, Uses, statement, assign, ignore, Statements, no_statements, more_statements}
use Rattle.dsl_value.specs.Pairs.{Pairs, find, put}
use Rattle.dsl_value.specs.declared.value.Value.{Value}
use Rattle.dsl_value.specs.declared.value.Value.TheVariants as value
use Rattle.eval_meaning.specs.Registered.{PlainTemplate, PlainFile, PlacedName}
use Rattle.eval_meaning.specs.Views.{View, bang, template_in}
use Rattle.eval_meaning.specs.States.{State, Outcome, gives, faults, ◌>>=◌, done, fault, Task, load, Loading, globals_cell}
use Rattle.eval_meaning.specs.Parts.{Parts, place_of}
use Rattle.eval_meaning.specs.Targets.{put_member}
use Rattle.eval_meaning.specs.Functions.{captured_with}
use Rattle.eval_meaning.specs.declared.flow.Flow.{Flow}
use Rattle.eval_meaning.specs.declared.flow.Flow.TheVariants.{On}

-- ---- the load

-- what a load has come to; nothing, where the task is no load
abbrev pub no_loading : Loading
no_loading = record { order = []; constants = []; templates = []; items = []; rules = [] }

abbrev pub loading_of : Task → Loading
loading_of (load m) = m
loading_of t = no_loading

abbrev pub loading : State → Loading
loading s = loading_of s.task

-- what a load has come to is changed; there is nothing to change in another task
abbrev pub changed : (Loading → Loading) → Task → Task
changed f (load m) = load (f m)
changed f t = t

abbrev pub with_loading : (Loading → Loading) → State → State
with_loading f s = record s { task = changed f s.task }

-- Outside a load some statements have no place, which is looked at before anything in them is evaluated.
abbrev pub is_load : Task → Bool
is_load (load m) = true
is_load t = false

abbrev pub at_load : Place → State → Outcome (Unit {0})
at_load l s = if is_load s.task then done s else fault l NotHere s

abbrev pub is_among : List ℕ → List (List ℕ) → Bool
is_among n ns = list_any (bytes_eq n) ns

-- ---- constants

-- a constant is there that can't be replaced
abbrev pub is_fixed : Option Value → Bool
is_fixed (Some (value.Bool false)) = true
is_fixed o = false

-- a constant more, or one that was replaced
abbrev pub with_constant : List ℕ → Loading → Loading
with_constant n m = record m { constants = put n (value.Bool false) m.constants }

-- a constant is set once, and one that can be replaced once more; it is a pair of the globals
abbrev pub constant_set : Place → List ℕ → Value → State → Outcome Flow
constant_set l n v s =
    if is_fixed (find n (loading s).constants) then fault l ConstSet s
    else (put_member l (value.Ref globals_cell) (value.Str n) v s >>= λ _ s1. gives On (with_loading (with_constant n) s1))

abbrev pub const_with : Parts → Place → List ℕ → Expression → State → Outcome Flow
const_with ev l n e s = at_load l s >>= λ _ s1. (ev.value e s1 >>= λ v s2. constant_set l n v s2)

-- ---- types

abbrev pub types : List (List ℕ)
types =
    codes "Host" ∷ codes "Service" ∷ codes "HostGroup" ∷ codes "ServiceGroup" ∷ codes "UserGroup" ∷ codes "CheckCommand" ∷ codes "NotificationCommand"
    ∷ codes "EventCommand" ∷ codes "User" ∷ codes "Notification" ∷ codes "Dependency" ∷ codes "ScheduledDowntime" ∷ codes "TimePeriod" ∷ codes "Endpoint"
    ∷ codes "Zone" ∷ codes "CheckerComponent" ∷ codes "NotificationComponent" ∷ codes "FileLogger" ∷ codes "SyslogLogger" ∷ codes "ApiListener"
    ∷ codes "ApiUser" ∷ codes "IcingaApplication" ∷ []

-- the bodies of these types' objects have a place for `assign` and `ignore`
abbrev pub groups : List (List ℕ)
groups = codes "HostGroup" ∷ codes "ServiceGroup" ∷ codes "UserGroup" ∷ []

-- rules of these types go to hosts or services, as they say; a rule of services goes to hosts
abbrev pub of_both_targets : List (List ℕ)
of_both_targets = codes "Notification" ∷ codes "Dependency" ∷ codes "ScheduledDowntime" ∷ []

abbrev pub both_targets : List (List ℕ)
both_targets = codes "Host" ∷ codes "Service" ∷ []

abbrev pub target_types : List ℕ → List (List ℕ)
target_types kind =
    if bytes_eq kind (codes "Service") then codes "Host" ∷ []
    else if is_among kind of_both_targets then both_targets
    else []

-- ---- names

-- a byte that stands in no object's name
abbrev pub is_barred : ℕ → Bool
is_barred b = nat_lt b 32 || (b == bang)

abbrev pub is_good_name : List ℕ → Bool
is_good_name n = not (length n == 0) && not (list_any is_barred n)

abbrev pub name_by : Place → Value → State → Outcome (List ℕ)
name_by l (value.Str n) s = if is_good_name n then gives n s else faults l BadName (quoted n) s.reads
name_by l v s = fault l BadName s

-- the name of an object or a template; faults stand at its expression
abbrev pub name_with : Parts → Expression → State → Outcome (List ℕ)
name_with ev e s = ev.value e s >>= λ v s1. name_by (place_of e) v s1

abbrev pub prefix_by : Place → Value → State → Outcome (Option PlacedName)
prefix_by l (value.Str n) s = gives (Some (record { name = n; place = l })) s
prefix_by l v s = fault l BadName s

-- the name of a rule is any string, or there is none
abbrev pub prefix_with : Parts → MaybeExpression → State → Outcome (Option PlacedName)
prefix_with ev no_expression s = gives None s
prefix_with ev (some_expression e) s = ev.value e s >>= λ v s1. prefix_by (place_of e) v s1

-- ---- objects and templates

-- the first `assign` or `ignore` of a body
abbrev pub condition_in : Statements → Option Place
condition_in no_statements = None
condition_in (more_statements (statement l (assign e)) ss) = Some l
condition_in (more_statements (statement l (ignore e)) ss) = Some l
condition_in (more_statements x ss) = condition_in ss

abbrev pub unless_condition : Option Place → State → Outcome (Unit {0})
unless_condition (Some l) s = fault l NotHere s
unless_condition None s = gives tt s

-- the type is one, and conditions stand only if its objects take them
unfoldable pub lawful : Place → List ℕ → Statements → State → Outcome (Unit {0})
lawful l kind b s =
    if not (is_among kind types) then faults l UnknownType (quoted kind) s.reads
    else (if is_among kind groups then gives tt s else unless_condition (condition_in b) s)

-- items and rules are numbered together, from 1
abbrev pub next_number : Loading → ItemNo
next_number m = record { item = 1 + (length m.items + length m.rules); target = record { item = 0; host = 0; key = 0 }; key = 0 }

-- what the files of a load say of the one with an index
abbrev pub name_of_file : Option PlainFile → List ℕ
name_of_file (Some f) = f.name
name_of_file None = []

abbrev pub is_of_library : Option PlainFile → Bool
is_of_library (Some f) = f.builtin
is_of_library None = false

abbrev pub file_of : View → Place → Option PlainFile
file_of view l = slice_get view.files l.file

-- every object has its name before its body is run
abbrev pub name_preset : List ℕ → List (List ℕ × Data)
name_preset n = (codes "name", tree.string n) ∷ []

abbrev pub with_item : View → Place → List ℕ → List ℕ → Pairs → Statements → Loading → Loading
with_item view l kind n captured b m =
    record m { items = m.items ++ record { number = next_number m; kind = kind; name = n; place = l; presets = name_preset n; names = []; captured = captured; body = b; builtin = is_of_library (file_of view l) } ∷ [] }

-- the type and the conditions are looked at, and then the object is registered
abbrev pub item_registered : View → Place → List ℕ → List ℕ → Pairs → Statements → State → Outcome Flow
item_registered view l kind n captured b s = lawful l kind b s >>= λ _ s1. gives On (with_loading (with_item view l kind n captured b) s1)

-- the name, then the `use` list, and then the rest
abbrev pub object_with : View → Parts → Place → List ℕ → Expression → Uses → Statements → State → Outcome Flow
object_with view ev l kind e us b s =
    at_load l s >>= λ _ s1. (name_with ev e s1 >>= λ n s2. (captured_with ev l us [] s2 >>= λ ps s3. item_registered view l kind n ps b s3))

abbrev pub colon : ℕ
colon = 58

abbrev pub blank : ℕ
blank = 32

-- a place as it is printed
abbrev pub place_text : View → Place → List ℕ
place_text view l = name_of_file (file_of view l) ++ (colon ∷ decimal l.line ++ (colon ∷ decimal l.col))

-- type, name and place of a template that is there already
abbrev pub first_one : View → PlainTemplate → List ℕ
first_one view t = t.kind ++ (blank ∷ quoted t.name ++ (blank ∷ place_text view t.place))

abbrev pub with_template : Place → List ℕ → List ℕ → Pairs → Statements → Loading → Loading
with_template l kind n captured b m = record m { templates = m.templates ++ record { kind = kind; name = n; place = l; captured = captured; body = b } ∷ [] }

-- a second template of a type and a name is a fault
abbrev pub template_by : View → Place → List ℕ → List ℕ → Pairs → Statements → Option PlainTemplate → State → Outcome Flow
template_by view l kind n ps b (Some t) s = faults l Duplicate (first_one view t) s.reads
template_by view l kind n ps b None s = gives On (with_loading (with_template l kind n ps b) s)

abbrev pub template_registered : View → Place → List ℕ → List ℕ → Pairs → Statements → State → Outcome Flow
template_registered view l kind n captured b s = lawful l kind b s >>= λ _ s1. template_by view l kind n captured b (template_in kind n (loading s1).templates) s1

abbrev pub template_with : View → Parts → Place → List ℕ → Expression → Uses → Statements → State → Outcome Flow
template_with view ev l kind e us b s =
    at_load l s >>= λ _ s1. (name_with ev e s1 >>= λ n s2. (captured_with ev l us [] s2 >>= λ ps s3. template_registered view l kind n ps b s3))

-- ---- rules

-- a rule of services goes to hosts where it doesn't say so
abbrev pub resolved_target : List ℕ → Option (List ℕ) → List ℕ
resolved_target kind (Some to) = to
resolved_target kind None = if bytes_eq kind (codes "Service") then codes "Host" else []

-- what a fault of the target names: the target, and the type of a rule without one
abbrev pub told_target : List ℕ → Option (List ℕ) → List ℕ
told_target kind (Some to) = to
told_target kind None = kind

-- some `assign` stands in a body
abbrev pub has_assign : Statements → Bool
has_assign no_statements = false
has_assign (more_statements (statement l (assign e)) ss) = true
has_assign (more_statements x ss) = has_assign ss

abbrev pub loop_of : MaybeLoop → Option Loop
loop_of no_loop = None
loop_of (some_loop x) = Some x

abbrev pub has_loop : MaybeLoop → Bool
has_loop no_loop = false
has_loop (some_loop x) = true

-- the type is one, its rules go to the target, and there is an `assign` or a loop
unfoldable pub lawful_rule : Place → List ℕ → Option (List ℕ) → MaybeLoop → Statements → State → Outcome (Unit {0})
lawful_rule l kind to each b s =
    if not (is_among kind types) then faults l UnknownType (quoted kind) s.reads
    else if not (is_among (resolved_target kind to) (target_types kind)) then faults l BadTarget (quoted (told_target kind to)) s.reads
    else if has_assign b || has_loop each then gives tt s
    else fault l NoAssign s

abbrev pub with_rule : Place → List ℕ → Option PlacedName → Option (List ℕ) → MaybeLoop → Pairs → Statements → Loading → Loading
with_rule l kind n to each captured b m =
    record m { rules = m.rules ++ record { number = next_number m; kind = kind; name = n; place = l; target = resolved_target kind to; loop = loop_of each; captured = captured; body = b } ∷ [] }

abbrev pub rule_registered : Place → List ℕ → Option PlacedName → Option (List ℕ) → MaybeLoop → Pairs → Statements → State → Outcome Flow
rule_registered l kind n to each captured b s = lawful_rule l kind to each b s >>= λ _ s1. gives On (with_loading (with_rule l kind n to each captured b) s1)

abbrev pub apply_rule_with : Parts → Place → List ℕ → MaybeExpression → Option (List ℕ) → MaybeLoop → Uses → Statements → State → Outcome Flow
apply_rule_with ev l kind e to each us b s =
    at_load l s >>= λ _ s1. (prefix_with ev e s1 >>= λ n s2. (captured_with ev l us [] s2 >>= λ ps s3. rule_registered l kind n to each ps b s3))
