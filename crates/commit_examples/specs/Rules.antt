-- Rules, and the items that they make.
use Rattle.std.specs.Prelude.{ℕ, List, [], ◌∷◌, codes, true, false, Option, Some, None}
use Rattle.site_base.specs.Data as tree
use Rattle.site_base.specs.Data.{Pairs, no_pairs, pair}
use Rattle.site_base.specs.declared.item_no.ItemNo.{ItemNo}
use Rattle.site_model.specs.PlainSite.{PlainObject}
use Rattle.dsl_syntax.specs.Syntax.{Loop, loop, Statements, assign, ignore, array, boolean, more_expressions, no_expressions}
use Rattle.eval_meaning.specs.Registered.{PlainItem, PlainRule}
use Rattle.commit_meaning.specs.Starts.{Trees}
use Rattle.commit_examples.specs.Parts.{at, in_line, of, text, named, part, calls, two, same, different, host_name, block, always}
use Rattle.commit_examples.specs.Objects.{number, host_named, host_with}

-- a rule with the name on line 2, the rule itself on line 1
abbrev pub rule_of : List ℕ → List ℕ → List ℕ → Option Loop → Statements → PlainRule
rule_of kind target n o b = record { number = number 9; kind = kind; name = Some (record { name = n; place = in_line 2 }); place = at; target = target; loop = o; captured = []; body = b }

abbrev pub services : List ℕ → Option Loop → Statements → PlainRule
services n o b = rule_of (codes "Service") (codes "Host") n o b

-- an item of such a rule at a host with the number 2
abbrev pub service_item : ItemNo → List ℕ → List ℕ → Trees → Statements → PlainItem
service_item k host n names b = record {
  number = k;
  kind = codes "Service";
  name = n;
  place = at;
  presets = (codes "name", tree.string n) ∷ (codes "host_name", tree.string host) ∷ [];
  names = names;
  captured = [];
  body = b;
  builtin = false;
}

-- all hosts but the one that is called a
abbrev pub all_but_a : Statements
all_but_a = block (always ∷ ignore (same host_name (text (codes "a"))) ∷ [])

abbrev pub a : PlainObject
a = host_named 1 (codes "a")

abbrev pub b : PlainObject
b = host_named 2 (codes "b")

-- no `assign` is true, and then comes an `ignore` with a name that nothing defines
abbrev pub never_then_faulty : Statements
never_then_faulty = block (assign (of (boolean false)) ∷ ignore (named (codes "x")) ∷ [])

-- `assign where service.vars.x != ""`
abbrev pub with_x : Statements
with_x = block (assign (different (part (part (named (codes "service")) (codes "vars")) (codes "x")) (text [])) ∷ [])

-- a rule for notifications of services
abbrev pub notifications : Statements → PlainRule
notifications b = rule_of (codes "Notification") (codes "Service") (codes "m") None b

-- `vars.d = { b = "1", a = "2" }`
abbrev pub disks : Pairs
disks = pair (codes "vars") (tree.dict (pair (codes "d") (tree.dict (pair (codes "a") (tree.string (codes "2")) (pair (codes "b") (tree.string (codes "1")) no_pairs))) no_pairs)) no_pairs

abbrev pub h : PlainObject
h = host_with 2 (codes "h") disks

-- `for (k => v in host.vars.d)`
abbrev pub over_disks : Loop
over_disks = loop (codes "k") (Some (codes "v")) (part (part (named (codes "host")) (codes "vars")) (codes "d"))

-- the same with one name
abbrev pub with_one_name : Loop
with_one_name = loop (codes "k") None (part (part (named (codes "host")) (codes "vars")) (codes "d"))

-- `for (k in [ "x", true ])`
abbrev pub over_mixed : Loop
over_mixed = loop (codes "k") None (of (array (more_expressions (text (codes "x")) (more_expressions (of (boolean true)) no_expressions))))

-- `ignore where k == "a"`
abbrev pub past_a : Statements
past_a = block (ignore (same (named (codes "k")) (text (codes "a"))) ∷ [])

-- `for (k in [ "x", "y" ])`
abbrev pub over_two : Loop
over_two = loop (codes "k") None (of (array (two (text (codes "x")) (text (codes "y")))))

-- `assign where host.contains("new") == false`, and then `ignore where host.set("new", true)`, which puts the key in and gives null
abbrev pub changing_host : Statements
changing_host = block (assign (same (calls (named (codes "host")) (codes "contains") (more_expressions (text (codes "new")) no_expressions)) (of (boolean false))) ∷ ignore (calls (named (codes "host")) (codes "set") (two (text (codes "new")) (of (boolean true)))) ∷ [])

-- what is bound at the host b with a key
abbrev pub bound_at_b : List ℕ → Trees
bound_at_b k = (codes "host", b.tree) ∷ (codes "k", tree.string k) ∷ []

-- what is bound at the host h with a key and a value
abbrev pub bound_at : List ℕ → List ℕ → Trees
bound_at k v = (codes "host", h.tree) ∷ (codes "k", tree.string k) ∷ (codes "v", tree.string v) ∷ []
