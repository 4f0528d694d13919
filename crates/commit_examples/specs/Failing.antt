-- Sites in whose waves something is wrong.
use Rattle.std.specs.Prelude.{ℕ, List, [], ◌∷◌, codes, None}
use Rattle.site_base.specs.declared.diag.Diag.{Diag}
use Rattle.site_base.specs.declared.diag_kind.DiagKind.TheVariants as kind
use Rattle.site_base.specs.declared.item_no.ItemNo.{ItemNo}
use Rattle.dsl_syntax.specs.Syntax.{StatementKind, assign}
use Rattle.eval_meaning.specs.Registered.{PlainItem}
use Rattle.eval_meaning.specs.Load.{Loaded}
use Rattle.commit_meaning.specs.Answers.{diag}
use Rattle.commit_examples.specs.Parts.{at, named, text, block, sets}
use Rattle.commit_examples.specs.Objects.{item_of, load_of}
use Rattle.commit_examples.specs.Items.{command}
use Rattle.commit_examples.specs.Rules.{never_then_faulty, services}
use Rattle.commit_examples.specs.Sites.{checked, host_item}

-- that nothing defines `x`
abbrev pub undefined : ItemNo → Diag
undefined n = diag n at kind.Undefined (codes "\"x\"")

-- `n = x`
abbrev pub sets_faulty : List ℕ → StatementKind
sets_faulty n = sets n (named (codes "x"))

-- a command of this number and name whose body has a fault
abbrev pub faulty_command : ℕ → List ℕ → PlainItem
faulty_command k n = item_of k (codes "CheckCommand") n (block (sets_faulty (codes "command") ∷ []))

-- a host with a fault stands first, and then a command of the wave before it, and two more commands of one name
abbrev pub two_waves : Loaded
two_waves = load_of (item_of 1 (codes "Host") (codes "a") (block (sets_faulty (codes "check_command") ∷ [])) ∷ faulty_command 3 (codes "d") ∷ faulty_command 2 (codes "c") ∷ command ∷ command ∷ []) []

abbrev pub service_item : ℕ → List ℕ → StatementKind → PlainItem
service_item k n checks = item_of k (codes "Service") n (block (sets (codes "host_name") (text (codes "a")) ∷ checks ∷ []))

-- a rule of number 9 with a fault, a service of number 4 with one, and a service of number 3 at which a group has one
abbrev pub three_faults : Loaded
three_faults =
    load_of (command ∷ host_item 2 (codes "a") ∷ service_item 4 (codes "t") (sets_faulty (codes "check_command")) ∷ service_item 3 (codes "s") checked ∷ item_of 5 (codes "ServiceGroup") (codes "g") (block (assign (named (codes "x")) ∷ [])) ∷ [])
    (services (codes "r") None never_then_faulty ∷ [])
