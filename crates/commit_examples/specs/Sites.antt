-- Small sites as they are loaded.
use Rattle.std.specs.Prelude.{ℕ, List, [], ◌∷◌, map, codes, Some}
use Rattle.site_base.specs.Data as tree
use Rattle.site_base.specs.Data.{Pairs, no_pairs, pair}
use Rattle.dsl_syntax.specs.Syntax.{dictionary, more_entries, no_entries, StatementKind}
use Rattle.eval_meaning.specs.Registered.{PlainItem}
use Rattle.eval_meaning.specs.Views.{Shown}
use Rattle.eval_meaning.specs.Load.{Loaded}
use Rattle.commit_meaning.specs.Worlds.{shown_as}
use Rattle.commit_meaning.specs.Commits.{Committed, commit}
use Rattle.commit_examples.specs.Parts.{of, text, named, block, sets, sets_var}
use Rattle.commit_examples.specs.Objects.{item_of, load_of}
use Rattle.commit_examples.specs.Rules.{over_disks, services}
use Rattle.commit_examples.specs.Items.{command, command_attributes}

-- what is committed, without any check of all objects together
abbrev pub listing_of : Loaded → Committed (List Shown)
listing_of load = commit (λ os. []) (λ os. map shown_as os) load

abbrev pub row : List ℕ → List ℕ → Pairs → Shown
row kind name ps = record { kind = kind; name = name; tree = tree.dict ps }

abbrev pub command_row : Shown
command_row = row (codes "CheckCommand") (codes "c") command_attributes

-- `check_command = "c"`
abbrev pub checked : StatementKind
checked = sets (codes "check_command") (text (codes "c"))

abbrev pub host_item : ℕ → List ℕ → PlainItem
host_item k n = item_of k (codes "Host") n (block (checked ∷ []))

abbrev pub host_row : List ℕ → Shown
host_row n = row (codes "Host") n (pair (codes "check_command") (tree.string (codes "c")) (pair (codes "name") (tree.string n) no_pairs))

-- two hosts of one name, of which the one that was loaded later stands first in this list, and the command behind them
abbrev pub twice : Loaded
twice = load_of (host_item 3 (codes "a") ∷ host_item 2 (codes "a") ∷ command ∷ []) []

-- a host with `vars.d = { b = "1", a = "2" }`
abbrev pub with_disks : PlainItem
with_disks = item_of 2 (codes "Host") (codes "h") (block (checked ∷ sets_var (codes "d") (of (dictionary (more_entries (codes "b") (text (codes "1")) (more_entries (codes "a") (text (codes "2")) no_entries)))) ∷ []))

-- and a service for each of its disks, with `vars.v = v`
abbrev pub on_disks : Loaded
on_disks = load_of (command ∷ with_disks ∷ []) (services (codes "d-") (Some over_disks) (block (checked ∷ sets_var (codes "v") (named (codes "v")) ∷ [])) ∷ [])

abbrev pub disks_row : Shown
disks_row = row (codes "Host") (codes "h") (pair (codes "check_command") (tree.string (codes "c")) (pair (codes "name") (tree.string (codes "h")) (pair (codes "vars") (tree.dict (pair (codes "d") (tree.dict (pair (codes "a") (tree.string (codes "2")) (pair (codes "b") (tree.string (codes "1")) no_pairs))) no_pairs)) no_pairs)))

abbrev pub disk_row : List ℕ → List ℕ → List ℕ → Shown
disk_row full n v = row (codes "Service") full (pair (codes "check_command") (tree.string (codes "c")) (pair (codes "host_name") (tree.string (codes "h")) (pair (codes "name") (tree.string n) (pair (codes "vars") (tree.dict (pair (codes "v") (tree.string v) no_pairs)) no_pairs))))
