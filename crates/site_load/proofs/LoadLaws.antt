-- What the run of the files comes to.
use Rattle.std.proofs.Common.{◌≡◌, ℕ, List, sym, ap, ◌∙◌}
use Rattle.conf_sources.specs.Sources.{Told}
use Rattle.dsl_load.specs.Loads.{plain_parts}
use Rattle.dsl_load.specs.declared.load_parts.LoadParts.{LoadParts}
use Rattle.dsl_value.specs.declared.value.Value.{Value}
use Rattle.eval_meaning.specs.Load.{load_run, loaded}
use Rattle.eval_meaning.specs.Registered.{PlainFile}
use Rattle.eval_meaning.specs.States.{State, gives}
use Rattle.site_load.specs.Loads.{run_outcome, with_zone}
use Rattle.site_load.specs.Zones.{zone_found, zone_name}

module _ (all : Told) (names : List (List ℕ)) (files given : List PlainFile) (order list : List ℕ) (ef : files ≡ given) (eo : order ≡ list) where
  same_run : load_run files order ≡ load_run given list
  same_run = ap (λ fs. load_run fs order) ef ∙ ap (load_run given) eo

  -- a run that ends
  pub run_ends : (p : LoadParts) → ((v : Value) × (s : State) × (load_run files order ≡ gives v s) × (plain_parts p ≡ loaded s))
      → with_zone names (plain_parts p) (zone_found all (zone_name p.store.cells)) ≡ run_outcome all names (load_run given list)
  run_ends p h =
      ap (λ l. with_zone names l (zone_found all (zone_name l.store.cells))) h.3
      ∙ sym (ap (run_outcome all names) (sym same_run ∙ h.2))
