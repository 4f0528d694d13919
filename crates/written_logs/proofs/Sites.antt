-- A run can be made of the site of files.
use Rattle.std.proofs.Common.{◌≡◌, ◌<◌, ◌≤◌, ◌-◌, ◌^◌, ℕ, List, [], ◌∷◌, All, Bool, true, false, length, refl, sym, ap, ◌∙◌, subst, arith, Option, Some, None}
use Rattle.std.specs.Bool.{Decides}
use Rattle.dsl_value.specs.declared.value.Value.{Value}
use Rattle.eval_meaning.specs.Load.{Loaded, load_run, loaded}
use Rattle.eval_meaning.specs.Registered.{PlainFile}
use Rattle.eval_meaning.specs.States.{Outcome, State, gives}
use Rattle.eval_meaning.specs.States as outcome
use Rattle.site_base.specs.declared.diag.Diag.{Diag}
use Rattle.commit_meaning.specs.Commits as commits
use Rattle.commit_meaning.specs.Commits.{Committed, commit, committed, first_told, unless_told, waves}
use Rattle.commit_meaning.specs.Waves.{diags_of}
use Rattle.commit_waves.specs.Globals.{globals_of}
use Rattle.conf_sources.specs.Sources.{Told}
use Rattle.site_conf.specs.Walks.{WalkOutcome, faults, outcome_of, site, walked}
use Rattle.site_load.specs.Configs.{IsBadZone, config_outcome}
use Rattle.site_load.specs.Loads.{LoadOutcome, load_outcome, loads, plain_files, refuses, run_outcome, walk_loads, with_zone}
use Rattle.site_load.specs.Zones.{ZoneFound, missing, there, unnamed, zone_found, zone_name}
use Rattle.site_model.specs.PlainSite.{PlainObject, PlainSite}
use Rattle.site_model.specs.Sound.{IsSound}
use Rattle.site_phases.specs.Constants.{AreBadBytes, PlainGlobals, settings_of}
use Rattle.site_phases.specs.Phases.{IsFree, IsReady, phases, site_made}
use Rattle.typed_site.specs.TypedSite.{typed_site}
use Rattle.load_laws.specs.GoodNames.{HasGoodNames}
use Rattle.audit_laws.specs.LegalLogs.{CanBeRun, HasTexts}
use Rattle.audit_laws.proofs.CommitRuns.{commit_makes_runs}
use Rattle.load_laws.proofs.KeptLoads.{load_is_good}
use Rattle.run_replies.specs.Runs.{Files}
use Rattle.site_program.specs.TaskAnswers.{IsSiteOf}
use Rattle.written_logs.specs.Written.{IsSiteInMemory}

-- ---- what is loaded has good names

abbrev IsWellLoaded : LoadOutcome → Type 0
IsWellLoaded (loads _ load _) = HasGoodNames load
IsWellLoaded (refuses _ _) = Unit {0}

with_zone_well : (names : List (List ℕ)) (load : Loaded) (z : ZoneFound) → HasGoodNames load → IsWellLoaded (with_zone names load z)
with_zone_well names load unnamed h = h
with_zone_well names load (there bytes) h = h
with_zone_well names load (missing name) h = tt

run_well : (all : Told) (names : List (List ℕ)) (files : List PlainFile) (order : List ℕ) (x : Outcome Value) → load_run files order ≡ x → IsWellLoaded (run_outcome all names x)
run_well all names files order (gives v s) e = with_zone_well names (loaded s) (zone_found all (zone_name s.cells)) (load_is_good files order v s e)
run_well all names files order (outcome.faults place kind text reads) e = tt
run_well all names files order (outcome.blocked read reads) e = tt

walk_well : (all : Told) (library : List Bool) (w : WalkOutcome) → IsWellLoaded (walk_loads all library w)
walk_well all library (site names trees order) = run_well all names (plain_files names library trees) order (load_run (plain_files names library trees) order) refl
walk_well all library (faults names list) = tt

load_well : (all : Told) (root : List ℕ) → IsWellLoaded (load_outcome all root)
load_well all root = walk_well all (walked all root).library (outcome_of (walked all root))

-- ---- what is committed

abbrev GivesSite : LoadOutcome → PlainSite → Type 0
GivesSite o s = (bad : Bool) → Decides bad (IsBadZone o) → config_outcome bad o ≡ commits.site s

undecided : {P : Type 0} → (P → ⊥) → Decides false P
undecided never = (λ e. absurd cc, λ p. absurd (never p))

untold : (s t : PlainSite) (ds : List Diag) → unless_told s ds ≡ commits.site t → t ≡ s
untold s t [] e = cc
untold s t (d ∷ ds) e = absurd cc

module _ (names : List (List ℕ)) (load : Loaded) (zone : Option (List ℕ)) (s : PlainSite) where
  abbrev globals : PlainGlobals
  globals = globals_of load.store.cells zone

  made : (bad : Bool) → config_outcome bad (loads names load zone) ≡ commits.site s → s ≡ typed_site names (settings_of globals) (committed load)
  unfolding commit
  made bad e = untold (site_made names globals (committed load)) s _ e

  zone_is : s ≡ typed_site names (settings_of globals) (committed load) → s.zone ≡ (settings_of globals).zone
  unfolding typed_site
  zone_is e = ap (λ (t : PlainSite). t.zone) e

  good_zone : GivesSite (loads names load zone) s → IsReady s → IsBadZone (loads names load zone) → ⊥
  good_zone h ready p = ready.zone (subst AreBadBytes (sym (zone_is (made true (h true (λ e. p, λ q. refl))))) p)

  is_made : GivesSite (loads names load zone) s → IsReady s → s ≡ typed_site names (settings_of globals) (committed load)
  is_made h ready = made false (h false (undecided (good_zone h ready)))

  can_run : HasGoodNames load → GivesSite (loads names load zone) s → IsReady s → HasTexts s → CanBeRun s
  can_run good h ready texts =
      let is = is_made h ready in
      let few = ready.few in
      subst CanBeRun (sym is)
      (commit_makes_runs load names (settings_of globals) good (subst IsSound is ready.sound) (subst IsFree is ready.free) (subst (λ (t : PlainSite). length t.checkables ≤ 2 ^ 32) is (omega (arith, few))) (subst HasTexts is texts))

no_site : {list : List Diag} {s : PlainSite} → commits.refused list ≡ commits.site s → ⊥
no_site e = absurd cc

site_runs : (o : LoadOutcome) (s : PlainSite) → IsWellLoaded o → GivesSite o s → IsReady s → HasTexts s → CanBeRun s
site_runs (loads names load zone) s good h ready texts = can_run names load zone s good h ready texts
site_runs (refuses names list) s good h ready texts = absurd (no_site (h false (undecided (λ p. p))))

pub runs : (all : Files) (root : List ℕ) (s : PlainSite) → IsSiteInMemory all root s → CanBeRun s
runs all root s h = site_runs (load_outcome all root) s (load_well all root) h.is h.ready h.texts

-- ---- its zone is one

zone_good : (o : LoadOutcome) (s : PlainSite) → GivesSite o s → IsReady s → IsBadZone o → ⊥
zone_good (loads names load zone) s h ready p = good_zone names load zone s h ready p
zone_good (refuses names list) s h ready p = p

pub decided : (all : Files) (root : List ℕ) (s : PlainSite) → IsSiteOf all root s → IsReady s → Decides false (IsBadZone (load_outcome all root))
decided all root s is ready = undecided (zone_good (load_outcome all root) s is ready)
