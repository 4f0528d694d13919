-- The site that a commit gives: its names, and that a run can be made of it.
use Rattle.std.specs.Prelude.{◌≤◌, ◌^◌, ℕ, List, All, length}
use Rattle.std.specs.List.{AllByRecursion}
use Rattle.std.specs.Str.{IsUtf8}
use Rattle.site_model.specs.PlainSite.{PlainSite, full_names}
use Rattle.site_model.specs.Sound.{IsSound}
use Rattle.typed_site.specs.TypedSite.{PlainSettings, typed_site}
use Rattle.eval_meaning.specs.Load.{Loaded}
use Rattle.commit_meaning.specs.Commits.{committed}
use Rattle.depend_graph.specs.Cycles.{IsOnCycle}
use Rattle.audit_laws.specs.LegalLogs.{CanBeRun, HasTexts}
use Rattle.audit_laws.specs.Names.{IsWellNamed}

abbrev pub site_of : Loaded → List (List ℕ) → PlainSettings → PlainSite
site_of load files settings = typed_site files settings (committed load)

-- the site of all that comes of a load is sound, and its names are texts; then they are also distinct and in their form
abbrev pub NamesWell : Loaded → List (List ℕ) → PlainSettings → Type 0
NamesWell load files settings =
    let s = site_of load files settings in IsSound s → AllByRecursion IsUtf8 (full_names s) → IsWellNamed s

-- a run can be made of it if it is sound, no dependency of it is on a cycle, 32 bits name each checkable, and it has texts
abbrev pub MakesRuns : Loaded → List (List ℕ) → PlainSettings → Type 0
MakesRuns load files settings =
    let s = site_of load files settings in
    IsSound s → All (λ d. IsOnCycle s d → ⊥) s.depends → length s.checkables ≤ 2 ^ 32 → HasTexts s → CanBeRun s
