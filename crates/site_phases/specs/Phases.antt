-- The last part of a commit: what is wrong with all objects together, phase by phase, or the typed site.
use Rattle.std.specs.Prelude.{◌≡◌, ◌<◌, ◌^◌, ◌-◌, ℕ, Bool, List, [], ◌∷◌, All, length}
use Rattle.site_base.specs.declared.diag.Diag.{Diag}
use Rattle.site_model.specs.PlainSite.{PlainObject, PlainSite, site_view}
use Rattle.site_model.specs.Sound.{IsSound}
use Rattle.conf_check.specs.Duplicates.{duplicate_faults}
use Rattle.conf_check.specs.References.{reference_faults}
use Rattle.commit_meaning.specs.Commits.{Committed, first_told, site, refused, unless_told}
use Rattle.commit_meaning.specs.Orders.{by_number}
use Rattle.commit_meaning.specs.Waves.{diag_number}
use Rattle.depend_graph.specs.Cycles.{IsOnCycle}
use Rattle.typed_site.specs.TypedSite.{typed_site}
use Rattle.site_phases.specs.Constants.{AreBadBytes, PlainGlobals, constant_faults, settings_of}
use Rattle.site_phases.specs.CycleFaults.{cycle_faults, turning}
use Rattle.site_phases.specs.declared.answer.Answer.{Answer}
use Rattle.site_phases.specs.declared.answer.Answer.TheVariants as answer

-- the site of these objects, whatever is wrong with them
abbrev pub site_made : List (List ℕ) → PlainGlobals → List PlainObject → PlainSite
site_made files g os = typed_site files (settings_of g) os

-- what the phases tell, given whether the zone's file is none
abbrev pub phases : List (List ℕ) → PlainGlobals → List PlainObject → Bool → List (List Diag)
phases files g os bad =
    by_number diag_number (duplicate_faults files os)
    ∷ by_number diag_number (reference_faults os)
    ∷ cycle_faults (site_made files g os) (turning (site_made files g os))
    ∷ constant_faults g bad
    ∷ []

-- the diagnostics of the first phase that has any, and else the site
abbrev pub last_part : List (List ℕ) → PlainGlobals → List PlainObject → Bool → Committed PlainSite
last_part files g os bad = unless_told (site_made files g os) (first_told (phases files g os bad))

-- the plain value of an answer
abbrev pub answer_view : Answer → Committed PlainSite
answer_view (answer.Site s) = site (site_view s)
answer_view (answer.Diags files list) = refused list

-- What else is said of an answer.

-- its files are these
abbrev pub FilesStay : List (List ℕ) → Answer → Type 0
FilesStay files (answer.Site s) = s.files ≡ files
FilesStay files (answer.Diags fs list) = fs ≡ files

-- something holds of its site, if it is one
abbrev pub IfSite : Answer → (PlainSite → Type 0) → Type 0
IfSite (answer.Site s) P = P (site_view s)
IfSite (answer.Diags fs list) P = Unit {0}

-- no dependency is on a cycle
abbrev pub IsFree : PlainSite → Type 0
IsFree s = All (λ d. ¬ IsOnCycle s d) s.depends

-- a run may begin with a site
pub record IsReady (s : PlainSite) : Type 0 where
  pub sound : IsSound s
  pub free : IsFree s
  pub few : length s.checkables < 2 ^ 32 - 1
  pub zone : ¬ AreBadBytes s.zone

-- a site that was given for want of faults
pub record IsGiven (given : PlainSite) (faults : List Diag) (s : PlainSite) : Type 0 where
  pub same : s ≡ given
  pub none : faults ≡ []
  pub free : IsFree s
