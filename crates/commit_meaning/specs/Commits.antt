-- A commit: all waves, and then what is checked of all objects together.
use Rattle.std.specs.Prelude.{ℕ, List, [], ◌∷◌, ◌++◌, map}
use Rattle.site_base.specs.declared.diag.Diag.{Diag}
use Rattle.site_model.specs.PlainSite.{PlainObject}
use Rattle.eval_meaning.specs.Load.{Loaded}
use Rattle.commit_meaning.specs.Waves.{world_after, diags_of}

-- there are six waves
abbrev pub waves : List ℕ
waves = 1 ∷ 2 ∷ 3 ∷ 4 ∷ 5 ∷ 6 ∷ []

-- all objects, in committed order
abbrev pub committed : Loaded → List PlainObject
committed load = (world_after load 6).objects

-- the first of several lists that has any
abbrev pub first_told : List (List Diag) → List Diag
first_told [] = []
first_told ([] ∷ more) = first_told more
first_told ((d ∷ ds) ∷ more) = d ∷ ds

-- what a commit comes to: a site, or what is wrong
pub data Committed (S : Type 0) : Type 0 where
  site : S → Committed S
  refused : List Diag → Committed S

abbrev pub unless_told : {S : Type 0} → S → List Diag → Committed S
unless_told s [] = site s
unless_told s (d ∷ ds) = refused (d ∷ ds)

-- The phases that follow the waves are what is wrong with all objects together, each a list of its own, and the last step makes a site of the
-- objects. The diagnostics of the first wave or phase that has any are the answer, and nothing of a later one shows.
unfoldable pub commit : {S : Type 0} → (List PlainObject → List (List Diag)) → (List PlainObject → S) → Loaded → Committed S
commit phases last load = unless_told (last (committed load)) (first_told (map (diags_of load) waves ++ phases (committed load)))
