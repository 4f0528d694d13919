-- A run can be made of the site of a commit.
use Rattle.std.proofs.Common.{ℕ, List}
use Rattle.eval_meaning.specs.Load.{Loaded}
use Rattle.commit_meaning.specs.Commits.{committed}
use Rattle.typed_site.specs.TypedSite.{PlainSettings, typed_site}
use Rattle.load_laws.specs.GoodNames.{HasGoodNames}
use Rattle.audit_laws.specs.Commits.{MakesRuns}
use Rattle.audit_laws.proofs.Attempts.{attempts_few}
use Rattle.audit_laws.proofs.SiteNames.{commit_well_named}

pub commit_makes_runs : (load : Loaded) (files : List (List ℕ)) (settings : PlainSettings) → HasGoodNames load → MakesRuns load files settings
unfolding typed_site
commit_makes_runs load files settings good = λ sound free few texts. record {
  sound = sound;
  names = commit_well_named load files settings good sound texts.names.checkables;
  texts = texts.names;
  free = free;
  few = few;
  attempts = attempts_few (committed load);
  commands = texts.commands;
}
