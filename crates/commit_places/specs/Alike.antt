-- What is the same but for places.
use Rattle.std.specs.Prelude.{◌≡◌, ℕ, List, map}
use Rattle.site_model.specs.PlainSite.{PlainObject}
use Rattle.eval_meaning.specs.Registered.{PlainItem, PlainRule}
use Rattle.eval_meaning.specs.Load.{Loaded}
use Rattle.commit_meaning.specs.Answers.{Answer}
use Rattle.commit_meaning.specs.Commits.{committed}
use Rattle.commit_meaning.specs.Names.{Target}
use Rattle.commit_meaning.specs.Waves.{diags_of}
use Rattle.place_laws.specs.MovedStates.{moved_item, moved_rule}
use Rattle.place_laws.specs.Alike.{nowhere, in_file}
use Rattle.commit_places.specs.MovedAnswers.{moved_diag, moved_object, moved_target, moved_answer}

abbrev pub AlikeItems : PlainItem → PlainItem → Type 0
AlikeItems i j = moved_item nowhere i ≡ moved_item nowhere j

abbrev pub AlikeRules : PlainRule → PlainRule → Type 0
AlikeRules r q = moved_rule nowhere r ≡ moved_rule nowhere q

abbrev pub AlikeTargets : Target → Target → Type 0
AlikeTargets t u = moved_target nowhere t ≡ moved_target nowhere u

-- objects of one type, name, number and tree are made of both; or as many diagnostics of the same numbers, kinds and texts are told of
-- both; or both are blocked on one read
abbrev pub AlikeObjects : Answer PlainObject → Answer PlainObject → Type 0
AlikeObjects a b = moved_answer nowhere (moved_object nowhere) a ≡ moved_answer nowhere (moved_object nowhere) b

-- the same of items
abbrev pub AlikeInstances : Answer (List PlainItem) → Answer (List PlainItem) → Type 0
AlikeInstances a b = moved_answer nowhere (map (moved_item nowhere)) a ≡ moved_answer nowhere (map (moved_item nowhere)) b

-- ---- commits

-- loads whose commits have the same objects, and in each wave the same diagnostics, but for lines and columns
pub record AlikeCommits (load other : Loaded) : Type 0 where
  pub objects : map (moved_object in_file) (committed load) ≡ map (moved_object in_file) (committed other)
  pub diags : (w : ℕ) → map (moved_diag in_file) (diags_of load w) ≡ map (moved_diag in_file) (diags_of other w)
