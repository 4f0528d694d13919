-- A commit at other places, and what differs in places alone.
use Rattle.std.proofs.Common.{◌≡◌, ℕ, List, map, sym, ap, ◌∙◌, subst}
use Rattle.site_base.specs.declared.place.Place.{Place}
use Rattle.dsl_value.specs.declared.value.Value.{Value}
use Rattle.eval_meaning.specs.Registered.{PlainItem, PlainRule, PlainFile}
use Rattle.eval_meaning.specs.Views.{View}
use Rattle.eval_meaning.specs.States.{State, gives}
use Rattle.eval_meaning.specs.Load.{Loaded, load_run, loaded}
use Rattle.commit_meaning.specs.Names.{Target}
use Rattle.commit_meaning.specs.Items.{item_answer}
use Rattle.commit_meaning.specs.Rules.{instances}
use Rattle.commit_meaning.specs.Waves.{diags_of}
use Rattle.commit_meaning.specs.Commits.{committed}
use Rattle.place_laws.specs.MovedStates.{moved_item, moved_rule, moved_loaded, moved_view}
use Rattle.place_laws.specs.Alike.{nowhere, in_file, AlikeViews, AlikeFiles, AlikeLoads}
use Rattle.place_laws.proofs.Alike.{loads_alike}
use Rattle.commit_places.specs.MovedAnswers.{moved_object, moved_target}
use Rattle.commit_places.specs.Alike.{AlikeItems, AlikeRules, AlikeTargets, AlikeObjects, AlikeInstances, AlikeCommits}
use Rattle.commit_places.proofs.Items.{item_moved}
use Rattle.commit_places.proofs.Rules.{rule_moved}
use Rattle.commit_places.proofs.Waves.{world_moved, diags_of_moved}

pub committed_moved : (move : Place → Place) (load : Loaded) → committed (moved_loaded move load) ≡ map (moved_object move) (committed load)
committed_moved move load = ap (λ b. b.objects) (world_moved move load 6)

-- ---- what differs in places alone

pub items_alike : (view world : View) → AlikeViews view world → (i j : PlainItem) → AlikeItems i j → AlikeObjects (item_answer view i) (item_answer world j)
items_alike view world same i j h =
    sym (item_moved nowhere view i) ∙ ap (λ v. item_answer v (moved_item nowhere i)) same ∙ ap (item_answer (moved_view nowhere world)) h ∙ item_moved nowhere world j

pub rules_alike : (view world : View) → AlikeViews view world → (r q : PlainRule) → AlikeRules r q → (t u : Target) → AlikeTargets t u → AlikeInstances (instances view r t) (instances world q u)
rules_alike view world same r q h t u k =
    sym (rule_moved nowhere view r t)
    ∙ ap (λ v. instances v (moved_rule nowhere r) (moved_target nowhere t)) same
    ∙ ap (λ x. instances (moved_view nowhere world) x (moved_target nowhere t)) h
    ∙ ap (instances (moved_view nowhere world) (moved_rule nowhere q)) k
    ∙ rule_moved nowhere world q u

commits_of : (load other : Loaded) → moved_loaded in_file load ≡ moved_loaded in_file other → AlikeCommits load other
commits_of load other e = record {
  objects = sym (committed_moved in_file load) ∙ ap committed e ∙ committed_moved in_file other;
  diags = λ w. sym (diags_of_moved in_file load w) ∙ ap (λ x. diags_of x w) e ∙ diags_of_moved in_file other w;
}

pub commits_alike : (files others : List PlainFile) → AlikeFiles files others → (order : List ℕ) (v w : Value) (s t : State) → load_run files order ≡ gives v s → load_run others order ≡ gives w t → AlikeCommits (loaded s) (loaded t)
commits_alike files others same order v w s t h k =
    commits_of (loaded s) (loaded t) (subst (λ y. AlikeLoads (gives v s) y) k (subst (λ x. AlikeLoads x (load_run others order)) h (loads_alike files others same order)))
