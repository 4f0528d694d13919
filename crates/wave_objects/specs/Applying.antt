-- What the rules of a wave make of all their targets.
use Rattle.std.specs.Prelude.{◌≡◌, ℕ, ◌+◌, ◌<◌, ◌==◌, All, List, [], ◌∷◌, ◌++◌, map, if◌then◌else◌}
use Rattle.std.specs.List.{AllByRecursion, flat_map}
use Rattle.site_base.specs.declared.diag.Diag.{Diag}
use Rattle.site_model.specs.PlainSite.{PlainObject}
use Rattle.dsl_value.specs.Contents.{Contents}
use Rattle.eval_meaning.specs.Registered.{PlainItem, PlainRule}
use Rattle.eval_meaning.specs.Views.{View}
use Rattle.eval_work.specs.Kept.{PairsNamed}
use Rattle.eval_work.specs.Works.{plain_rule}
use Rattle.commit_meaning.specs.Answers.{Answer, all_made, diags_in}
use Rattle.commit_meaning.specs.Names.{Target}
use Rattle.commit_meaning.specs.Rules.{instances}
use Rattle.apply_rules.specs.Plain.{plain_instance}
use Rattle.apply_rules.specs.Sharing.{AreSharedIn}
use Rattle.wave_order.specs.WaveItems.{as_made}
use Rattle.wave_order.specs.declared.pending.Pending.{Pending}
use Rattle.wave_objects.specs.AtTargets.{Placed}
use Rattle.wave_objects.specs.Targets.{targets_in}
use Rattle.wave_objects.specs.declared.applying.Applied.{Applied}

-- ---- rules with what they made

abbrev pub applied_rule : Applied → PlainRule
applied_rule x = plain_rule x.rule.now

abbrev pub made_by : Applied → List PlainItem
made_by x = map plain_instance x.made.items

abbrev pub pending_by : Applied → List Pending
pending_by x = map as_made x.made.items

abbrev pub faults_by : Applied → List Diag
faults_by x = x.faults

abbrev pub rules_of : List Applied → List PlainRule
rules_of xs = map applied_rule xs

-- what each rule captured names cells and functions of a store
abbrev pub AppliedNamed : Contents → List Applied → Type 0
AppliedNamed c xs = AllByRecursion (λ x. PairsNamed c x.rule.now.captured.items) xs

-- what the instances that each rule has made share was made in a store
abbrev pub AppliedShared : Contents → List Applied → Type 0
AppliedShared c xs = All (λ x. AreSharedIn c x.made.items) xs

-- nothing was made, and nothing was wrong
pub record IsNew (x : Applied) : Type 0 where
  pub made : made_by x ≡ []
  pub faults : x.faults ≡ []

abbrev pub AreNew : List Applied → Type 0
AreNew xs = AllByRecursion IsNew xs

-- ---- answers that rules take

-- the answers for a place, in their order
abbrev pub for_place : ℕ → List Placed → List (Answer (List PlainItem))
for_place k [] = []
for_place k (a ∷ answers) = if a.place == k then a.answer ∷ for_place k answers else for_place k answers

-- each answer is for one of so many places
abbrev pub AreWithin : ℕ → List Placed → Type 0
AreWithin n answers = AllByRecursion (λ a. a.place < n) answers

-- a rule with these answers besides
pub record HasTaken (answers : List (Answer (List PlainItem))) (before after : Applied) : Type 0 where
  pub rule : after.rule ≡ before.rule
  pub made : made_by after ≡ made_by before ++ flat_map all_made answers
  pub faults : faults_by after ≡ faults_by before ++ flat_map diags_in answers

-- rules, of which the first has this place, each with the answers for its place besides
abbrev pub HaveTaken : ℕ → List Placed → List Applied → List Applied → Type 0
HaveTaken k answers [] [] = Unit {0}
HaveTaken k answers (x ∷ xs) (y ∷ ys) = HasTaken (for_place k answers) x y × HaveTaken (k + 1) answers xs ys
HaveTaken k answers xs ys = ⊥

-- ---- what rules make of all objects

-- what a rule comes to at these targets
abbrev pub answers_to : View → PlainRule → List Target → List (Answer (List PlainItem))
answers_to view r ts = map (instances view r) ts

-- a rule has what it comes to at all targets of its type that these objects are
pub record IsApplied (view : View) (all : List PlainObject) (x : Applied) : Type 0 where
  pub made : made_by x ≡ flat_map all_made (answers_to view (applied_rule x) (targets_in x.rule.now.target all all))
  pub faults : faults_by x ≡ flat_map diags_in (answers_to view (applied_rule x) (targets_in x.rule.now.target all all))

abbrev pub AreApplied : View → List PlainObject → List Applied → Type 0
AreApplied view all xs = AllByRecursion (IsApplied view all) xs
