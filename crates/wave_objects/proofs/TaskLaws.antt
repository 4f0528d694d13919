-- Items and objects as tasks, and what is made of their answers.
use Rattle.std.proofs.Common.{◌≡◌, ℕ, List, [], ◌∷◌, ◌++◌, map, All, Bool, true, false, cond, if◌then◌else◌, Vec, Global, refl, sym, ap, ap₂, ◌∙◌, subst}
use Rattle.std.specs.Borrow.{Bor}
use Rattle.std.specs.List.{AllByRecursion, AllZip, filter, flat_map}
use Rattle.std.proofs.lemmas.List.Elements.{All-cons, All-nil}
use Rattle.site_model.specs.PlainSite.{PlainObject, object_view}
use Rattle.site_model.specs.declared.object.Object.{Object}
use Rattle.eval_meaning.specs.Registered.{PlainItem}
use Rattle.eval_meaning.specs.Views.{View}
use Rattle.eval_work.specs.Works.{view_of}
use Rattle.eval_work.specs.declared.view.WorldView.{WorldView}
use Rattle.item_start.specs.Ready.{IsLawfulView}
use Rattle.apply_rules.specs.Keys.{AreKeys}
use Rattle.commit_meaning.specs.Items.{item_answer}
use Rattle.commit_meaning.specs.Waves.{group_made}
use Rattle.wave_order.specs.WaveItems.{AreWaitingIn, plain_pending}
use Rattle.wave_order.specs.declared.pending.Pending.{Pending}
use Rattle.wave_objects.specs.Applying.{AreWithin}
use Rattle.wave_objects.specs.AtTargets.{AreAnswersShared, Placed, answers_of_one, plain_placed}
use Rattle.wave_objects.specs.Captured.{AreNamed}
use Rattle.wave_objects.specs.Steps.{groups_among, groups_by}
use Rattle.wave_objects.specs.Tasks.{AreOfObject, IsItemTask, all_placed}
use Rattle.wave_objects.specs.declared.answering_many.ItemTasks.{ItemTasks}
use Rattle.wave_objects.specs.declared.at_targets.PlacedAnswer.{PlacedAnswer}
use Rattle.wave_objects.specs.declared.by_type.RulesOfType.{RulesOfType}

-- answers that are right one by one are those of all
pub answered : {T A B : Type 0} (p : A → B) (q : T → B) (ts : List T) (xs : List A) → AllZip (λ t x. p x ≡ q t) ts xs → map p xs ≡ map q ts
answered p q [] [] h = refl
answered p q [] (x ∷ xs) h = absurd h
answered p q (t ∷ ts) [] h = absurd h
answered p q (t ∷ ts) (x ∷ xs) h = ap (λ b. b ∷ map p xs) h.0 ∙ ap (λ bs. q t ∷ bs) (answered p q ts xs h.1)

-- what is done to what is lent is done to the items themselves
pub lent : {X B C : Type 0} (f : B → C) (q : X → B) (ts : List (Bor X)) → map (λ t. f (q t.now)) ts ≡ map f (map q (map (λ t. t.now) ts))
lent f q [] = refl
lent f q (t ∷ ts) = ap (λ bs. f (q t.now) ∷ bs) (lent f q ts)

-- items that may be evaluated over a view
pub tasks_fit : (e : ItemTasks) → IsLawfulView e.view → AreKeys e.keys.now → (ts : List (Bor Pending)) → AreNamed e.view.store.now (map plain_pending (map (λ t. t.now) ts)) → AreWaitingIn e.view.store.now (map (λ t. t.now) ts)
    → All (λ t. IsItemTask e t.now) ts
tasks_fit e v k [] n s = All-nil (λ t. IsItemTask e t.now)
tasks_fit e v k (t ∷ ts) n s = All-cons (λ t. IsItemTask e t.now) t ts (record { lawful = v; keys = k; named = n.0; shared = s.0 }) (tasks_fit e v k ts n.1 s.1)

-- what is done to the results of a function
pub flat_mapped : {X Y Z : Type 0} (g : Y → List Z) (f : X → Y) (xs : List X) → flat_map g (map f xs) ≡ flat_map (λ x. g (f x)) xs
flat_mapped g f [] = refl
flat_mapped g f (x ∷ xs) = ap (λ zs. g (f x) ++ zs) (flat_mapped g f xs)

pub by_test : {X : Type 0} (b : Bool) (x : X) (xs : List X) → (if b then x ∷ [] else []) ++ xs ≡ cond b (x ∷ xs) xs
by_test true x xs = refl
by_test false x xs = refl

-- the groups that were made, by answers that are those of the items
pub groups_are : (v : View) (is : List PlainItem) → groups_among (map (item_answer v) is) is ≡ filter (group_made v) is
groups_are v [] = refl
groups_are v (i ∷ is) = ap (λ gs. groups_by i (item_answer v i) ++ gs) (groups_are v is) ∙ by_test (group_made v i) i (filter (group_made v) is)

-- ---- rules at objects

-- what holds for all tasks alike
pub all_fit : {X : Type 0} {P : Type 0} → P → (xs : List X) → All (λ (x : X). P) xs
all_fit {X = X} {P = P} h [] = All-nil (λ (x : X). P)
all_fit {X = X} {P = P} h (x ∷ xs) = All-cons (λ (y : X). P) x xs h (all_fit h xs)

-- what holds of things that are lent holds of the things themselves
pub lent_zip : {X A : Type 0} (R : X → A → Type 0) (ts : List (Bor X)) (xs : List A) → AllZip (λ t x. R t.now x) ts xs → AllZip R (map (λ t. t.now) ts) xs
lent_zip R [] [] h = tt
lent_zip R [] (x ∷ xs) h = absurd h
lent_zip R (t ∷ ts) [] h = absurd h
lent_zip R (t ∷ ts) (x ∷ xs) h = (h.0, lent_zip R ts xs h.1)

module _ (view : WorldView) (objects : List Object) (types : List RulesOfType) where
  abbrev AreOf : List Object → List (Vec PlacedAnswer Global) → Type 0
  AreOf os lists = AllZip (AreOfObject view objects types) os lists

  -- all answers are those at all objects
  pub all_answers : (os : List Object) (lists : List (Vec PlacedAnswer Global)) → AreOf os lists
      → all_placed lists ≡ flat_map (answers_of_one (view_of view) (map object_view objects) types) (map object_view os)
  all_answers [] [] h = refl
  all_answers [] (answers ∷ lists) h = absurd h
  all_answers (o ∷ os) [] h = absurd h
  all_answers (o ∷ os) (answers ∷ lists) h = ap₂ (λ (xs ys : List Placed). xs ++ ys) h.0.answers (all_answers os lists h.1)

  pub all_shared : (os : List Object) (lists : List (Vec PlacedAnswer Global)) → AreOf os lists → AllByRecursion (λ (answers : Vec PlacedAnswer Global). AreAnswersShared view.store.now answers.items) lists
  all_shared [] [] h = tt
  all_shared [] (answers ∷ lists) h = absurd h
  all_shared (o ∷ os) [] h = absurd h
  all_shared (o ∷ os) (answers ∷ lists) h = (h.0.shared, all_shared os lists h.1)

  pub all_within : (n : ℕ) → ((o : PlainObject) → AreWithin n (answers_of_one (view_of view) (map object_view objects) types o)) → (os : List Object) (lists : List (Vec PlacedAnswer Global)) → AreOf os lists
      → AllByRecursion (λ (answers : Vec PlacedAnswer Global). AreWithin n (map plain_placed answers.items)) lists
  all_within n w [] [] h = tt
  all_within n w [] (answers ∷ lists) h = absurd h
  all_within n w (o ∷ os) [] h = absurd h
  all_within n w (o ∷ os) (answers ∷ lists) h = (subst (AreWithin n) (sym h.0.answers) (w (object_view o)), all_within n w os lists h.1)
