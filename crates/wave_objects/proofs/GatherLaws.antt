-- What is gathered for a wave is what its items and its rules' answers are.
use Rattle.std.proofs.Common.{◌≡◌, ℕ, List, ◌++◌, map, ap, ◌∙◌}
use Rattle.std.specs.List.{filter, flat_map}
use Rattle.site_model.specs.PlainSite.{object_view}
use Rattle.site_model.specs.declared.object.Object.{Object}
use Rattle.eval_meaning.specs.Load.{Loaded}
use Rattle.eval_meaning.specs.Registered.{PlainItem, PlainRule}
use Rattle.eval_meaning.specs.Views.{View}
use Rattle.commit_meaning.specs.Answers.{all_made, diags_in}
use Rattle.commit_meaning.specs.Orders.{by_number}
use Rattle.commit_meaning.specs.Waves.{is_in_wave, item_number, wave_answers, wave_items}
use Rattle.commit_meaning.specs.Worlds.{world_view}
use Rattle.wave_objects.specs.Applying.{AreApplied, faults_by, made_by, rules_of}
use Rattle.wave_objects.specs.Steps.{answers_at, over}
use Rattle.wave_objects.specs.declared.applying.Applied.{Applied}
use Rattle.wave_objects.proofs.ApplyLaws.{faults_are, made_are}

-- what the rules of a wave come to over a view of its world
answers_are : (load : Loaded) (view : View) (os : List Object) (w : ℕ) → view ≡ world_view load (map object_view os)
    → flat_map (answers_at view os) (filter (λ r. is_in_wave w r.kind) load.rules) ≡ wave_answers load (over os) w
answers_are load view os w e = ap (λ v. flat_map (answers_at v os) (filter (λ (r : PlainRule). is_in_wave w r.kind) load.rules)) e

items_are : (load : Loaded) (view : View) (os : List Object) (w : ℕ) → view ≡ world_view load (map object_view os)
    → by_number item_number (filter (λ i. is_in_wave w i.kind) load.items ++ flat_map all_made (flat_map (answers_at view os) (filter (λ r. is_in_wave w r.kind) load.rules))) ≡ wave_items load (over os) w
unfolding wave_items
items_are load view os w e = ap (λ answers. by_number item_number (filter (λ (i : PlainItem). is_in_wave w i.kind) load.items ++ flat_map all_made answers)) (answers_are load view os w e)

-- from rules that are applied to all objects
module _ (load : Loaded) (view : View) (os : List Object) (w : ℕ) (e : view ≡ world_view load (map object_view os)) where
  abbrev of_wave : List PlainRule → List PlainRule
  of_wave rs = filter (λ r. is_in_wave w r.kind) rs

  pub items_gathered : (is : List PlainItem) (rs : List PlainRule) (ss : List Applied) → is ≡ load.items → rs ≡ load.rules → AreApplied view (map object_view os) ss → rules_of ss ≡ of_wave rs
      → by_number item_number (filter (λ i. is_in_wave w i.kind) is ++ flat_map made_by ss) ≡ wave_items load (over os) w
  items_gathered is rs ss ei er applied rules =
      ap (λ more. by_number item_number (filter (λ (i : PlainItem). is_in_wave w i.kind) is ++ more)) (made_are view os ss (of_wave rs) applied rules)
      ∙ (ap (λ xs. by_number item_number (filter (λ (i : PlainItem). is_in_wave w i.kind) xs ++ flat_map all_made (flat_map (answers_at view os) (of_wave rs)))) ei
      ∙ (ap (λ xs. by_number item_number (filter (λ (i : PlainItem). is_in_wave w i.kind) load.items ++ flat_map all_made (flat_map (answers_at view os) (of_wave xs)))) er
      ∙ items_are load view os w e))

  pub faults_gathered : (rs : List PlainRule) (ss : List Applied) → rs ≡ load.rules → AreApplied view (map object_view os) ss → rules_of ss ≡ of_wave rs
      → flat_map faults_by ss ≡ flat_map diags_in (wave_answers load (over os) w)
  faults_gathered rs ss er applied rules =
      faults_are view os ss (of_wave rs) applied rules
      ∙ (ap (λ xs. flat_map diags_in (flat_map (answers_at view os) (of_wave xs))) er ∙ ap (flat_map diags_in) (answers_are load view os w e))
