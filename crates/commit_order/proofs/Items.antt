-- An item comes to the same whatever its number.
use Rattle.std.proofs.Common.{◌≡◌, List, [], ◌∷◌, map, refl, ap, ◌∙◌}
use Rattle.site_base.specs.Data.{Data}
use Rattle.site_base.specs.declared.diag.Diag.{Diag}
use Rattle.object_types.specs.Checks.{object_faults}
use Rattle.object_types.specs.Names.{type_named}
use Rattle.eval_meaning.specs.Registered.{PlainItem}
use Rattle.eval_meaning.specs.Views.{View}
use Rattle.commit_meaning.specs.Answers as answer
use Rattle.commit_meaning.specs.Answers.{Answer, answered}
use Rattle.commit_meaning.specs.Items.{item_run, checked_by, checked, item_answer}
use Rattle.commit_order.specs.Unordered.{unordered_item, unordered_object, unordered_diag, unordered_answer}
use Rattle.commit_order.proofs.Numbers.{answers_same}
use Rattle.commit_order.proofs.Faults.{faults_unordered}

module _ (view : View) (i : PlainItem) where
  runs : item_run view (unordered_item i) ≡ item_run view i
  unfolding item_run
  runs = refl

  checks_by : (d : Data) (ds : List Diag) → checked_by (unordered_item i) d (map unordered_diag ds) ≡ unordered_answer unordered_object (checked_by i d ds)
  checks_by d [] = refl
  checks_by d (f ∷ fs) = refl

  checks : (a : Answer Data) → checked (unordered_item i) (unordered_answer (λ d. d) a) ≡ unordered_answer unordered_object (checked i a)
  checks (answer.made d) = ap (checked_by (unordered_item i) d) (faults_unordered i.number i.place (type_named i.kind) d) ∙ checks_by d (object_faults (record { number = i.number; place = i.place }) (type_named i.kind) d)
  checks (answer.diagnosed ds) = refl
  checks (answer.blocked r) = refl

  pub item_unordered : item_answer view (unordered_item i) ≡ unordered_answer unordered_object (item_answer view i)
  unfolding item_answer
  item_unordered =
      ap (λ x. checked (unordered_item i) (answered (unordered_item i).number x)) runs
      ∙ ap (checked (unordered_item i)) (answers_same i.number (item_run view i))
      ∙ checks (answered i.number (item_run view i))
