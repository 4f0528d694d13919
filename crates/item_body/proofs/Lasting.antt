-- What is answered is what the definition says, and stays over each view that shows more.
use Rattle.std.proofs.Common.{◌≡◌, List, [], ◌∷◌, Result, Ok, Err, refl, ap, sym, ◌∙◌, subst}
use Rattle.std.specs.Prelude.{IfOk}
use Rattle.site_base.specs.Data.{Data}
use Rattle.site_base.specs.declared.diag.Diag.{Diag}
use Rattle.site_base.specs.declared.memory.OutOfMemory.{OutOfMemory}
use Rattle.site_model.specs.PlainSite.{PlainObject}
use Rattle.object_types.specs.Checks.{object_faults}
use Rattle.object_types.specs.Names.{type_named}
use Rattle.eval_meaning.specs.Registered.{PlainItem}
use Rattle.eval_meaning.specs.Views.{View, IsPart}
use Rattle.commit_meaning.specs.Answers as answer
use Rattle.commit_meaning.specs.Answers.{Answer, answered}
use Rattle.commit_meaning.specs.Items.{item_run, checked, checked_by, item_answer}
use Rattle.commit_meaning.specs.Starts.{Trees}
use Rattle.commit_meaning.specs.Staying.{Stays}
use Rattle.commit_meaning.proofs.ViewAnswers.{answers_stay}
use Rattle.item_body.specs.Bodies.{under_names}
use Rattle.item_body.specs.Plain.{plain_answer}
use Rattle.item_body.specs.declared.item_answer.ItemAnswer.{ItemAnswer}

-- no check looks at the names that are bound
checked_same : (ns : Trees) (i : PlainItem) (a : Answer Data) → checked i a ≡ checked (under_names ns i) a
checked_same ns i (answer.made d) = by (object_faults (record { number = i.number; place = i.place }) (type_named i.kind) d)
  where
    by : (fs : List Diag) → checked_by i d fs ≡ checked_by (under_names ns i) d fs
    by [] = refl
    by (f ∷ fs) = refl
checked_same ns i (answer.diagnosed ds) = refl
checked_same ns i (answer.blocked r) = refl

answer_is : (v : View) (i : PlainItem) (ns : Trees) (x : Answer PlainObject) (a : Answer Data) → answered i.number (item_run v (under_names ns i)) ≡ a → x ≡ checked i a → x ≡ item_answer v (under_names ns i)
unfolding item_answer
answer_is v i ns x a e h = h ∙ (checked_same ns i a ∙ ap (checked (under_names ns i)) (sym e))

-- where the evaluation of an item with these names comes to something over a view, and this was checked
module _ (v : View) (i : PlainItem) (ns : Trees) where
  pub checked_answers : (a : Answer Data) (r : Result ItemAnswer OutOfMemory) → answered i.number (item_run v (under_names ns i)) ≡ a → IfOk r (λ x. plain_answer x ≡ checked i a)
      → IfOk r (λ x. plain_answer x ≡ item_answer v (under_names ns i))
  checked_answers a (Ok x) e h = answer_is v i ns (plain_answer x) a e h
  checked_answers a (Err x) e h = tt

  pub checked_stays : (world : View) (a : Answer Data) (r : Result ItemAnswer OutOfMemory) → IsPart v world → answered i.number (item_run v (under_names ns i)) ≡ a → IfOk r (λ x. plain_answer x ≡ checked i a)
      → IfOk r (λ x. Stays (plain_answer x) (item_answer world (under_names ns i)))
  checked_stays world a (Ok x) part e h =
      subst (λ y. Stays y (item_answer world (under_names ns i))) (sym (answer_is v i ns (plain_answer x) a e h)) ((answers_stay v world part).items (under_names ns i))
  checked_stays world a (Err x) part e h = tt
