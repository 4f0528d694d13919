-- What is evaluated over a view, and isn't blocked, is the same over each view of which it is part.
use Rattle.std.proofs.Common.{◌≡◌, List, refl, sym, ap, ◌∙◌, subst}
use Rattle.site_base.specs.declared.place.Place.{Place}
use Rattle.dsl_syntax.specs.Syntax.{Expression, Statements}
use Rattle.dsl_value.specs.PlainStores.{PlainStore}
use Rattle.eval_meaning.specs.Registered.{PlainTemplate, PlainRule, PlainFile}
use Rattle.eval_meaning.specs.Views.{View, host, service, Sight, shown, absent, undecided, sight, IsPart}
use Rattle.eval_meaning.specs.States.{State}
use Rattle.eval_meaning.specs.Objects.{seen, read}
use Rattle.eval_meaning.specs.Evaluation.{value_of, body_of}
use Rattle.eval_meaning.specs.Load.{most_open}
use Rattle.eval_meaning.specs.declared.read.Read.{Read}
use Rattle.eval_meaning.proofs.Every.{IsRule, P, every, every_result, other}
use Rattle.commit_meaning.specs.Staying.{Remains, EvaluationsRemain}
use Rattle.commit_meaning.proofs.ViewOutcomes.{remains_itself, remains_bind}

-- ---- reads

seen_remains : (view world : View) (part : IsPart view world) (l : Place) (r : Read) (s : State) (o : Sight) → sight view r ≡ o → Remains (seen l r o s) (seen l r (sight world r) s)
seen_remains view world part l r s (shown d) e = subst (λ p. Remains (seen l r (shown d) s) (seen l r p s)) (sym (part.shows r d e)) (remains_itself (seen l r (shown d) s))
seen_remains view world part l r s absent e = subst (λ p. Remains (seen l r absent s) (seen l r p s)) (sym (part.lacks r e)) (remains_itself (seen l r absent s))
seen_remains view world part l r s undecided e = tt

read_remains : (view world : View) (part : IsPart view world) (l : Place) (r : Read) (s : State) → Remains (read view l r s) (read world l r s)
unfolding read
read_remains view world part l r s = seen_remains view world part l r s (sight view r) refl

-- ---- the other view is the first one with other objects

site_of : PlainStore → List PlainTemplate → List PlainRule → List PlainFile → View → View
site_of store templates rules files w = record w { store = store; templates = templates; rules = rules; files = files }

other_is : (view world : View) → IsPart view world → other view world.objects world.absent world.whole ≡ world
unfolding site_of
other_is view world part =
    ap (λ x. site_of x view.templates view.rules view.files world) part.store
    ∙ ap (λ x. site_of world.store x view.rules view.files world) part.templates
    ∙ ap (λ x. site_of world.store world.templates x view.files world) part.rules
    ∙ ap (λ x. site_of world.store world.templates world.rules x world) part.files

-- ---- evaluations

module _ (view world : View) (part : IsPart view world) where
  reads_other : (l : Place) (r : Read) (s : State) → Remains (read view l r s) (read (other view world.objects world.absent world.whole) l r s)
  reads_other l r s = subst (λ w. Remains (read view l r s) (read w l r s)) (sym (other_is view world part)) (read_remains view world part l r s)

  remaining : IsRule view (other view world.objects world.absent world.whole)
  remaining = record {
    P = λ s x y. Remains x y;
    here = λ a s. refl;
    stops = λ A l k t s. refl;
    binds = λ s x y f g h k. remains_bind x y f g h (λ a t. k a t);
    steps = λ s t x y m h. h;
    hosts = λ l n s. reads_other l (host n) s;
    services = λ l h n s. reads_other l (service h n) s;
  }

  value_remains : (e : Expression) (s : State) → Remains (value_of view most_open e s) (value_of (other view world.objects world.absent world.whole) most_open e s)
  unfolding P remaining
  value_remains e s = (every view world.objects world.absent world.whole remaining most_open).value e s

  body_remains : (b : Statements) (s : State) → Remains (body_of view most_open b s) (body_of (other view world.objects world.absent world.whole) most_open b s)
  unfolding P remaining
  body_remains b s = every_result view world.objects world.absent world.whole remaining most_open b s

  pub evaluations_remain : EvaluationsRemain view world
  evaluations_remain = subst (EvaluationsRemain view) (other_is view world part) (record { value = value_remains; body = body_remains })
