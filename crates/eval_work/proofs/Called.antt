-- The library looks at no function of a store.
use Rattle.std.proofs.Common.{◌≡◌, List, refl, ap}
use Rattle.site_base.specs.declared.place.Place.{Place}
use Rattle.dsl_value.specs.declared.value.Value.{Value}
use Rattle.dsl_lib.specs.Library.{answer}
use Rattle.dsl_lib.specs.Units.{units}
use Rattle.dsl_lib.specs.declared.plain.Plain.{Plain}
use Rattle.dsl_lib.specs.declared.plain.Plain.TheVariants as call
use Rattle.eval_meaning.specs.Library.{call_plain, lib_kind}
use Rattle.eval_meaning.specs.Settled.{contents, settled}
use Rattle.eval_work.specs.Works.{state_of}
use Rattle.eval_work.specs.declared.work.Work.{Work}

same_answer : (p : Plain) (w : Work) (vs : List Value) → answer p (contents (state_of w)) vs ≡ answer p w.store vs
same_answer call.Match w vs = refl
same_answer call.Len w vs = refl
same_answer call.String w vs = refl
same_answer call.Number w vs = refl
same_answer call.Bool w vs = refl
same_answer call.Range w vs = refl
same_answer call.Union w vs = refl
same_answer call.Intersection w vs = refl
same_answer call.Keys w vs = refl
same_answer call.Log w vs = refl
same_answer call.TextLen w vs = refl
same_answer call.TextContains w vs = refl
same_answer call.TextLower w vs = refl
same_answer call.TextUpper w vs = refl
same_answer call.TextTrim w vs = refl
same_answer call.TextReplace w vs = refl
same_answer call.TextSplit w vs = refl
same_answer call.TextSubstr w vs = refl
same_answer call.ArrayLen w vs = refl
same_answer call.ArrayContains w vs = refl
same_answer call.ArrayGet w vs = refl
same_answer call.ArrayAdd w vs = refl
same_answer call.ArrayJoin w vs = refl
same_answer call.ArraySort w vs = refl
same_answer call.DictLen w vs = refl
same_answer call.DictContains w vs = refl
same_answer call.DictGet w vs = refl
same_answer call.DictSet w vs = refl
same_answer call.DictRemove w vs = refl
same_answer call.DictKeys w vs = refl
same_answer call.DictValues w vs = refl

pub called_is : (l : Place) (p : Plain) (vs : List Value) (w : Work) → call_plain l p vs (state_of w) ≡ settled lib_kind l (units p (answer p w.store vs)) (answer p w.store vs) (state_of w)
unfolding call_plain
called_is l p vs w = ap (λ o. settled lib_kind l (units p o) o (state_of w)) (same_answer p w vs)
