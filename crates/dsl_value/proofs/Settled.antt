-- What is made or written, as what it comes to.
use Rattle.std.proofs.Common.{◌≡◌, ℕ, Ok, refl}
use Rattle.dsl_value.specs.Contents.{Contents}
use Rattle.dsl_value.specs.Outcomes.{outcome_of, act_outcome, answer, after, value_of, store_of, act_value, act_store}
use Rattle.dsl_value.specs.declared.acting.Act.{Act}
use Rattle.dsl_value.specs.declared.acting.Act.TheVariants as act
use Rattle.dsl_value.specs.declared.making.Made.{Made}
use Rattle.dsl_value.specs.declared.making.Made.TheVariants as made

module _ (F : Type 0) where
  pub answer_made : (count : ℕ) (m : Made) → answer {F = F} count (outcome_of m) ≡ Ok (value_of count m)
  answer_made count (made.Value v) = refl
  answer_made count (made.Text t) = refl
  answer_made count (made.Array vs) = refl
  answer_made count (made.Texts vs) = refl
  answer_made count (made.Dict ps) = refl

  pub after_made : (s : Contents) (m : Made) → after {F = F} s (outcome_of m) ≡ store_of s m
  after_made s (made.Value v) = refl
  after_made s (made.Text t) = refl
  after_made s (made.Array vs) = refl
  after_made s (made.Texts vs) = refl
  after_made s (made.Dict ps) = refl

  pub answer_act : (count : ℕ) (s : Contents) (a : Act) → answer {F = F} count (act_outcome s a) ≡ Ok (act_value count a)
  answer_act count s (act.Make m) = answer_made count m
  answer_act count s (act.Write k x) = refl

  pub after_act : (s : Contents) (a : Act) → after {F = F} s (act_outcome s a) ≡ act_store s a
  after_act s (act.Make m) = after_made s m
  after_act s (act.Write k x) = refl
