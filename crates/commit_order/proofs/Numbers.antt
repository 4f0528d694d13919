-- What an evaluation gives, without the numbers of statements in its numbers.
use Rattle.std.proofs.Common.{◌≡◌, refl, ap, ◌∙◌}
use Rattle.site_base.specs.declared.item_no.ItemNo.{ItemNo}
use Rattle.eval_meaning.specs.States.{State, Outcome, gives, faults, blocked, ◌>>=◌}
use Rattle.commit_meaning.specs.Answers.{answered}
use Rattle.commit_order.specs.Unordered.{unordered_number, unordered_answer}

-- what is given becomes another thing, in the same state
abbrev pub given : {A : Type 0} → (A → A) → Outcome A → Outcome A
given f (gives a s) = gives (f a) s
given f (faults l k t rs) = faults l k t rs
given f (blocked r rs) = blocked r rs

pub next : {A B : Type 0} (f : A → A) (g : B → B) (x y : Outcome A) (h k : A → State → Outcome B) → y ≡ given f x → ((a : A) (s : State) → k (f a) s ≡ given g (h a s)) → (y >>= k) ≡ given g (x >>= h)
next f g (gives a s) y h k e c = ap (λ z. z >>= k) e ∙ c a s
next f g (faults l j t rs) y h k e c = ap (λ z. z >>= k) e
next f g (blocked r rs) y h k e c = ap (λ z. z >>= k) e

-- after the same
pub then_given : {A B : Type 0} (g : B → B) (x : Outcome A) (h k : A → State → Outcome B) → ((a : A) (s : State) → k a s ≡ given g (h a s)) → (x >>= k) ≡ given g (x >>= h)
then_given g (gives a s) h k c = c a s
then_given g (faults l j t rs) h k c = refl
then_given g (blocked r rs) h k c = refl

pub answers_given : {A : Type 0} (f : A → A) (n : ItemNo) (x : Outcome A) → answered (unordered_number n) (given f x) ≡ unordered_answer f (answered n x)
answers_given f n (gives a s) = refl
answers_given f n (faults l k t rs) = refl
answers_given f n (blocked r rs) = refl

-- what is given is the same already
pub answers_same : {A : Type 0} (n : ItemNo) (x : Outcome A) → answered (unordered_number n) x ≡ unordered_answer (λ a. a) (answered n x)
answers_same n (gives a s) = refl
answers_same n (faults l k t rs) = refl
answers_same n (blocked r rs) = refl
