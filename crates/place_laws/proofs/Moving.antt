-- Two evaluations of which the second is at other places: what holds of each step, and of one after another.
use Rattle.std.proofs.Common.{◌≡◌, ◌-◌, ℕ, List, [], Bool, true, false, cond, refl, sym, ◌∙◌, subst, ◌⊎◌, inl, inr}
use Rattle.std.specs.Prelude.{nat_lt, nat_eq}
use Rattle.site_base.specs.declared.place.Place.{Place}
use Rattle.site_base.specs.declared.diag_kind.DiagKind.{DiagKind}
use Rattle.site_base.specs.declared.diag_kind.DiagKind.TheVariants.{Duplicate, StepLimit, SpaceLimit}
use Rattle.eval_meaning.specs.Views.{View}
use Rattle.eval_meaning.specs.States.{State, Outcome, gives, faults, blocked, ◌>>=◌, done, fault, step, charge}
use Rattle.eval_meaning.specs.Registration.{is_load}
use Rattle.place_laws.specs.MovedStates.{moved_state}
use Rattle.place_laws.specs.MovedOutcomes.{KeepsLibrary}

-- How syntax is moved, over which view, and whether a load is evaluated.
pub record Moving : Type 0 where
  pub move : Place → Place
  pub view : View
  pub in_load : Bool
  pub keeps : in_load ≡ true → KeepsLibrary move view.files

-- what comes of an outcome, where what it gives is moved by `f`; the task stays one
abbrev pub Comes : {A : Type 0} → Moving → (A → A) → Outcome A → Outcome A → Type 0
Comes m f (gives a s) y = (y ≡ gives (f a) (moved_state m.move s)) × (is_load s.task ≡ m.in_load)
Comes m f (faults l k t rs) y = (u : List ℕ) × (y ≡ faults (m.move l) k u rs) × ((u ≡ t) ⊎ ((m.in_load ≡ true) × (k ≡ Duplicate)))
Comes m f (blocked r rs) y = y ≡ blocked r rs

-- what has no place stays what it is
abbrev pub same : {A : Type 0} → A → A
same a = a

module _ (m : Moving) where
  abbrev pub moved : State → State
  moved s = moved_state m.move s

  -- what begins in a state comes to the one outcome, and what begins in the moved state to the other
  unfoldable pub P : {A : Type 0} → (A → A) → State → Outcome A → Outcome A → Type 0
  P f s x y = is_load s.task ≡ m.in_load → Comes m f x y

  -- what comes of it in such a task
  pub comes : {A : Type 0} (f : A → A) (s : State) (x y : Outcome A) → is_load s.task ≡ m.in_load → P f s x y → Comes m f x y
  unfolding P
  comes f s x y h c = c h

  pub here : {A : Type 0} (f : A → A) (a : A) (s : State) → P f s (gives a s) (gives (f a) (moved s))
  unfolding P
  here f a s = λ h. (refl, h)

  pub stops : (A : Type 0) (f : A → A) (l : Place) (k : DiagKind) (t : List ℕ) (s : State) → P f s (faults l k t s.reads) (faults (m.move l) k t s.reads)
  unfolding P
  stops A f l k t s = λ h. (t, refl, inl refl)

  -- a template that is there already
  pub stops_twice : (A : Type 0) (f : A → A) (l : Place) (t u : List ℕ) (s : State) → m.in_load ≡ true → P f s (faults l Duplicate t s.reads) (faults (m.move l) Duplicate u s.reads)
  unfolding P
  stops_twice A f l t u s e = λ h. (u, refl, inr (e, refl))

  after : {A B : Type 0} (f : A → A) (g : B → B) (x y : Outcome A) (h k : A → State → Outcome B) → Comes m f x y → ((a : A) (t : State) → is_load t.task ≡ m.in_load → Comes m g (h a t) (k (f a) (moved t))) → Comes m g (x >>= h) (y >>= k)
  after f g (gives a s) y h k c d = subst (λ o. Comes m g (h a s) (o >>= k)) (sym c.0) (d a s c.1)
  after f g (faults l j t rs) y h k c d = (c.0, subst (λ o. (o >>= k) ≡ faults (m.move l) j c.0 rs) (sym c.1) refl, c.2)
  after f g (blocked r rs) y h k c d = subst (λ o. (o >>= k) ≡ blocked r rs) (sym c) refl

  pub binds : {A B : Type 0} (f : A → A) (g : B → B) (s : State) (x y : Outcome A) (h k : A → State → Outcome B) → P f s x y → ((a : A) (t : State) → P g t (h a t) (k (f a) (moved t))) → P g s (x >>= h) (y >>= k)
  unfolding P
  binds f g s x y h k c d = λ e. after f g x y h k (c e) d

  pub steps : {A : Type 0} (f : A → A) (s t : State) (x y : Outcome A) → is_load t.task ≡ is_load s.task → P f t x y → P f s x y
  unfolding P
  steps f s t x y e c = λ h. c (e ∙ h)

  -- something is given in another state of the same task
  pub gives_after : {A : Type 0} (f : A → A) (a : A) (s t : State) → is_load t.task ≡ is_load s.task → P f s (gives a t) (gives (f a) (moved t))
  gives_after f a s t e = steps f s t (gives a t) (gives (f a) (moved t)) e (here f a t)

  -- what is said at a load is said where the task is one
  pub at_a_load : {A : Type 0} (f : A → A) (s : State) (x y : Outcome A) → is_load s.task ≡ true → (m.in_load ≡ true → P f s x y) → P f s x y
  unfolding P
  at_a_load f s x y e c = λ h. c (sym h ∙ e) h

  -- ---- choices

  pub choice : {A : Type 0} (f : A → A) (b : Bool) (s : State) (x y z w : Outcome A) → P f s x z → P f s y w → P f s (cond b x y) (cond b z w)
  choice f true s x y z w h k = h
  choice f false s x y z w h k = k

  pub choice_by : {A : Type 0} (f : A → A) (b c : Bool) (s : State) (x y z w : Outcome A) → c ≡ b → P f s x z → P f s y w → P f s (cond b x y) (cond c z w)
  choice_by f b c s x y z w e h k = subst (λ d. P f s (cond b x y) (cond d z w)) (sym e) (choice f b s x y z w h k)

  -- ---- steps and space

  pub counts : {A : Type 0} (f : A → A) (l : Place) (s : State) (h k : Unit {0} → State → Outcome A) → ((t : State) → P f t (h tt t) (k tt (moved t))) → P f s (step l s >>= h) (step (m.move l) (moved s) >>= k)
  counts f l s h k c = by (nat_eq s.steps 0)
    where
      by : (b : Bool) → P f s (cond b (fault l StepLimit s) (done (record s { steps = s.steps - 1 })) >>= h) (cond b (fault (m.move l) StepLimit (moved s)) (done (record (moved s) { steps = s.steps - 1 })) >>= k)
      by true = stops _ f l StepLimit [] s
      by false = steps f s _ _ _ refl (c (record s { steps = s.steps - 1 }))

  pub charges : {A : Type 0} (f : A → A) (l : Place) (n : ℕ) (s : State) (h k : Unit {0} → State → Outcome A) → ((t : State) → P f t (h tt t) (k tt (moved t))) → P f s (charge l n s >>= h) (charge (m.move l) n (moved s) >>= k)
  charges f l n s h k c = by (nat_lt s.space n)
    where
      by : (b : Bool) → P f s (cond b (fault l SpaceLimit s) (done (record s { space = s.space - n })) >>= h) (cond b (fault (m.move l) SpaceLimit (moved s)) (done (record (moved s) { space = s.space - n })) >>= k)
      by true = stops _ f l SpaceLimit [] s
      by false = steps f s _ _ _ refl (c (record s { space = s.space - n }))
