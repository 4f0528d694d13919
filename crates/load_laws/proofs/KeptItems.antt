-- An evaluation keeps the names of registered items good: what is true of its steps.
use Rattle.std.proofs.Common.{◌≡◌, ◌+◌, ◌-◌, ℕ, List, [], ◌∷◌, ◌++◌, length, Bool, true, false, cond, refl, sym, subst}
use Rattle.std.specs.Prelude.{nat_lt, nat_eq}
use Rattle.site_base.specs.declared.place.Place.{Place}
use Rattle.site_base.specs.declared.diag_kind.DiagKind.{DiagKind}
use Rattle.site_base.specs.declared.diag_kind.DiagKind.TheVariants.{StepLimit, SpaceLimit}
use Rattle.dsl_value.specs.Pairs.{Pairs, dict_of}
use Rattle.dsl_value.specs.Contents.{PlainCell, array, dict}
use Rattle.dsl_value.specs.declared.value.Value.{Value}
use Rattle.dsl_value.specs.declared.value.Value.TheVariants as value
use Rattle.eval_meaning.specs.States as states
use Rattle.eval_meaning.specs.States.{State, Outcome, gives, faults, blocked, ◌>>=◌, done, fault, step, charge, with_new, Task, Loading}
use Rattle.eval_meaning.specs.Literals.{string_value, new_cell, new_array, new_dict}
use Rattle.eval_meaning.specs.Registration.{loading, with_loading, loading_of, changed}
use Rattle.eval_meaning.specs.declared.read.Read.{Read}
use Rattle.std.specs.List.{AllByRecursion}
use Rattle.load_laws.specs.GoodNames.{AreGood}

pub all_append : {A : Type 0} (P : A → Type 0) (xs ys : List A) → AllByRecursion P xs → AllByRecursion P ys → AllByRecursion P (xs ++ ys)
all_append P [] ys h k = k
all_append P (x ∷ xs) ys h k = (h.0, all_append P xs ys h.1 k)

-- if the items of a load have good names, they have them still
abbrev pub KeepsItems : (Loading → Loading) → Type 0
KeepsItems f = (m : Loading) → AreGood m.items → AreGood (f m).items

-- What an evaluation gives keeps that so: if the items that were registered before have good names, those that are registered after it have
-- them too.
unfoldable pub Keeps : {A : Type 0} → State → Outcome A → Type 0
Keeps s (gives a t) = AreGood (loading s).items → AreGood (loading t).items
Keeps s (faults l k t rs) = Unit {0}
Keeps s (blocked r rs) = Unit {0}

pub here : {A : Type 0} (a : A) (s : State) → Keeps s (gives a s)
unfolding Keeps
here a s = λ h. h

pub stops : (A : Type 0) (l : Place) (k : DiagKind) (t : List ℕ) (s : State) → Keeps {A = A} s (faults l k t s.reads)
unfolding Keeps
stops A l k t s = tt

pub blocks : (A : Type 0) (r : Read) (s : State) → Keeps {A = A} s (blocked r s.reads)
unfolding Keeps
blocks A r s = tt

-- one state after another
behind : {A : Type 0} (s t : State) (x : Outcome A) → (AreGood (loading s).items → AreGood (loading t).items) → Keeps t x → Keeps s x
unfolding Keeps
behind s t (gives a u) h k = λ g. k (h g)
behind s t (faults l j d rs) h k = tt
behind s t (blocked r rs) h k = tt

pub binds : {A B : Type 0} (s : State) (x : Outcome A) (f : A → State → Outcome B) → Keeps s x → ((a : A) (s1 : State) → Keeps s1 (f a s1)) → Keeps s (x >>= f)
unfolding Keeps
binds s (gives a t) f h k = behind s t (f a t) h (k a t)
binds s (faults l j t rs) f h k = tt
binds s (blocked r rs) f h k = tt

pub binds_twice : {A B C : Type 0} (s : State) (x : Outcome A) (f : A → State → Outcome B) (g : B → State → Outcome C) → Keeps s x → ((a : A) (s1 : State) → Keeps s1 (f a s1 >>= g)) → Keeps s ((x >>= f) >>= g)
unfolding Keeps
binds_twice s (gives a t) f g h k = behind s t (f a t >>= g) h (k a t)
binds_twice s (faults l j t rs) f g h k = tt
binds_twice s (blocked r rs) f g h k = tt

-- a step that leaves the task, and one of the load
pub steps : {A : Type 0} (s s1 : State) (x : Outcome A) → s1.task ≡ s.task → Keeps s1 x → Keeps s x
steps s s1 x m h = behind s s1 x (subst (λ t. AreGood (loading_of t).items) (sym m)) h

pub loads : {A : Type 0} (s : State) (f : Loading → Loading) (x : Outcome A) → KeepsItems f → Keeps (with_loading f s) x → Keeps s x
loads s f x keep h = behind s (with_loading f s) x (by s.task) h
  where
    by : (t : Task) → AreGood (loading_of t).items → AreGood (loading_of (changed f t)).items
    by (states.load m) g = keep m g
    by (states.item kind ps) g = g
    by states.rule g = g

-- ---- choices

pub choice : {A : Type 0} (b : Bool) (s : State) (x y : Outcome A) → Keeps s x → Keeps s y → Keeps s (cond b x y)
choice true s x y h k = h
choice false s x y h k = k

pub gives_after : {A : Type 0} (a : A) (s s1 : State) → s1.task ≡ s.task → Keeps s (gives a s1)
gives_after a s s1 m = steps s s1 (gives a s1) m (here a s1)

-- ---- steps and space

pub counts : {A : Type 0} (l : Place) (s : State) (f : Unit {0} → State → Outcome A) → ((s1 : State) → Keeps s1 (f tt s1)) → Keeps s (step l s >>= f)
counts l s f h = by (nat_eq s.steps 0)
  where
    by : (b : Bool) → Keeps s (cond b (fault l StepLimit s) (done (record s { steps = s.steps - 1 })) >>= f)
    by true = stops _ l StepLimit [] s
    by false = steps s _ _ refl (h (record s { steps = s.steps - 1 }))

pub charges : {A : Type 0} (l : Place) (n : ℕ) (s : State) (f : Unit {0} → State → Outcome A) → Keeps s (f tt (record s { space = s.space - n })) → Keeps s (charge l n s >>= f)
charges l n s f h = by (nat_lt s.space n)
  where
    by : (b : Bool) → Keeps s (cond b (fault l SpaceLimit s) (done (record s { space = s.space - n })) >>= f)
    by true = stops _ l SpaceLimit [] s
    by false = h

pub makes : (l : Place) (n : ℕ) (c : PlainCell) (s : State) → Keeps s (new_cell l n c s)
makes l n c s = charges l n s (λ _ s1. with_new c s1) (gives_after (value.Ref (length s.cells)) s _ refl)

pub keeps_array : (l : Place) (vs : List Value) (s : State) → Keeps s (new_array l vs s)
keeps_array l vs s = makes l (1 + length vs) (array vs) s

pub keeps_dict : (l : Place) (ps : Pairs) (s : State) → Keeps s (new_dict l ps s)
keeps_dict l ps s = makes l (1 + length ps) (dict (dict_of ps [])) s

pub keeps_string : (l : Place) (t : List ℕ) (s : State) → Keeps s (string_value l t s)
keeps_string l t s = charges l _ s (λ _ s1. gives (value.Str t) s1) (gives_after (value.Str t) s _ refl)
