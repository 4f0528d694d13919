-- A rule's expressions leave their task as it is.
use Rattle.std.proofs.Common.{◌≡◌, ◌-◌, ℕ, List, Bool, true, false, cond, Result, Ok, Err, refl, ap, subst}
use Rattle.std.specs.Prelude.{nat_lt, OnOk}
use Rattle.site_base.specs.declared.diag_kind.DiagKind.TheVariants.{SpaceLimit}
use Rattle.site_base.specs.Data.{Data}
use Rattle.site_base.specs.declared.place.Place.{Place}
use Rattle.dsl_syntax.specs.Syntax.{Expression}
use Rattle.dsl_value.specs.Loads.{cost}
use Rattle.dsl_value.specs.declared.value.Value.{Value}
use Rattle.eval_meaning.specs.Views.{View, host, service, Sight, shown, absent, undecided, sight}
use Rattle.eval_meaning.specs.States.{State, Outcome, gives, faults, blocked, ◌>>=◌, done, fault, Task, rule}
use Rattle.eval_meaning.specs.States as states
use Rattle.eval_meaning.specs.Steps.{IsStep, framed, counted, charged, made, function_kept, written_to, loaded_to}
use Rattle.eval_meaning.specs.Objects.{seen, loaded, read, with_read, with_tree}
use Rattle.eval_meaning.specs.Registration.{changed}
use Rattle.eval_meaning.specs.Evaluation.{value_of, evaluated}
use Rattle.eval_meaning.specs.declared.read.Read.{Read}
use Rattle.eval_meaning.proofs.Every.{IsRule, P, every}
use Rattle.eval_work.specs.Works.{plain_task, state_of, Gives}
use Rattle.eval_work.specs.declared.stop.Stop.{Stop}
use Rattle.eval_work.specs.declared.work.Work.{Work}
use Rattle.eval_work.specs.declared.task.Task.{Task as Made}
use Rattle.eval_work.specs.declared.task.Task.TheVariants as tasks

-- what is given is given with the task of a rule, where this was the task
abbrev StaysRule : {A : Type 0} → State → Outcome A → Type 0
StaysRule s (gives a t) = s.task ≡ rule → t.task ≡ rule
StaysRule s (faults l k t rs) = Unit {0}
StaysRule s (blocked r rs) = Unit {0}

binds : {A B : Type 0} (s : State) (x : Outcome A) (f : A → State → Outcome B) → StaysRule s x → ((a : A) (t : State) → StaysRule t (f a t)) → StaysRule s (x >>= f)
binds s (gives a t) f h k = on (f a t) (k a t)
  where
    on : {B : Type 0} (y : Outcome B) → StaysRule t y → StaysRule s y
    on (gives b u) g = λ e. g (h e)
    on (faults l k x rs) g = tt
    on (blocked r rs) g = tt
binds s (faults l k t rs) f h g = tt
binds s (blocked r rs) f h g = tt

step_stays : (s t : State) → IsStep s t → s.task ≡ rule → t.task ≡ rule
step_stays s t (framed this locals in_file) e = e
step_stays s t (counted some) e = e
step_stays s t (charged n le) e = e
step_stays s t (made n c paid le) e = e
step_stays s t (function_kept f) e = e
step_stays s t (written_to n k c le above kind) e = e
step_stays s t (loaded_to f own) e = ap (changed f) e

steps : {A : Type 0} (s t : State) (x : Outcome A) → IsStep s t → StaysRule t x → StaysRule s x
steps s t (gives a u) m h = λ e. h (step_stays s t m e)
steps s t (faults l k x rs) m h = tt
steps s t (blocked r rs) m h = tt

-- ---- reads

loaded_stays : (l : Place) (d : Data) (s : State) → StaysRule s (loaded l d s)
loaded_stays l d s = by (nat_lt s.space (cost d))
  where
    by : (b : Bool) → StaysRule s (cond b (fault l SpaceLimit s) (done (record s { space = s.space - cost d })) >>= λ u s1. with_tree d s1)
    by true = tt
    by false = λ e. e

seen_stays : (l : Place) (r : Read) (o : Sight) (s : State) → StaysRule s (seen l r o s)
seen_stays l r (shown d) s = on (loaded l d (with_read r s)) (loaded_stays l d (with_read r s))
  where
    on : {B : Type 0} (y : Outcome B) → StaysRule (with_read r s) y → StaysRule s y
    on (gives b u) g = g
    on (faults l k x rs) g = tt
    on (blocked r rs) g = tt
seen_stays l r absent s = λ e. e
seen_stays l r undecided s = tt

read_stays : (view : View) (l : Place) (r : Read) (s : State) → StaysRule s (read view l r s)
unfolding read
read_stays view l r s = seen_stays l r (sight view r) s

-- ---- all of it

staying : (view : View) → IsRule view view
staying view = record {
  P = λ s x y. StaysRule s x;
  here = λ a s e. e;
  stops = λ A l k t s. tt;
  binds = λ s x y f g h k. binds s x f h k;
  steps = λ s t x y m h. steps s t x m h;
  hosts = λ l n s. read_stays view l (host n) s;
  services = λ l h n s. read_stays view l (service h n) s;
}

value_stays : (view : View) (depth : ℕ) (e : Expression) (s : State) → StaysRule s (value_of view depth e s)
unfolding P staying
value_stays view depth e s = (every view view.objects view.absent view.whole (staying view) depth).value e s

-- an expression leaves the task of a rule
pub task_left : (view : View) (depth : ℕ) (e : Expression) (s t : State) (v : Value) → value_of view depth e s ≡ gives v t → s.task ≡ rule → t.task ≡ rule
task_left view depth e s t v h = subst (StaysRule s) h (value_stays view depth e s)

pub is_rule : (t : Made) → plain_task t ≡ rule → t ≡ tasks.Rule
is_rule (tasks.Load m) e = cc
is_rule (tasks.Item k b) e = cc
is_rule tasks.Rule e = refl

pub task_kept : (view : View) (depth : ℕ) (x : Expression) (old new : Work) (r : Result Value Stop) → Gives {X = Value} {Y = Value} (λ v. v) r (state_of new) (value_of view depth x (state_of old)) → old.task ≡ tasks.Rule → OnOk r (new.task ≡ tasks.Rule)
task_kept view depth x old new (Ok v) h e = is_rule new.task (task_left view depth x (state_of old) (state_of new) v h (ap plain_task e))
task_kept view depth x old new (Err s) h e = tt
