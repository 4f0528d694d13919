-- A load is the run of the first file from its start on, and nothing in it is blocked.
use Rattle.std.proofs.Common.{◌≡◌, ℕ, List, [], ◌∷◌, drop, take, Option, Some, None, Err, Ok, refl, sym, subst, ◌∙◌}
use Rattle.std.specs.Prelude.{slice_get, IsErrAnd, Result}
use Rattle.dsl_syntax.specs.Syntax.{Statements}
use Rattle.dsl_value.specs.declared.value.Value.{Value}
use Rattle.dsl_value.specs.declared.value.Value.TheVariants as value
use Rattle.eval_meaning.specs.Registered.{PlainFile}
use Rattle.eval_meaning.specs.Views.{View, IsWorld}
use Rattle.eval_meaning.specs.States.{State, Outcome, gives, faults, blocked, ◌>>=◌}
use Rattle.eval_meaning.specs.Frames.{ended, back_in}
use Rattle.eval_meaning.specs.Flow.{block_with}
use Rattle.eval_meaning.specs.Files.{run_file, file_with, with_order}
use Rattle.eval_meaning.specs.Registration.{loading}
use Rattle.eval_meaning.specs.Evaluation.{evaluated}
use Rattle.eval_meaning.specs.Load.{load_view, load_start, load_run, most_open}
use Rattle.eval_meaning.specs.Follows.{IsOpen}
use Rattle.eval_meaning.specs.declared.flow.Flow.{Flow}
use Rattle.eval_meaning.specs.declared.flow.Flow.TheVariants.{On, Returned, Broken, Continued}
use Rattle.eval_meaning.proofs.Open.{body_open, load_world}
use Rattle.eval_work.specs.Works.{Gives}
use Rattle.eval_work.specs.declared.work.Work.{Work}
use Rattle.eval_work.specs.declared.stop.Stop.{Stop}
use Rattle.eval_work.specs.declared.stop.Stop.TheVariants as stops
use Rattle.dsl_load.specs.Loads.{Runs}

-- ---- nothing is blocked

binds : {A B : Type 0} (x : Outcome A) (f : A → State → Outcome B) → IsOpen x → ((a : A) (t : State) → IsOpen (f a t)) → IsOpen (x >>= f)
binds (gives a t) f h k = k a t
binds (faults l j t rs) f h k = tt
binds (blocked r rs) f h k = absurd h

ended_open : (f : Flow) (s : State) → IsOpen (ended f s)
ended_open On s = tt
ended_open (Returned v) s = tt
ended_open (Broken l) s = tt
ended_open (Continued l) s = tt

-- what an end is blocked by is blocked itself
open_of : (x : Outcome Flow) → IsOpen (x >>= ended) → IsOpen x
open_of (gives a t) h = tt
open_of (faults l k t rs) h = tt
open_of (blocked r rs) h = absurd h

block_open : (world : View) → IsWorld world → (depth : ℕ) (b : Statements) (s : State) → IsOpen (block_with (evaluated world depth) b s)
block_open world whole depth b s = open_of (block_with (evaluated world depth) b s) (body_open world whole depth b s)

run_open : (world : View) → IsWorld world → (depth : ℕ) (o : Option PlainFile) (s : State) → IsOpen (run_file (evaluated world depth) o s)
run_open world whole depth None s = tt
run_open world whole depth (Some f) s = binds (block_with (evaluated world depth) f.statements _) _ (block_open world whole depth f.statements _) (λ fl s1. binds (ended fl s1) _ (ended_open fl s1) (λ v s2. tt))

file_open : (world : View) → IsWorld world → (depth : ℕ) (order : List ℕ) (s : State) → IsOpen (file_with world (evaluated world depth) order s)
file_open world whole depth [] s = tt
file_open world whole depth (k ∷ []) s = tt
file_open world whole depth (k ∷ n ∷ order) s = binds (run_file (evaluated world depth) (slice_get world.files k) (with_order (take n order) s)) _ (run_open world whole depth (slice_get world.files k) (with_order (take n order) s)) (λ v s1. tt)

load_open : (files : List PlainFile) (order : List ℕ) → IsOpen (load_run files order)
unfolding load_run
load_open files order = file_open (load_view files) (load_world files) most_open order (load_start order)

-- ---- the run

pub run_is : (files : List PlainFile) (order : List ℕ) (view : View) (depth : ℕ) (s : State) → view ≡ load_view files → depth ≡ most_open → s ≡ load_start order → file_with view (evaluated view depth) (loading s).order s ≡ load_run files order
unfolding load_run
run_is files order view depth s v d e = rw (v, d, e) refl

-- what it ends early with is the load's fault
pub run_stops : (files : List PlainFile) (order : List ℕ) (view : View) (depth : ℕ) (s new : State) (e : Stop) → view ≡ load_view files → depth ≡ most_open → s ≡ load_start order → Gives {X = Value} {Y = Value} (λ v. v) (Err e) new (file_with view (evaluated view depth) (loading s).order s) → Runs files order (Err e)
run_stops files order view depth s new stops.Memory v d i h = tt
run_stops files order view depth s new (stops.Fault l k t) v d i h = (new.reads, sym (run_is files order view depth s v d i) ∙ h)
run_stops files order view depth s new (stops.Blocked q) v d i h = absurd (subst (λ o. IsOpen o) (sym (run_is files order view depth s v d i) ∙ h) (load_open files order))

-- what is handed on is the same
pub runs_on : (files : List PlainFile) (order : List ℕ) (r : Result Work Stop) (e : Stop) → IsErrAnd r (λ x. x ≡ e) → Runs files order (Err e) → Runs files order r
runs_on files order (Ok w) e h k = absurd h
runs_on files order (Err x) e h k = subst (λ (y : Stop). Runs files order (Err y)) (sym h) k
