-- Each evaluation goes onward.
use Rattle.std.proofs.Common.{◌≡◌, ◌≤◌, ◌<◌, ◌+◌, ◌-◌, ℕ, zero, suc, List, [], ◌∷◌, ◌++◌, length, set, Bool, true, false, cond, refl, sym, ap, ◌∙◌, subst, arith, length-append, append_assoc, append-nil}
use Rattle.std.specs.Prelude.{nat_lt, slice_get}
use Rattle.std.proofs.lemmas.Bool.Decides.{nat_tests}
use Rattle.std.proofs.lemmas.List.{get_or_append_left, get_or-set_other, length-set}
use Rattle.site_base.specs.Data.{Data}
use Rattle.site_base.specs.declared.place.Place.{Place}
use Rattle.site_base.specs.declared.diag_kind.DiagKind.{DiagKind}
use Rattle.site_base.specs.declared.diag_kind.DiagKind.TheVariants.{SpaceLimit}
use Rattle.dsl_syntax.specs.Syntax.{Expression, Statement, Statements}
use Rattle.dsl_value.specs.Contents.{PlainCell, array, cell_at, is_array}
use Rattle.dsl_value.specs.PlainStores.{Closure}
use Rattle.dsl_value.specs.Loads.{load, cost}
use Rattle.dsl_value.proofs.Growing.{cells_within}
use Rattle.eval_meaning.specs.Views.{View, host, service, Sight, shown, absent, undecided, sight}
use Rattle.eval_meaning.specs.States.{State, Outcome, gives, faults, blocked, ◌>>=◌, done, fault}
use Rattle.eval_meaning.specs.Steps.{IsStep, framed, counted, charged, made, function_kept, written_to, loaded_to}
use Rattle.eval_meaning.specs.Objects.{read, seen, with_read, with_tree, loaded}
use Rattle.eval_meaning.specs.Flow.{block_with}
use Rattle.eval_meaning.specs.Onward.{Reads, IsOnward, GoesOnward}
use Rattle.eval_meaning.specs.Evaluation.{evaluated, value_of, body_of, expression_with}
use Rattle.eval_meaning.specs.declared.read.Read.{Read}
use Rattle.eval_meaning.proofs.Every.{IsRule, P, AreEvery, every, every_expression_at, every_body, every_result}

pub no_more : (rs : List Read) → Reads rs rs
no_more rs = ([], sym (append-nil rs))

pub reads_on : (a b c : List Read) → Reads a b → Reads b c → Reads a c
reads_on a b c h k = (h.0 ++ k.0, k.1 ∙ ap (λ l. l ++ k.0) h.1 ∙ append_assoc a h.0 k.0)

-- ---- onward is a way that goes on

pub stays : (s : State) → IsOnward s s
stays s = record {
  steps = omega arith;
  space = omega arith;
  base = refl;
  frozen = λ k lt inside. refl;
  kinds = λ k lt. refl;
  cells = omega arith;
  paid = omega arith;
  functions = λ k lt. refl;
  no_function_lost = omega arith;
  reads = no_more s.reads;
}

pub onward_on : (s t u : State) → IsOnward s t → IsOnward t u → IsOnward s u
onward_on s t u a b = record {
  steps = omega (arith, a.steps, b.steps);
  space = omega (arith, a.space, b.space);
  base = b.base ∙ a.base;
  frozen = λ k lt inside. b.frozen k (subst (λ n. k < n) (sym a.base) lt) (omega (arith, inside, a.cells)) ∙ a.frozen k lt inside;
  kinds = λ k lt. b.kinds k (omega (arith, lt, a.cells)) ∙ a.kinds k lt;
  cells = omega (arith, a.cells, b.cells);
  paid = omega (arith, a.paid, b.paid);
  functions = λ k lt. b.functions k (omega (arith, lt, a.no_function_lost)) ∙ a.functions k lt;
  no_function_lost = omega (arith, a.no_function_lost, b.no_function_lost);
  reads = reads_on s.reads t.reads u.reads a.reads b.reads;
}

-- ---- steps go onward

added_cells : (s t : State) (cs : List PlainCell) → t.steps ≡ s.steps → t.base ≡ s.base → t.functions ≡ s.functions → Reads s.reads t.reads → t.cells ≡ s.cells ++ cs → t.space ≤ s.space → length cs + t.space ≤ s.space → IsOnward s t
added_cells s t cs steps base functions reads e space paid =
    let long = length-append s.cells cs in
    let more : length t.cells ≡ length s.cells + length cs = ap length e ∙ long in
    record {
      steps = omega (arith, steps);
      space = space;
      base = base;
      frozen = λ k lt inside. ap (λ c. cell_at c k) e ∙ get_or_append_left s.cells cs (array []) k inside;
      kinds = λ k lt. ap is_array (ap (λ c. cell_at c k) e ∙ get_or_append_left s.cells cs (array []) k lt);
      cells = omega (arith, more);
      paid = omega (arith, more, paid);
      functions = λ k lt. ap (λ f. slice_get f k) functions;
      no_function_lost = omega (arith, ap length functions);
      reads = reads;
    }

kind_at : (cells : List PlainCell) (i : ℕ) (c : PlainCell) → is_array c ≡ is_array (cell_at cells i) → (k : ℕ) → is_array (cell_at (set cells i c) k) ≡ is_array (cell_at cells k)
kind_at [] i c same k = refl
kind_at (d ∷ cells) zero c same zero = same
kind_at (d ∷ cells) zero c same (suc k) = refl
kind_at (d ∷ cells) (suc i) c same zero = refl
kind_at (d ∷ cells) (suc i) c same (suc k) = kind_at cells i c same k

function_at_left : (fs gs : List Closure) (k : ℕ) → k < length fs → slice_get (fs ++ gs) k ≡ slice_get fs k
function_at_left [] gs k lt = absurd (omega (arith, lt))
function_at_left (f ∷ fs) gs zero lt = refl
function_at_left (f ∷ fs) gs (suc k) lt = function_at_left fs gs k (omega (arith, lt))

-- a step that leaves cells and functions
same_store : (s t : State) → t.cells ≡ s.cells → t.base ≡ s.base → t.functions ≡ s.functions → Reads s.reads t.reads → t.steps ≤ s.steps → t.space ≤ s.space → IsOnward s t
same_store s t cells base functions reads steps space = record {
  steps = steps;
  space = space;
  base = base;
  frozen = λ k lt inside. ap (λ c. cell_at c k) cells;
  kinds = λ k lt. ap is_array (ap (λ c. cell_at c k) cells);
  cells = omega (arith, ap length cells);
  paid = omega (arith, ap length cells, space);
  functions = λ k lt. ap (λ f. slice_get f k) functions;
  no_function_lost = omega (arith, ap length functions);
  reads = reads;
}

step_onward : (s t : State) → IsStep s t → IsOnward s t
step_onward s t (framed this locals in_file) = same_store s _ refl refl refl (no_more s.reads) (omega arith) (omega arith)
step_onward s t (counted some) = same_store s _ refl refl refl (no_more s.reads) (omega arith) (omega arith)
step_onward s t (charged n le) = same_store s _ refl refl refl (no_more s.reads) (omega arith) (omega arith)
step_onward s t (loaded_to f own) = same_store s _ refl refl refl (no_more s.reads) (omega arith) (omega arith)
step_onward s t (made n c pos le) = added_cells s _ (c ∷ []) refl refl refl (no_more s.reads) refl (omega arith) (omega (arith, pos, le))
step_onward s t (function_kept f) = record {
  steps = omega arith;
  space = omega arith;
  base = refl;
  frozen = λ k lt inside. refl;
  kinds = λ k lt. refl;
  cells = omega arith;
  paid = omega arith;
  functions = λ k lt. function_at_left s.functions (f ∷ []) k lt;
  no_function_lost = omega (arith, length-append s.functions (f ∷ []));
  reads = no_more s.reads;
}
step_onward s t (written_to n k c le base kind) = record {
  steps = omega arith;
  space = omega arith;
  base = refl;
  frozen = λ j lt inside. get_or-set_other s.cells k j c (array []) (λ e. absurd (omega (arith, lt, e, base)));
  kinds = λ j lt. kind_at s.cells k c kind j;
  cells = omega (arith, length-set s.cells k c);
  paid = omega (arith, length-set s.cells k c);
  functions = λ j lt. refl;
  no_function_lost = omega arith;
  reads = no_more s.reads;
}

-- ---- outcomes

here : {A : Type 0} (a : A) (s : State) → GoesOnward s (gives a s)
here a s = stays s

stops : (A : Type 0) (l : Place) (k : DiagKind) (t : List ℕ) (s : State) → GoesOnward {A = A} s (faults l k t s.reads)
stops A l k t s = no_more s.reads

pub goes_on : {A : Type 0} (s t : State) (x : Outcome A) → IsOnward s t → GoesOnward t x → GoesOnward s x
goes_on s t (gives a u) h k = onward_on s t u h k
goes_on s t (faults l j d rs) h k = reads_on s.reads t.reads rs h.reads k
goes_on s t (blocked r rs) h k = reads_on s.reads t.reads rs h.reads k

pub binds : {A B : Type 0} (s : State) (x : Outcome A) (f : A → State → Outcome B) → GoesOnward s x → ((a : A) (s1 : State) → GoesOnward s1 (f a s1)) → GoesOnward s (x >>= f)
binds s (gives a t) f h k = goes_on s t (f a t) h (k a t)
binds s (faults l j t rs) f h k = h
binds s (blocked r rs) f h k = h

steps : {A : Type 0} (s t : State) (x : Outcome A) → IsStep s t → GoesOnward t x → GoesOnward s x
steps s t x m h = goes_on s t x (step_onward s t m) h

-- ---- reads

read_onward : (s : State) (r : Read) → IsOnward s (with_read r s)
read_onward s r = same_store s _ refl refl refl (r ∷ [], refl) (omega arith) (omega arith)

pub loaded_onward : (l : Place) (d : Data) (s : State) → GoesOnward s (loaded l d s)
loaded_onward l d s = by (nat_lt s.space (cost d)) refl
  where
    by : (b : Bool) → nat_lt s.space (cost d) ≡ b → GoesOnward s (cond b (fault l SpaceLimit s) (done (record s { space = s.space - cost d })) >>= λ u s1. with_tree d s1)
    by true e = no_more s.reads
    by false e =
        let le : cost d ≤ s.space = grind (arith, nat_tests) in
        added_cells s _ (load d (0 + length s.cells)).cells refl refl refl (no_more s.reads) refl (omega arith) (omega (arith, le, cells_within d (0 + length s.cells)))

seen_onward : (l : Place) (r : Read) (o : Sight) (s : State) → GoesOnward s (seen l r o s)
seen_onward l r (shown d) s = goes_on s (with_read r s) (loaded l d (with_read r s)) (read_onward s r) (loaded_onward l d (with_read r s))
seen_onward l r absent s = read_onward s r
seen_onward l r undecided s = no_more s.reads

read_goes : (view : View) (l : Place) (r : Read) (s : State) → GoesOnward s (read view l r s)
unfolding read
read_goes view l r s = seen_onward l r (sight view r) s

-- ---- all of it

pub rule : (view : View) → IsRule view view
rule view = record {
  P = λ s x y. GoesOnward s x;
  here = λ a s. here a s;
  stops = λ A l k t s. stops A l k t s;
  binds = λ s x y f g h k. binds s x f h k;
  steps = λ s t x y m h. steps s t x m h;
  hosts = λ l n s. read_goes view l (host n) s;
  services = λ l h n s. read_goes view l (service h n) s;
}

parts : (view : View) (depth : ℕ) → AreEvery view view.objects view.absent view.whole (rule view) (evaluated view depth) (evaluated view depth)
parts view depth = every view view.objects view.absent view.whole (rule view) depth

pub value_onward : (view : View) (depth : ℕ) (e : Expression) (s : State) → GoesOnward s (value_of view depth e s)
unfolding P rule
value_onward view depth e s = (parts view depth).value e s

pub flow_onward : (view : View) (depth : ℕ) (x : Statement) (s : State) → GoesOnward s ((evaluated view depth).flow x s)
unfolding P rule
flow_onward view depth x s = (parts view depth).flow x s

pub inside_onward : (view : View) (depth : ℕ) (e : Expression) (s : State) → GoesOnward s (expression_with view (evaluated view depth) e s)
unfolding P rule
inside_onward view depth e s = every_expression_at view view.objects view.absent view.whole (rule view) depth e s

pub block_onward : (view : View) (depth : ℕ) (b : Statements) (s : State) → GoesOnward s (block_with (evaluated view depth) b s)
unfolding P rule
block_onward view depth b s = every_body view view.objects view.absent view.whole (rule view) depth b s

pub body_onward : (view : View) (depth : ℕ) (b : Statements) (s : State) → GoesOnward s (body_of view depth b s)
unfolding P rule
body_onward view depth b s = every_result view view.objects view.absent view.whole (rule view) depth b s
