-- One turn of the loops.
use Rattle.std.proofs.Common.{◌≡◌, ℕ, suc, Bool, true, false, cond, Option, Some, Err, refl, ◌+◌, List, [], ◌∷◌, ◌++◌, drop, sym, subst, ap, ◌∙◌}
use Rattle.std.specs.Bool.{beq}
use Rattle.site_base.specs.declared.place.Place.{Place}
use Rattle.dsl_syntax.specs.Syntax.{Expression, MaybeExpression, Statements}
use Rattle.dsl_syntax.specs.SyntaxView.{expr_view, exprs_view, entries_view, uses_view, arms_view, stmts_view, steps_view, step_view, step_then, maybe_expr_view}
use Rattle.dsl_syntax.specs.declared.arm.Arm.{Arm}
use Rattle.dsl_syntax.specs.declared.expr.Expr.{Expr}
use Rattle.dsl_syntax.specs.declared.expr_kind.ExprKind.TheBlock.{Step::Member, Step::Index'}
use Rattle.dsl_syntax.specs.declared.expr_kind.ExprKind.TheViews.{out-Use, out-Arm}
use Rattle.dsl_syntax.specs.declared.step.Step.{Step}
use Rattle.dsl_syntax.specs.declared.stmt.Stmt.{Stmt}
use Rattle.dsl_syntax.specs.declared.used.Use.{Use}
use Rattle.dsl_syntax.proofs.SyntaxLists.{exprs_turn, entries_turn, uses_turn, steps_turn, arms_turn}
use Rattle.dsl_value.specs.Pairs.{Pairs, put}
use Rattle.dsl_value.specs.declared.value.Value.{Value}
use Rattle.dsl_value.specs.declared.value.Value.TheVariants as value
use Rattle.eval_meaning.specs.Views.{View}
use Rattle.eval_meaning.specs.States.{State, Outcome, gives, faults, blocked, ◌>>=◌}
use Rattle.eval_meaning.specs.Parts.{Parts}
use Rattle.eval_meaning.specs.Operators.{holds}
use Rattle.eval_meaning.specs.Literals.{values_with, pairs_with}
use Rattle.eval_meaning.specs.Functions.{captured_with, used_with, apply_with}
use Rattle.eval_meaning.specs.Targets.{keys_with}
use Rattle.eval_meaning.specs.Visits.{mapped, filtered, found}
use Rattle.eval_meaning.specs.Flow.{block_with, arms_with, turn_with, turns_with, around, loop_end}
use Rattle.eval_meaning.specs.Files.{files_with, file_with}
use Rattle.eval_meaning.specs.Registration.{loading}
use Rattle.eval_meaning.specs.declared.flow.Flow.{Flow}
use Rattle.eval_meaning.specs.declared.flow.Flow.TheVariants as flows
use Rattle.eval_work.specs.Works.{Gives}
use Rattle.eval_work.specs.declared.stop.Stop.{Stop}
use Rattle.name_work.proofs.Handing.{err_then}
use Rattle.eval_steps.specs.Values.{maybe_value, or_named, key_with}
use Rattle.eval_steps.specs.Visiting.{with_item}
use Rattle.eval_steps.specs.Loops.{for_turns, turn_set}
use Rattle.eval_steps.specs.declared.loops.Turn.{Turn}
use Rattle.std.specs.Prelude.{slice_get, unwrap_or, not}
use Rattle.dsl_syntax.specs.Syntax.{Expressions, Entries, Uses, MaybeLoop, loop}
use Rattle.dsl_syntax.specs.SyntaxView.{func_view}
use Rattle.dsl_syntax.specs.declared.func.Func.{Func}
use Rattle.dsl_syntax.specs.declared.expr_kind.ExprKind.TheViews.{out-Func}
use Rattle.dsl_syntax.proofs.SyntaxRows.{func_fields}
use Rattle.dsl_value.specs.PlainStores.{Closure}
use Rattle.eval_meaning.specs.Registered.{PlacedName}
use Rattle.eval_meaning.specs.States.{with_function}
use Rattle.eval_meaning.specs.Parts.{place_of}
use Rattle.eval_meaning.specs.Literals.{array_with, dict_with, new_array, new_dict}
use Rattle.eval_meaning.specs.Frames.{in_frame}
use Rattle.eval_meaning.specs.Functions.{function_with}
use Rattle.eval_meaning.specs.Flow.{for_with, for_each}
use Rattle.eval_meaning.specs.Registration.{at_load, apply_rule_with, prefix_with, rule_registered}
use Rattle.eval_meaning.specs.Templates.{in_item, import_with, imported_by}
use Rattle.eval_meaning.specs.Files.{with_order, include_with, include_by, run_file}
use Rattle.load_work.specs.Imports.{PlainImported, found_by}
use Rattle.load_work.specs.Orders.{next_number, order_after, around_order, Begins}
use Rattle.load_work.specs.declared.order.Around.{Around}
use Rattle.eval_steps.specs.Frames.{in_import, statements_in}
use Rattle.eval_steps.specs.Visiting.{visit_with}
use Rattle.eval_steps.specs.Loops.{turns_of}
use Rattle.eval_steps.specs.declared.visits.Method.{Method}
use Rattle.eval_steps.specs.declared.visits.Method.TheVariants as methods
use Rattle.eval_steps.proofs.Same.{used_same, each_same, import_same, include_same, file_same}

-- what stands in a list at an index, and behind it
pub at_turn : {A : Type 0} (xs : List A) (i : ℕ) (x y : A) → drop i xs ≡ x ∷ drop (i + 1) xs → y ≡ x → drop i xs ≡ y ∷ drop (i + 1) xs
at_turn xs i x y e h = e ∙ ap (λ z. z ∷ drop (i + 1) xs) (sym h)

-- after a turn, what is left gives what all gives
pub turned : {A B : Type 0} (here all : Outcome A) (o : Outcome B) (next : B → State → Outcome A) (b : B) (s : State) → here ≡ (o >>= next) → o ≡ gives b s → here ≡ all → next b s ≡ all
turned here all o next b s turn goes before = sym (turn ∙ ap (λ p. p >>= next) goes) ∙ before

-- a turn that ends early ends all
pub stopped : {X Y A B : Type 0} (view : X → B) (last : Y → A) (here all : Outcome A) (o : Outcome B) (next : B → State → Outcome A) (new : State) (x : Stop) → here ≡ (o >>= next) → here ≡ all → Gives {X = X} {Y = B} view (Err x) new o → Gives {X = Y} {Y = A} last (Err x) new all
stopped view last here all o next new x turn before h = subst (λ p. Gives {X = _} {Y = _} last (Err x) new p) (sym turn ∙ before) (err_then view last next o new x h)

-- ---- lists of syntax

pub values_turn : (ev : Parts) (es : List Expr) (i : ℕ) (e : Expr) (vs : List Value) (s : State) → drop i es ≡ e ∷ drop (i + 1) es → values_with ev (exprs_view (drop i es)) vs s ≡ (ev.value (expr_view e) s >>= λ v s1. values_with ev (exprs_view (drop (i + 1) es)) (vs ++ v ∷ []) s1)
values_turn ev es i e vs s here = ap (λ l. values_with ev l vs s) (exprs_turn es i e here)

pub pairs_turn : (ev : Parts) (es : List (List ℕ × Expr)) (i : ℕ) (p : List ℕ × Expr) (vs : Pairs) (s : State) → drop i es ≡ p ∷ drop (i + 1) es → pairs_with ev (entries_view (drop i es)) vs s ≡ (ev.value (expr_view p.1) s >>= λ v s1. pairs_with ev (entries_view (drop (i + 1) es)) (vs ++ (p.0, v) ∷ []) s1)
pairs_turn ev es i q vs s here = ap (λ l. pairs_with ev l vs s) (entries_turn es i q here)

pub captured_turn : (ev : Parts) (l : Place) (us : List Use) (i : ℕ) (u : Use) (ps : Pairs) (s : State) → drop i us ≡ u ∷ drop (i + 1) us → captured_with ev l (uses_view (drop i us)) ps s ≡ (used_with ev l (out-Use u).name (maybe_expr_view (out-Use u).expr) s >>= λ v s1. captured_with ev l (uses_view (drop (i + 1) us)) (put (out-Use u).name v ps) s1)
captured_turn ev l us i u ps s here = ap (λ x. captured_with ev l x ps s) (uses_turn us i u here)

key_turn_of : (ev : Parts) (t : Step) (more : List Step) (ks : List Value) (s : State) → keys_with ev (step_then t (steps_view more)) ks s ≡ (key_with ev (step_view t) s >>= λ k s1. keys_with ev (steps_view more) (ks ++ k ∷ []) s1)
key_turn_of ev (Step::Member n) more ks s = refl
key_turn_of ev (Step::Index' l k) more ks s = refl

pub keys_turn : (ev : Parts) (ss : List Step) (i : ℕ) (t : Step) (ks : List Value) (s : State) → drop i ss ≡ t ∷ drop (i + 1) ss → keys_with ev (steps_view (drop i ss)) ks s ≡ (key_with ev (step_view t) s >>= λ k s1. keys_with ev (steps_view (drop (i + 1) ss)) (ks ++ k ∷ []) s1)
keys_turn ev ss i t ks s here = ap (λ x. keys_with ev x ks s) (steps_turn ss i t here) ∙ key_turn_of ev t (drop (i + 1) ss) ks s

-- the arms that are left, once the condition of one is evaluated
abbrev pub arm_next : Parts → List Arm → ℕ → Arm → Statements → Value → State → Outcome Flow
arm_next ev arms i a other v s1 = cond (holds s1 v) (block_with ev (stmts_view (out-Arm a).block.items) s1) (arms_with ev (arms_view (drop (i + 1) arms)) other s1)

truth_then : {A : Type 0} (o : Outcome Value) (next : Bool → State → Outcome A) → ((o >>= λ v s1. gives (holds s1 v) s1) >>= next) ≡ (o >>= λ v s1. next (holds s1 v) s1)
truth_then (gives v s) next = refl
truth_then (faults l k t rs) next = refl
truth_then (blocked r rs) next = refl

pub arm_turn : (ev : Parts) (arms : List Arm) (i : ℕ) (a : Arm) (other : Statements) (s : State) → drop i arms ≡ a ∷ drop (i + 1) arms → arms_with ev (arms_view (drop i arms)) other s ≡ (ev.value (expr_view (out-Arm a).cond) s >>= arm_next ev arms i a other)
arm_turn ev arms i a other s here =
    ap (λ x. arms_with ev x other s) (arms_turn arms i a here)
    ∙ truth_then (ev.value (expr_view (out-Arm a).cond) s) (λ t s1. cond t (block_with ev (stmts_view (out-Arm a).block.items) s1) (arms_with ev (arms_view (drop (i + 1) arms)) other s1))

-- ---- what a name captures

pub used_gives : (ev : Parts) (l : Place) (n : List ℕ) (o : MaybeExpression) (s s1 s2 : State) (w : Option Value) (v : Value) → maybe_value ev o s ≡ gives w s1 → or_named l n w s1 ≡ gives v s2 → used_with ev l n o s ≡ gives v s2
used_gives ev l n o s s1 s2 w v e h = used_same ev l n o s ∙ ap (λ p. p >>= λ x t. or_named l n x t) e ∙ h

pub used_stops_behind : {Y : Type 0} (last : Y → Value) (ev : Parts) (l : Place) (n : List ℕ) (o : MaybeExpression) (s s1 new : State) (w : Option Value) (x : Stop) → maybe_value ev o s ≡ gives w s1 → Gives {X = Y} {Y = Value} last (Err x) new (or_named l n w s1) → Gives {X = Y} {Y = Value} last (Err x) new (used_with ev l n o s)
used_stops_behind last ev l n o s s1 new w x e h = subst (λ p. Gives {X = _} {Y = _} last (Err x) new p) (sym (used_same ev l n o s ∙ ap (λ p. p >>= λ x t. or_named l n x t) e)) h

-- ---- elements

pub mapped_turn : (ev : Parts) (l : Place) (f : Value) (xs : List Value) (i : ℕ) (x : Value) (vs : List Value) (s : State) → drop i xs ≡ x ∷ drop (i + 1) xs → mapped ev l f (drop i xs) vs s ≡ (apply_with ev l f s.this (x ∷ []) s >>= λ w s1. mapped ev l f (drop (i + 1) xs) (vs ++ w ∷ []) s1)
mapped_turn ev l f xs i x vs s here = ap (λ ys. mapped ev l f ys vs s) here

pub filtered_turn : (ev : Parts) (l : Place) (f : Value) (xs : List Value) (i : ℕ) (x : Value) (vs : List Value) (s : State) → drop i xs ≡ x ∷ drop (i + 1) xs → filtered ev l f (drop i xs) vs s ≡ (apply_with ev l f s.this (x ∷ []) s >>= λ w s1. filtered ev l f (drop (i + 1) xs) (with_item (holds s1 w) x vs) s1)
filtered_turn ev l f xs i x vs s here = ap (λ ys. filtered ev l f ys vs s) here

abbrev pub found_next : Parts → Place → Bool → Value → List Value → ℕ → Value → State → Outcome Bool
found_next ev l wanted f xs i w s1 = cond (beq (holds s1 w) wanted) (gives true s1) (found ev l wanted f (drop (i + 1) xs) s1)

-- ---- turns of loops

pub while_turn : (ev : Parts) (e : Expression) (b : Statements) (m n : ℕ) (s : State) → m ≡ suc n → turns_with ev e b m s ≡ (turn_with ev e b s >>= λ o s1. around o (turns_with ev e b n) s1)
while_turn ev e b m n s h = ap (λ k. turns_with ev e b k s) h

pub for_turn : (ev : Parts) (k : List ℕ) (n : Option (List ℕ)) (b : Statements) (ts rest : List Turn) (t : Turn) (s s1 : State) → ts ≡ t ∷ rest → s1 ≡ turn_set k n t s → for_turns ev k n b ts s ≡ (block_with ev b s1 >>= λ f s2. around (loop_end f) (for_turns ev k n b rest) s2)
for_turn ev k n b ts rest t s s1 e h = ap (λ x. for_turns ev k n b x s) e ∙ ap (λ s0. block_with ev b s0 >>= λ f s2. around (loop_end f) (for_turns ev k n b rest) s2) (sym h)

pub files_turn : (view : View) (ev : Parts) (m n : ℕ) (s : State) → m ≡ suc n → files_with view ev m s ≡ (file_with view ev (loading s).order s >>= λ _ s1. files_with view ev n s1)
files_turn view ev m n s h = ap (λ k. files_with view ev k s) h

-- ---- one kind after another

pub array_turn : (ev : Parts) (l : Place) (es : Expressions) (s : State) → array_with ev l es s ≡ (values_with ev es [] s >>= λ vs s1. new_array l vs s1)
array_turn ev l es s = refl

pub dict_turn : (ev : Parts) (l : Place) (es : Entries) (s : State) → dict_with ev l es s ≡ (pairs_with ev es [] s >>= λ ps s1. new_dict l ps s1)
dict_turn ev l es s = refl

abbrev pub closure_of : Func → Pairs → Closure
closure_of f c = record { func = func_view f; captured = c }

pub function_turn : (ev : Parts) (l : Place) (f : Func) (s : State) → function_with ev l (func_view f) s ≡ (captured_with ev l (uses_view (out-Func f).uses.items) [] s >>= λ c s1. with_function (closure_of f c) s1)
function_turn ev l f s = rw (func_fields f) refl

pub arm_taken : (ev : Parts) (arms : List Arm) (i : ℕ) (a : Arm) (other : Statements) (v : Value) (s1 : State) (t : Bool) (b : List Stmt) → t ≡ holds s1 v → t ≡ true → b ≡ (out-Arm a).block.items → arm_next ev arms i a other v s1 ≡ block_with ev (stmts_view b) s1
arm_taken ev arms i a other v s1 t b e h is = rw (← e, h, is) refl

pub arm_left : (ev : Parts) (arms : List Arm) (i : ℕ) (a : Arm) (other : Statements) (v : Value) (s1 : State) (t : Bool) → t ≡ holds s1 v → t ≡ false → arm_next ev arms i a other v s1 ≡ arms_with ev (arms_view (drop (i + 1) arms)) other s1
arm_left ev arms i a other v s1 t e h = rw (← e, h) refl

-- ---- methods

pub map_turn : (ev : Parts) (l : Place) (k : Method) (f g : Value) (vs ws : List Value) (s : State) → k ≡ methods.Map → f ≡ g → vs ≡ ws → visit_with ev l k f vs s ≡ (mapped ev l g ws [] s >>= λ xs s1. new_array l xs s1)
map_turn ev l k f g vs ws s e h i = rw (e, h, i) refl

pub filter_turn : (ev : Parts) (l : Place) (k : Method) (f g : Value) (vs ws : List Value) (s : State) → k ≡ methods.Filter → f ≡ g → vs ≡ ws → visit_with ev l k f vs s ≡ (filtered ev l g ws [] s >>= λ xs s1. new_array l xs s1)
filter_turn ev l k f g vs ws s e h i = rw (e, h, i) refl

pub any_turn : (ev : Parts) (l : Place) (k : Method) (f g : Value) (vs ws : List Value) (s : State) → k ≡ methods.Any → f ≡ g → vs ≡ ws → visit_with ev l k f vs s ≡ (found ev l true g ws s >>= λ b s1. gives (value.Bool b) s1)
any_turn ev l k f g vs ws s e h i = rw (e, h, i) refl

pub all_turn : (ev : Parts) (l : Place) (k : Method) (f g : Value) (vs ws : List Value) (s : State) → k ≡ methods.All → f ≡ g → vs ≡ ws → visit_with ev l k f vs s ≡ (found ev l false g ws s >>= λ b s1. gives (value.Bool (not b)) s1)
all_turn ev l k f g vs ws s e h i = rw (e, h, i) refl

-- ---- a `for`

pub for_start : (ev : Parts) (k : List ℕ) (n : Option (List ℕ)) (e : Expression) (b : Statements) (s s1 : State) (v : Value) → ev.value e s ≡ gives v s1 → for_with ev (loop k n e) b s ≡ (turns_of (place_of e) n v s1 >>= λ ts s2. for_turns ev k n b ts s2)
for_start ev k n e b s s1 v h = ap (λ p. p >>= λ x t. for_each ev (place_of e) k n b x t) h ∙ each_same ev (place_of e) k n b v s1

-- ---- rules

abbrev pub rule_next : Parts → Place → List ℕ → Option (List ℕ) → MaybeLoop → Uses → Statements → Option PlacedName → State → Outcome Flow
rule_next ev l kind to each us b n s = captured_with ev l us [] s >>= λ ps s1. rule_registered l kind n to each ps b s1

pub rule_start : (ev : Parts) (l : Place) (kind : List ℕ) (e : MaybeExpression) (to : Option (List ℕ)) (each : MaybeLoop) (us : Uses) (b : Statements) (s : State) → at_load l s ≡ gives tt s → apply_rule_with ev l kind e to each us b s ≡ (prefix_with ev e s >>= rule_next ev l kind to each us b)
rule_start ev l kind e to each us b s h = ap (λ p. p >>= λ _ t. (prefix_with ev e t >>= rule_next ev l kind to each us b)) h

pub rule_turn : (ev : Parts) (l : Place) (kind : List ℕ) (to : Option (List ℕ)) (each : MaybeLoop) (us : Uses) (b : Statements) (n : Option PlacedName) (s : State) → rule_next ev l kind to each us b n s ≡ (captured_with ev l us [] s >>= λ ps s1. rule_registered l kind n to each ps b s1)
rule_turn ev l kind to each us b n s = refl

-- ---- templates and files

pub import_start : (view : View) (ev : Parts) (l : Place) (e : Expression) (v : Value) (s s1 : State) → in_item l s ≡ gives tt s → ev.value e s ≡ gives v s1 → import_with view ev l e s ≡ (found_by view l v s1.task s1 >>= in_import ev)
import_start view ev l e v s s1 h g =
    ap (λ p. p >>= λ _ t. (ev.value e t >>= λ x t1. imported_by view ev l x t1.task t1)) h
    ∙ ap (λ p. p >>= λ x t. imported_by view ev l x t.task t) g
    ∙ import_same view ev l v s1.task s1

pub import_turn : (ev : Parts) (p : PlainImported) (s : State) → in_import ev p s ≡ (in_frame s.this p.locals false (block_with ev p.body) s >>= λ _ s1. gives flows.On s1)
import_turn ev p s = refl

pub include_start : (view : View) (ev : Parts) (l : Place) (s : State) → at_load l s ≡ gives tt s → include_with view ev l s ≡ files_with view ev (unwrap_or (next_number (loading s).order) 0) (with_order (order_after (loading s).order) s)
include_start view ev l s h = ap (λ p. p >>= λ _ t. include_by view ev (loading t).order t) h ∙ include_same view ev s

abbrev pub file_end : Around → Value → State → Outcome Value
file_end a v s = gives v (with_order (around_order a) s)

file_begun : (view : View) (ev : Parts) (order : List ℕ) (s s1 : State) (k : ℕ) (a : Around) → Begins order s s1 (Some (k, a)) → file_with view ev order s ≡ (run_file ev (slice_get view.files k) s1 >>= file_end a)
file_begun view ev [] s s1 k a h = absurd h
file_begun view ev (j ∷ []) s s1 k a h = absurd h
file_begun view ev (j ∷ n ∷ order) s s1 k a h = rw (h.0, ← h.1, h.2) refl

pub file_turn : (view : View) (ev : Parts) (order : List ℕ) (s s1 : State) (k : ℕ) (a : Around) → Begins order s s1 (Some (k, a)) → file_with view ev order s ≡ (in_frame (value.Ref 0) [] true (block_with ev (statements_in (slice_get view.files k))) s1 >>= file_end a)
file_turn view ev order s s1 k a h = file_begun view ev order s s1 k a h ∙ ap (λ p. p >>= file_end a) (file_same ev (slice_get view.files k) s1)
