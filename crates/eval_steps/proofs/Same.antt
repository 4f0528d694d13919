-- What the code does in one function is what the definition says in several.
use Rattle.std.proofs.Common.{◌≡◌, ℕ, Bool, true, false, cond, nat_eq, List, [], ◌∷◌, length, map, Option, Some, None, refl, sym, ap, ◌∙◌}
use Rattle.std.specs.Prelude.{slice_get, unwrap_or}
use Rattle.std.specs.Borrow.{Bor}
use Rattle.site_base.specs.declared.place.Place.{Place}
use Rattle.site_base.specs.declared.diag_kind.DiagKind.TheVariants.{Arity}
use Rattle.dsl_syntax.specs.Syntax.{Expression, MaybeExpression, no_expression, some_expression, Statements, Uses, Function, function}
use Rattle.dsl_value.specs.Pairs.{Pairs}
use Rattle.dsl_value.specs.Contents.{PlainCell, array, dict, cell_at}
use Rattle.dsl_value.specs.PlainStores.{Closure}
use Rattle.dsl_value.specs.declared.value.Value.{Value}
use Rattle.dsl_value.specs.declared.value.Value.TheVariants as value
use Rattle.eval_meaning.specs.Registered.{PlainFile, PlainTemplate}
use Rattle.eval_meaning.specs.Views.{View, template_in}
use Rattle.eval_meaning.specs.States.{State, Outcome, gives, fault, ◌>>=◌, Task, load, item, rule}
use Rattle.eval_meaning.specs.Parts.{Parts, place_of}
use Rattle.eval_meaning.specs.Frames.{in_frame, first_locals, set_local}
use Rattle.eval_meaning.specs.Flow.{block_with, for_values, for_pairs, for_cell, for_each, around, loop_end}
use Rattle.eval_meaning.specs.Functions.{used_with, apply_with, run_function, run_closure, bound}
use Rattle.eval_meaning.specs.Visits.{visits_by}
use Rattle.eval_meaning.specs.Templates.{imported_by, run_template}
use Rattle.eval_meaning.specs.Files.{run_file, files_with, include_by, with_order}
use Rattle.eval_meaning.specs.Registration.{const_with, at_load, object_with, template_with, prefix_with, loading, loading_of, changed, name_by}
use Rattle.eval_meaning.specs.declared.flow.Flow.{Flow}
use Rattle.eval_meaning.specs.declared.flow.Flow.TheVariants.{On}
use Rattle.load_work.specs.Imports.{found_template, found_by}
use Rattle.load_work.specs.Orders.{next_number, order_after}
use Rattle.eval_steps.specs.Values.{maybe_value, or_named}
use Rattle.eval_steps.specs.Frames.{prepared_by, closure_frame, frame_of, statements_in, in_call, in_import}
use Rattle.load_work.specs.Imports.{PlainImported}
use Rattle.eval_steps.specs.Visiting.{visited_by, visit_over}
use Rattle.eval_steps.specs.Finishing.{valued_with, finished}
use Rattle.eval_steps.specs.Loops.{for_turns, turns_of, turns_of_cell, element_turn, pair_turn}
use Rattle.eval_steps.specs.Registering.{named_with, prefix_of}
use Rattle.eval_steps.specs.declared.finishing.Then.TheVariants as thens
use Rattle.eval_steps.specs.declared.registering.Sort.TheVariants as sorts
use Rattle.eval_steps.proofs.Chains.{one_after, same_after, same_end}

-- ---- operators

-- ---- captures

pub used_same : (ev : Parts) (l : Place) (n : List ℕ) (o : MaybeExpression) (s : State) → used_with ev l n o s ≡ (maybe_value ev o s >>= λ v s1. or_named l n v s1)
used_same ev l n no_expression s = refl
used_same ev l n (some_expression e) s = sym (one_after (ev.value e s) (λ v s1. gives (Some v) s1) (λ v s1. or_named l n v s1) ∙ same_end (ev.value e s))

-- ---- calls

function_same : (ev : Parts) (l : Place) (f : Function) (captured : Pairs) (this : Value) (vs : List Value) (s : State) → run_function ev l f captured this vs s ≡ (frame_of l f captured vs s >>= in_call ev this)
function_same ev l (function ps us b) captured this vs s = by (nat_eq (length ps) (length vs))
  where
    frame : PlainImported
    frame = record { body = b; locals = first_locals captured (bound ps vs) }

    by : (t : Bool) → cond t (in_frame this (first_locals captured (bound ps vs)) false (block_with ev b) s) (fault l Arity s) ≡ (cond t (gives frame s) (fault l Arity s) >>= in_call ev this)
    by true = refl
    by false = refl

closure_same : (ev : Parts) (l : Place) (o : Option Closure) (this : Value) (vs : List Value) (s : State) → run_closure ev l o this vs s ≡ (closure_frame l o vs s >>= in_call ev this)
closure_same ev l None this vs s = refl
closure_same ev l (Some f) this vs s = function_same ev l f.func f.captured this vs s

pub apply_same : (ev : Parts) (l : Place) (v this : Value) (vs : List Value) (s : State) → apply_with ev l v this vs s ≡ (prepared_by l v vs s >>= in_call ev this)
apply_same ev l value.Null this vs s = refl
apply_same ev l (value.Bool b) this vs s = refl
apply_same ev l (value.Number n) this vs s = refl
apply_same ev l (value.Str t) this vs s = refl
apply_same ev l (value.Ref k) this vs s = refl
apply_same ev l (value.Func k) this vs s = closure_same ev l (slice_get s.functions k) this vs s

pub visits_same : (visit : Value → List Value → State → Outcome Value) (l : Place) (vs : List Value) (s : State) → visits_by visit l vs s ≡ (visited_by l vs s >>= visit_over visit)
visits_same visit l [] s = refl
visits_same visit l (a ∷ []) s = refl
visits_same visit l (a ∷ value.Null ∷ []) s = refl
visits_same visit l (a ∷ value.Bool b ∷ []) s = refl
visits_same visit l (a ∷ value.Number n ∷ []) s = refl
visits_same visit l (a ∷ value.Str t ∷ []) s = refl
visits_same visit l (a ∷ value.Ref k ∷ []) s = refl
visits_same visit l (a ∷ value.Func k ∷ []) s = refl
visits_same visit l (a ∷ value.Null ∷ w ∷ vs) s = refl
visits_same visit l (a ∷ value.Bool b ∷ w ∷ vs) s = refl
visits_same visit l (a ∷ value.Number n ∷ w ∷ vs) s = refl
visits_same visit l (a ∷ value.Str t ∷ w ∷ vs) s = refl
visits_same visit l (a ∷ value.Ref k ∷ w ∷ vs) s = refl
visits_same visit l (a ∷ value.Func k ∷ w ∷ vs) s = refl

-- ---- statements with a value

pub const_same : (ev : Parts) (l : Place) (n : Bor (List ℕ)) (e : Expression) (s : State) → const_with ev l n.now e s ≡ valued_with ev l (thens.Constant n) (some_expression e) s
const_same ev l n e s = same_after (at_load l s) _ _ (λ u s1. sym (one_after (ev.value e s1) (λ v s2. gives (Some v) s2) (λ v s2. finished l (thens.Constant n) v s2)))

-- ---- loops

around_same : (o : Option Flow) (f g : State → Outcome Flow) (s : State) → ((t : State) → f t ≡ g t) → around o f s ≡ around o g s
around_same None f g s h = h s
around_same (Some x) f g s h = refl

values_same : (ev : Parts) (k : List ℕ) (b : Statements) (vs : List Value) (s : State) → for_values ev k b vs s ≡ for_turns ev k None b (map element_turn vs) s
values_same ev k b [] s = refl
values_same ev k b (v ∷ vs) s = same_after (block_with ev b (set_local k v s)) _ _ (λ f s1. around_same (loop_end f) _ _ s1 (λ t. values_same ev k b vs t))

pairs_same : (ev : Parts) (k n : List ℕ) (b : Statements) (ps : Pairs) (s : State) → for_pairs ev k n b ps s ≡ for_turns ev k (Some n) b (map pair_turn ps) s
pairs_same ev k n b [] s = refl
pairs_same ev k n b (p ∷ ps) s = same_after (block_with ev b (set_local n p.1 (set_local k (value.Str p.0) s))) _ _ (λ f s1. around_same (loop_end f) _ _ s1 (λ t. pairs_same ev k n b ps t))

cell_same : (ev : Parts) (l : Place) (k : List ℕ) (o : Option (List ℕ)) (b : Statements) (c : PlainCell) (s : State) → for_cell ev l k o b c s ≡ (turns_of_cell l o c s >>= λ ts s1. for_turns ev k o b ts s1)
cell_same ev l k None b (array vs) s = values_same ev k b vs s
cell_same ev l k (Some n) b (array vs) s = refl
cell_same ev l k None b (dict ps) s = refl
cell_same ev l k (Some n) b (dict ps) s = pairs_same ev k n b ps s

pub each_same : (ev : Parts) (l : Place) (k : List ℕ) (o : Option (List ℕ)) (b : Statements) (v : Value) (s : State) → for_each ev l k o b v s ≡ (turns_of l o v s >>= λ ts s1. for_turns ev k o b ts s1)
each_same ev l k o b value.Null s = refl
each_same ev l k o b (value.Bool x) s = refl
each_same ev l k o b (value.Number n) s = refl
each_same ev l k o b (value.Str t) s = refl
each_same ev l k o b (value.Ref c) s = cell_same ev l k o b (cell_at s.cells c) s
each_same ev l k o b (value.Func c) s = refl

-- ---- what registers

named_same : (view : View) (ev : Parts) (l : Place) (e : Expression) (s : State) (next : List ℕ → State → Outcome Flow) → ((ev.value e s >>= λ v s1. name_by (place_of e) v s1) >>= next) ≡ (ev.value e s >>= λ v s1. (name_by (place_of e) v s1 >>= next))
named_same view ev l e s next = one_after (ev.value e s) (λ v s1. name_by (place_of e) v s1) next

pub object_same : (view : View) (ev : Parts) (l : Place) (kind : List ℕ) (e : Expression) (us : Uses) (b : Statements) (s : State) → object_with view ev l kind e us b s ≡ named_with view ev sorts.Object l kind e us b s
object_same view ev l kind e us b s = same_after (at_load l s) _ _ (λ u s1. named_same view ev l e s1 _)

pub template_same : (view : View) (ev : Parts) (l : Place) (kind : List ℕ) (e : Expression) (us : Uses) (b : Statements) (s : State) → template_with view ev l kind e us b s ≡ named_with view ev sorts.Template l kind e us b s
template_same view ev l kind e us b s = same_after (at_load l s) _ _ (λ u s1. named_same view ev l e s1 _)

pub prefix_same : (ev : Parts) (o : MaybeExpression) (s : State) → prefix_with ev o s ≡ (maybe_value ev o s >>= λ v s1. prefix_of o v s1)
prefix_same ev no_expression s = refl
prefix_same ev (some_expression e) s = sym (one_after (ev.value e s) (λ v s1. gives (Some v) s1) (λ v s1. prefix_of (some_expression e) v s1))

-- ---- templates and files

template_found : (ev : Parts) (l : Place) (n : List ℕ) (bound : Pairs) (o : Option PlainTemplate) (s : State) → run_template ev l n bound o s ≡ (found_template l n bound o s >>= in_import ev)
template_found ev l n bound None s = refl
template_found ev l n bound (Some t) s = refl

pub import_same : (view : View) (ev : Parts) (l : Place) (v : Value) (t : Task) (s : State) → imported_by view ev l v t s ≡ (found_by view l v t s >>= in_import ev)
import_same view ev l (value.Str n) (item kind bound) s = template_found ev l n bound (template_in kind n view.templates) s
import_same view ev l (value.Str n) (load m) s = refl
import_same view ev l (value.Str n) rule s = refl
import_same view ev l value.Null t s = refl
import_same view ev l (value.Bool b) t s = refl
import_same view ev l (value.Number n) t s = refl
import_same view ev l (value.Ref k) t s = refl
import_same view ev l (value.Func k) t s = refl

pub file_same : (ev : Parts) (o : Option PlainFile) (s : State) → run_file ev o s ≡ in_frame (value.Ref 0) [] true (block_with ev (statements_in o)) s
file_same ev None s = refl
file_same ev (Some f) s = refl

no_order : (t : Task) → (loading_of t).order ≡ [] → changed (λ m. record m { order = [] }) t ≡ t
no_order (load m) e = ap (λ o. load (record m { order = o })) (sym e)
no_order (item kind bound) e = refl
no_order rule e = refl

pub include_same : (view : View) (ev : Parts) (s : State) → include_by view ev (loading s).order s ≡ files_with view ev (unwrap_or (next_number (loading s).order) 0) (with_order (order_after (loading s).order) s)
include_same view ev s = by (loading s).order refl
  where
    by : (o : List ℕ) → (loading s).order ≡ o → include_by view ev o s ≡ files_with view ev (unwrap_or (next_number o) 0) (with_order (order_after o) s)
    by [] e = ap (λ t. gives On (record s { task = t })) (sym (no_order s.task e))
    by (n ∷ o) e = refl
