-- A function of the store that is called.
use Rattle.std.proofs.Common.{◌≡◌, ℕ, List, [], length, true, false, nat_eq, refl, ap, ◌∙◌}
use Rattle.std.specs.Prelude.{option_map}
use Rattle.std.proofs.lemmas.Option.{slice_get-map}
use Rattle.site_base.specs.declared.place.Place.{Place}
use Rattle.site_base.specs.declared.diag_kind.DiagKind.TheVariants.{Arity}
use Rattle.dsl_syntax.specs.SyntaxView.{func_view, stmts_view}
use Rattle.dsl_syntax.specs.declared.func.Func.{Func}
use Rattle.dsl_syntax.specs.declared.expr_kind.ExprKind.TheViews.{out-Func}
use Rattle.dsl_syntax.proofs.SyntaxRows.{func_fields}
use Rattle.dsl_value.specs.PlainStores.{closure}
use Rattle.dsl_value.specs.Pairs.{Pairs}
use Rattle.dsl_value.specs.declared.value.Value.{Value}
use Rattle.dsl_value.specs.declared.value.Value.TheVariants as value
use Rattle.eval_meaning.specs.States.{State, gives, faults}
use Rattle.eval_meaning.specs.Frames.{first_locals}
use Rattle.eval_meaning.specs.Functions.{bound}
use Rattle.name_work.specs.Calling.{IsFunctionAt, captured_at}
use Rattle.load_work.specs.Imports.{PlainImported}
use Rattle.eval_work.specs.Works.{state_of}
use Rattle.eval_work.specs.declared.work.Work.{Work}
use Rattle.eval_steps.specs.Frames.{prepared_by, closure_frame, frame_of}

frame_at : (w : Work) (l : Place) (k : ℕ) (f : Func) (vs : List Value) → IsFunctionAt w.store k f → prepared_by l (value.Func k) vs (state_of w) ≡ frame_of l (func_view f) (captured_at w.store k) vs (state_of w)
frame_at w l k f vs h = ap (λ o. closure_frame l o vs (state_of w)) (slice_get-map closure w.store.functions k ∙ ap (option_map closure) h)

abbrev pub frame_made : Func → Pairs → List Value → PlainImported
frame_made f captured vs = record { body = stmts_view (out-Func f).block.items; locals = first_locals captured (bound (out-Func f).params vs) }

taken : (l : Place) (f : Func) (captured : Pairs) (vs : List Value) (s : State) → nat_eq (length (out-Func f).params) (length vs) ≡ true → frame_of l (func_view f) captured vs s ≡ gives (frame_made f captured vs) s
taken l f captured vs s h = rw (func_fields f) (rw h refl)

refused : (l : Place) (f : Func) (captured : Pairs) (vs : List Value) (s : State) → nat_eq (length (out-Func f).params) (length vs) ≡ false → frame_of l (func_view f) captured vs s ≡ faults l Arity [] s.reads
refused l f captured vs s h = rw (func_fields f) (rw h refl)

pub call_taken : (w : Work) (l : Place) (k : ℕ) (f : Func) (vs : List Value) → IsFunctionAt w.store k f → nat_eq (length (out-Func f).params) (length vs) ≡ true → prepared_by l (value.Func k) vs (state_of w) ≡ gives (frame_made f (captured_at w.store k) vs) (state_of w)
call_taken w l k f vs h e = frame_at w l k f vs h ∙ taken l f (captured_at w.store k) vs (state_of w) e

pub call_refused : (w : Work) (l : Place) (k : ℕ) (f : Func) (vs : List Value) → IsFunctionAt w.store k f → nat_eq (length (out-Func f).params) (length vs) ≡ false → prepared_by l (value.Func k) vs (state_of w) ≡ faults l Arity [] w.reads.items
call_refused w l k f vs h e = frame_at w l k f vs h ∙ refused l f (captured_at w.store k) vs (state_of w) e
