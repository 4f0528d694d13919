-- Where all syntax stands at other places, the same comes of it, at other places.
use Rattle.std.proofs.Common.{◌≡◌, ◌⊎◌, inl, inr, ℕ, List, length, map, true, false, cond, refl, ap, ◌∙◌, subst}
use Rattle.site_base.specs.declared.place.Place.{Place}
use Rattle.site_base.specs.declared.diag_kind.DiagKind.{DiagKind}
use Rattle.site_base.specs.declared.diag_kind.DiagKind.TheVariants.{Duplicate}
use Rattle.dsl_syntax.specs.Syntax.{Expression, Statements}
use Rattle.eval_meaning.specs.Registered.{PlainFile}
use Rattle.eval_meaning.specs.Views.{View}
use Rattle.eval_meaning.specs.States.{State, Outcome, gives, faults, blocked}
use Rattle.eval_meaning.specs.Registration.{is_load}
use Rattle.eval_meaning.specs.Evaluation.{value_of, body_of}
use Rattle.eval_meaning.specs.Load.{load_view, load_start, load_run, most_open, loaded}
use Rattle.place_laws.specs.MovedSyntax.{moved_expression, moved_statements}
use Rattle.place_laws.specs.MovedStates.{moved_closure, moved_file, moved_view, moved_state, moved_loaded}
use Rattle.place_laws.specs.MovedOutcomes.{moved_outcome, KeepsLibrary, IsMoved}
use Rattle.place_laws.proofs.Moving.{Moving, Comes, comes, same}
use Rattle.place_laws.proofs.Lookups.{loading_moved}
use Rattle.place_laws.proofs.Whole.{value_at, body_at, file_at}

module _ (move : Place → Place) (view : View) where
  -- ---- items and rules

  pub not_both : false ≡ true → ⊥
  not_both e = subst (λ b. cond b ⊥ (Unit {0})) e tt

  abbrev pub no_load : Moving
  no_load = record { move = move; view = view; in_load = false; keeps = λ e. absurd (not_both e) }

  pub same_text : (k : DiagKind) (t u : List ℕ) → (u ≡ t) ⊎ ((false ≡ true) × (k ≡ Duplicate)) → u ≡ t
  same_text k t u (inl e) = e
  same_text k t u (inr e) = absurd (not_both e.0)

  comes_same : {A : Type 0} (x y : Outcome A) → Comes no_load same x y → y ≡ moved_outcome move x
  comes_same (gives a s) y c = c.0
  comes_same (faults l k t rs) y c = c.1 ∙ ap (λ u. faults (move l) k u rs) (same_text k t c.0 c.2)
  comes_same (blocked r rs) y c = c

  pub value_moved : (depth : ℕ) (e : Expression) (s : State) → is_load s.task ≡ false → value_of (moved_view move view) depth (moved_expression move e) (moved_state move s) ≡ moved_outcome move (value_of view depth e s)
  value_moved depth e s h = comes_same (value_of view depth e s) (value_of (moved_view move view) depth (moved_expression move e) (moved_state move s)) (comes no_load same s _ _ h (value_at no_load depth e s))

  pub body_moved : (depth : ℕ) (b : Statements) (s : State) → is_load s.task ≡ false → body_of (moved_view move view) depth (moved_statements move b) (moved_state move s) ≡ moved_outcome move (body_of view depth b s)
  body_moved depth b s h = comes_same (body_of view depth b s) (body_of (moved_view move view) depth (moved_statements move b) (moved_state move s)) (comes no_load same s _ _ h (body_at no_load depth b s))

-- ---- loads

module _ (move : Place → Place) (files : List PlainFile) (keeps : KeepsLibrary move files) where
  abbrev load_of : Moving
  load_of = record { move = move; view = load_view files; in_load = true; keeps = λ e. keeps }

  other_text : (k : DiagKind) (t u : List ℕ) → (u ≡ t) ⊎ ((true ≡ true) × (k ≡ Duplicate)) → (u ≡ t) ⊎ (k ≡ Duplicate)
  other_text k t u (inl e) = inl e
  other_text k t u (inr e) = inr e.1

  comes_moved : {A : Type 0} (x y : Outcome A) → Comes load_of same x y → IsMoved move x y
  comes_moved (gives a s) y c = c.0
  comes_moved (faults l k t rs) y c = (c.0, c.1, other_text k t c.0 c.2)
  comes_moved (blocked r rs) y c = c

  pub load_moved : (order : List ℕ) → IsMoved move (load_run files order) (load_run (map (moved_file move) files) order)
  unfolding load_run
  load_moved order = comes_moved (load_run files order) (load_run (map (moved_file move) files) order) (comes load_of same (load_start order) _ _ refl (file_at load_of most_open order (load_start order)))

-- what is loaded is moved too
pub loaded_moved : (move : Place → Place) (s : State) → loaded (moved_state move s) ≡ moved_loaded move (loaded s)
loaded_moved move s = ap (λ x. record { store = record { cells = s.cells; base = length s.cells; functions = map (moved_closure move) s.functions }; templates = x.templates; items = x.items; rules = x.rules }) (loading_moved move s)
