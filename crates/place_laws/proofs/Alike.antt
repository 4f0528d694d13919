-- What differs in places alone comes to the same: both come to what the syntax without its places does.
use Rattle.std.proofs.Common.{◌≡◌, ◌⊎◌, inl, inr, ℕ, List, map, false, refl, sym, ap, ◌∙◌, subst}
use Rattle.site_base.specs.declared.diag_kind.DiagKind.{DiagKind}
use Rattle.site_base.specs.declared.diag_kind.DiagKind.TheVariants.{Duplicate}
use Rattle.dsl_syntax.specs.Syntax.{Expression, Statements}
use Rattle.dsl_value.specs.declared.value.Value.{Value}
use Rattle.eval_meaning.specs.Registered.{PlainFile}
use Rattle.eval_meaning.specs.Views.{View}
use Rattle.eval_meaning.specs.States.{State, Outcome, gives, faults, blocked}
use Rattle.eval_meaning.specs.Registration.{is_load}
use Rattle.eval_meaning.specs.Evaluation.{value_of, body_of}
use Rattle.eval_meaning.specs.Load.{load_run, loaded}
use Rattle.place_laws.specs.MovedSyntax.{moved_expression, moved_statements}
use Rattle.place_laws.specs.MovedStates.{moved_file, moved_view, moved_state, moved_loaded}
use Rattle.place_laws.specs.MovedOutcomes.{moved_outcome, IsMoved}
use Rattle.place_laws.specs.Alike.{nowhere, in_file, AlikeExpressions, AlikeStatements, AlikeViews, AlikeStates, AlikeOutcomes, AlikeFiles, AlikeLoads}
use Rattle.place_laws.proofs.Lookups as lookups
use Rattle.place_laws.proofs.Moved.{value_moved, body_moved, load_moved, loaded_moved}

-- ---- items and rules

outcomes_alike : {A : Type 0} (x y : Outcome A) → moved_outcome nowhere x ≡ moved_outcome nowhere y → AlikeOutcomes x y
outcomes_alike (gives a s) (gives b t) e = (cc, cc)
outcomes_alike (gives a s) (faults l k t rs) e = cc
outcomes_alike (gives a s) (blocked r rs) e = cc
outcomes_alike (faults l k t rs) (gives b s) e = cc
outcomes_alike (faults l k t rs) (faults m j u qs) e = (cc, cc, cc)
outcomes_alike (faults l k t rs) (blocked q qs) e = cc
outcomes_alike (blocked r rs) (gives b s) e = cc
outcomes_alike (blocked r rs) (faults l k t qs) e = cc
outcomes_alike (blocked r rs) (blocked q qs) e = (cc, cc)

no_load_either : (s t : State) → AlikeStates s t → is_load s.task ≡ false → is_load t.task ≡ false
no_load_either s t e h = sym (lookups.load_moved nowhere t.task) ∙ ap (λ u. is_load u.task) (sym e) ∙ lookups.load_moved nowhere s.task ∙ h

pub values_alike : (view world : View) → AlikeViews view world → (depth : ℕ) (e f : Expression) → AlikeExpressions e f → (s t : State) → AlikeStates s t → is_load s.task ≡ false → AlikeOutcomes (value_of view depth e s) (value_of world depth f t)
values_alike view world same_view depth e f same_syntax s t same_state h =
    outcomes_alike (value_of view depth e s) (value_of world depth f t)
    (sym (value_moved nowhere view depth e s h)
    ∙ ap (λ v. value_of v depth (moved_expression nowhere e) (moved_state nowhere s)) same_view
    ∙ ap (λ x. value_of (moved_view nowhere world) depth x (moved_state nowhere s)) same_syntax
    ∙ ap (λ u. value_of (moved_view nowhere world) depth (moved_expression nowhere f) u) same_state
    ∙ value_moved nowhere world depth f t (no_load_either s t same_state h))

pub bodies_alike : (view world : View) → AlikeViews view world → (depth : ℕ) (b c : Statements) → AlikeStatements b c → (s t : State) → AlikeStates s t → is_load s.task ≡ false → AlikeOutcomes (body_of view depth b s) (body_of world depth c t)
bodies_alike view world same_view depth b c same_syntax s t same_state h =
    outcomes_alike (body_of view depth b s) (body_of world depth c t)
    (sym (body_moved nowhere view depth b s h)
    ∙ ap (λ v. body_of v depth (moved_statements nowhere b) (moved_state nowhere s)) same_view
    ∙ ap (λ x. body_of (moved_view nowhere world) depth x (moved_state nowhere s)) same_syntax
    ∙ ap (λ u. body_of (moved_view nowhere world) depth (moved_statements nowhere c) u) same_state
    ∙ body_moved nowhere world depth c t (no_load_either s t same_state h))

-- ---- loads

loaded_alike : (s t : State) → moved_state in_file s ≡ moved_state in_file t → moved_loaded in_file (loaded s) ≡ moved_loaded in_file (loaded t)
loaded_alike s t e = sym (loaded_moved in_file s) ∙ ap loaded e ∙ loaded_moved in_file t

texts_alike : (k j : DiagKind) (t u v : List ℕ) → k ≡ j → (v ≡ t) ⊎ (k ≡ Duplicate) → (v ≡ u) ⊎ (j ≡ Duplicate) → (t ≡ u) ⊎ (k ≡ Duplicate)
texts_alike k j t u v e (inl a) (inl b) = inl (sym a ∙ b)
texts_alike k j t u v e (inr a) b = inr a
texts_alike k j t u v e (inl a) (inr b) = inr (e ∙ b)

loads_both : (x y z : Outcome Value) → IsMoved in_file x z → IsMoved in_file y z → AlikeLoads x y
loads_both (gives v s) (gives w t) z h k = loaded_alike s t cc
loads_both (gives v s) (faults l k t rs) z h e = cc
loads_both (gives v s) (blocked r rs) z h e = cc
loads_both (faults l k t rs) (gives v s) z h e = cc
loads_both (faults l k t rs) (faults m j u qs) z h e =
    let same = sym h.1 ∙ e.1 in
    (cc, cc, texts_alike k j t u h.0 (cc) h.2 (subst (λ v. (v ≡ u) ⊎ (j ≡ Duplicate)) (cc) e.2))
loads_both (faults l k t rs) (blocked q qs) z h e = cc
loads_both (blocked r rs) (gives v s) z h e = cc
loads_both (blocked r rs) (faults l k t qs) z h e = cc
loads_both (blocked r rs) (blocked q qs) z h e = cc

pub loads_alike : (files others : List PlainFile) → AlikeFiles files others → (order : List ℕ) → AlikeLoads (load_run files order) (load_run others order)
loads_alike files others same order =
    loads_both (load_run files order) (load_run others order) (load_run (map (moved_file in_file) files) order)
    (load_moved in_file files (λ l. refl) order)
    (subst (λ fs. IsMoved in_file (load_run others order) (load_run fs order)) (sym same) (load_moved in_file others (λ l. refl) order))
