-- What begins and ends the evaluations of a commit, at other places, and the answers that are made of them.
use Rattle.std.proofs.Common.{◌≡◌, [], ◌∷◌, ◌++◌, length, false, Result, Ok, Err, refl, ap, ◌∙◌}
use Rattle.std.specs.Prelude.{◌||◌}
use Rattle.site_base.specs.Data.{Data}
use Rattle.site_base.specs.declared.item_no.ItemNo.{ItemNo}
use Rattle.site_base.specs.declared.place.Place.{Place}
use Rattle.dsl_syntax.specs.Syntax.{Expression, statement, assign, ignore, Statements, no_statements, more_statements}
use Rattle.dsl_value.specs.Pairs.{Pairs}
use Rattle.dsl_value.specs.Contents.{PlainCell}
use Rattle.dsl_value.specs.Loads.{load, grown, given}
use Rattle.dsl_value.specs.Walks.{tree_walked}
use Rattle.dsl_value.specs.declared.tree_fault.TreeFault.{TreeFault}
use Rattle.dsl_value.specs.declared.value.Value.{Value}
use Rattle.dsl_value.specs.declared.value.Value.TheVariants as value
use Rattle.eval_meaning.specs.Views.{View}
use Rattle.eval_meaning.specs.States.{State, Outcome, gives, faults, blocked, with_new}
use Rattle.eval_meaning.specs.Objects.{with_tree}
use Rattle.eval_meaning.specs.Operators.{holds}
use Rattle.eval_meaning.specs.Flow.{truth_with}
use Rattle.eval_meaning.specs.Registration.{is_load}
use Rattle.eval_meaning.specs.Evaluation.{evaluated, value_of}
use Rattle.eval_meaning.specs.Load.{most_open}
use Rattle.commit_meaning.specs.Answers as answer
use Rattle.commit_meaning.specs.Answers.{Answer, diag, answered}
use Rattle.commit_meaning.specs.Starts.{Trees, values_of, tree_by, tree_at, trees_at}
use Rattle.commit_meaning.specs.Conditions.{Verdict, judged}
use Rattle.place_laws.specs.MovedSyntax.{moved_expression, moved_statements}
use Rattle.place_laws.specs.MovedStates.{moved_view}
use Rattle.place_laws.proofs.Moving.{Moving, Comes, P, same, moved, here, stops, binds, gives_after}
use Rattle.place_laws.proofs.Moved.{no_load, same_text}
use Rattle.place_laws.proofs.Whole.{value_at}
use Rattle.commit_places.specs.MovedAnswers.{moved_answer}

module _ (move : Place → Place) (view : View) where
  abbrev pub m : Moving
  m = no_load move view

  abbrev pub world : View
  world = moved_view move view

  -- what is true of a state of an item or a rule is true of every state that was before it
  pub anew : {A : Type 0} (f : A → A) (s t : State) (x y : Outcome A) → is_load t.task ≡ false → P m f t x y → P m f s x y
  unfolding P
  anew f s t x y e c = λ h. c e

  -- ---- answers

  pub answers : {A : Type 0} (f : A → A) (n : ItemNo) (x y : Outcome A) → Comes m f x y → answered n y ≡ moved_answer move f (answered n x)
  answers f n (gives a s) y c = ap (answered n) c.0
  answers f n (faults l k t rs) y c = ap (answered n) c.1 ∙ ap (λ u. answer.diagnosed (diag n (move l) k u ∷ [])) (same_text move view k t c.0 c.2)
  answers f n (blocked r rs) y c = ap (answered n) c

  -- ---- trees and values

  tree_made : (d : Data) (s : State) → P m same s (with_tree d s) (with_tree d (moved m s))
  tree_made d s = gives_after m same (given 0 s.cells (load d)) s (record s { cells = grown 0 s.cells (load d) }) refl

  pub cell_made : (c : PlainCell) (s : State) → P m same s (with_new c s) (with_new c (moved m s))
  cell_made c s = gives_after m same (value.Ref (length s.cells)) s (record s { cells = s.cells ++ c ∷ [] }) refl

  pub values_made : (ts : Trees) (ps : Pairs) (s : State) → P m same s (values_of ts ps s) (values_of ts ps (moved m s))
  values_made [] ps s = here m same ps s
  values_made (t ∷ ts) ps s = binds m same same s (with_tree t.1 s) (with_tree t.1 (moved m s)) (λ v s1. values_of ts (ps ++ (t.0, v) ∷ []) s1) (λ v s1. values_of ts (ps ++ (t.0, v) ∷ []) s1) (tree_made t.1 s) (λ v s1. values_made ts (ps ++ (t.0, v) ∷ []) s1)

  trees_by : (l : Place) (r : Result Data TreeFault) (s : State) → P m same s (tree_by l r s) (tree_by (move l) r (moved m s))
  trees_by l (Ok d) s = here m same d s
  trees_by l (Err e) s = stops m _ same l _ _ s

  pub tree_taken : (l : Place) (v : Value) (s : State) → P m same s (tree_at l v s) (tree_at (move l) v (moved m s))
  unfolding tree_at
  tree_taken l v s = trees_by l (tree_walked s.cells v) s

  pub trees_taken : (l : Place) (ps : Pairs) (ts : Trees) (s : State) → P m same s (trees_at l ps ts s) (trees_at (move l) ps ts (moved m s))
  trees_taken l [] ts s = here m same ts s
  trees_taken l (p ∷ ps) ts s = binds m same same s (tree_at l p.1 s) (tree_at (move l) p.1 (moved m s)) _ _ (tree_taken l p.1 s) (λ d s1. trees_taken l ps (ts ++ (p.0, d) ∷ []) s1)

  -- ---- conditions

  truth_taken : (e : Expression) (s : State) → P m same s (truth_with (evaluated view most_open) e s) (truth_with (evaluated world most_open) (moved_expression move e) (moved m s))
  truth_taken e s = binds m same same s (value_of view most_open e s) (value_of world most_open (moved_expression move e) (moved m s)) _ _ (value_at m most_open e s) (λ v s1. here m same (holds s1 v) s1)

  pub judges : (b : Statements) (v : Verdict) (s : State) → P m same s (judged view b v s) (judged world (moved_statements move b) v (moved m s))
  judges no_statements v s = here m same v s
  judges (more_statements (statement l (assign e)) xs) v s = binds m same same s (truth_with (evaluated view most_open) e s) (truth_with (evaluated world most_open) (moved_expression move e) (moved m s)) _ _ (truth_taken e s) (λ t s1. judges xs (record v { assigned = v.assigned || t }) s1)
  judges (more_statements (statement l (ignore e)) xs) v s = binds m same same s (truth_with (evaluated view most_open) e s) (truth_with (evaluated world most_open) (moved_expression move e) (moved m s)) _ _ (truth_taken e s) (λ t s1. judges xs (record v { ignored = v.ignored || t }) s1)
  judges (more_statements (statement l k) xs) v s = judges xs v s
