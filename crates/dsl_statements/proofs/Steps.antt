-- Targets with one step more.
use Rattle.std.proofs.Common.{◌≡◌, ℕ, List, [], ◌∷◌, ◌++◌, Option, Some, None, is_some, refl, ap, sym, ◌∙◌}
use Rattle.dsl_syntax.specs.Syntax.{Root, at_name, at_this, at_globals, Expression, expression, Steps, no_steps, member_step, index_step}
use Rattle.dsl_syntax.specs.SyntaxView.{expr_kind_view, step_then, steps_view}
use Rattle.dsl_syntax.specs.declared.expr_kind.ExprKind.TheBlock.{Step::Member, Step::Index'}
use Rattle.dsl_syntax.specs.declared.step.Step.{Step}
use Rattle.dsl_syntax.proofs.SyntaxLists.{members_more, indices_more}
use Rattle.dsl_grammar.specs.Grammar.{Target, target, with_member, with_index, stepped}
use Rattle.dsl_syntax.specs.Lists.{add_member, add_index}
use Rattle.dsl_statements.specs.Parts.{with_step}

-- with a step each base is a target
pub some_member : (n : List ℕ) (o : Option Target) → is_some (stepped (with_member n o)) ≡ is_some o
some_member n None = refl
some_member n (Some (target (at_name t) ss)) = refl
some_member n (Some (target at_this no_steps)) = refl
some_member n (Some (target at_this (member_step m ss))) = refl
some_member n (Some (target at_this (index_step e ss))) = refl
some_member n (Some (target at_globals no_steps)) = refl
some_member n (Some (target at_globals (member_step m ss))) = refl
some_member n (Some (target at_globals (index_step e ss))) = refl

pub some_index : (i : Expression) (o : Option Target) → is_some (stepped (with_index i o)) ≡ is_some o
some_index i None = refl
some_index i (Some (target (at_name t) ss)) = refl
some_index i (Some (target at_this no_steps)) = refl
some_index i (Some (target at_this (member_step m ss))) = refl
some_index i (Some (target at_this (index_step e ss))) = refl
some_index i (Some (target at_globals no_steps)) = refl
some_index i (Some (target at_globals (member_step m ss))) = refl
some_index i (Some (target at_globals (index_step e ss))) = refl

-- a step at the end
pub one_step : (r : Root) (ss : List Step) (s : Step) → Some (target r (steps_view (ss ++ s ∷ []))) ≡ with_step s (Some (target r (steps_view ss)))
one_step r ss (Step::Member t) = ap (λ z. Some (target r z)) (members_more ss t)
one_step r ss (Step::Index' l k) = ap (λ z. Some (target r z)) (indices_more ss l k)
