-- Nodes at other places, where it is true of their parts: lists of expressions, `use` lists and operators.
use Rattle.std.proofs.Common.{◌≡◌, ℕ, List, [], ◌∷◌, ◌++◌, length, map, refl, sym, ap, ◌∙◌, subst}
use Rattle.std.proofs.lemmas.List.{map-append, length-map}
use Rattle.site_base.specs.declared.place.Place.{Place}
use Rattle.dsl_syntax.specs.Syntax.{Expression, Expressions, no_expressions, more_expressions, Entries, no_entries, more_entries, MaybeExpression, no_expression, some_expression, Function, function, Uses, no_uses, more_uses, Steps, no_steps, member_step, index_step, Statement}
use Rattle.dsl_syntax.specs.declared.bin_op.BinOp.{BinOp}
use Rattle.dsl_syntax.specs.declared.bin_op.BinOp.TheVariants as bin
use Rattle.dsl_value.specs.Pairs.{Pairs, put}
use Rattle.dsl_value.specs.PlainStores.{Closure}
use Rattle.dsl_value.specs.declared.value.Value.{Value}
use Rattle.dsl_value.specs.declared.value.Value.TheVariants as value
use Rattle.eval_meaning.specs.States.{State, Outcome, gives, ◌>>=◌, with_function}
use Rattle.eval_meaning.specs.Parts.{Parts, maybe_with}
use Rattle.eval_meaning.specs.Literals.{values_with, pairs_with}
use Rattle.eval_meaning.specs.Operators.{holds, both_with, and_with, or_with, binary_with}
use Rattle.eval_meaning.specs.Targets.{keys_with}
use Rattle.eval_meaning.specs.Functions.{used_with, captured_with, function_with}
use Rattle.place_laws.specs.MovedSyntax.{moved_expression, moved_expressions, moved_entries, moved_maybe, moved_function, moved_uses, moved_steps, moved_statement}
use Rattle.place_laws.specs.MovedStates.{moved_closure}
use Rattle.place_laws.proofs.Moving.{Moving, P, same, moved, here, binds, gives_after, choice}
use Rattle.place_laws.proofs.Values.{names, operates}
use Rattle.place_laws.proofs.Writes.{flow}

-- it is true of the parts of nodes, and of those at other places
pub record AreMoved (m : Moving) (ev ew : Parts) : Type 0 where
  pub value : (e : Expression) (s : State) → P m same s (ev.value e s) (ew.value (moved_expression m.move e) (moved m s))
  pub flow : (x : Statement) (s : State) → P m (flow m) s (ev.flow x s) (ew.flow (moved_statement m.move x) (moved m s))
  pub callee : (e : Expression) (s : State) → P m same s (ev.callee e s) (ew.callee (moved_expression m.move e) (moved m s))

-- how parts are evaluated, and how those at other places are
pub record Nodes (m : Moving) : Type 0 where
  pub ev : Parts
  pub ew : Parts
  pub parts : AreMoved m ev ew

module _ (m : Moving) (n : Nodes m) where
  pub next : {B : Type 0} (g : B → B) (e : Expression) (s : State) (h k : Value → State → Outcome B) → ((v : Value) (t : State) → P m g t (h v t) (k v (moved m t))) → P m g s (n.ev.value e s >>= h) (n.ew.value (moved_expression m.move e) (moved m s) >>= k)
  next g e s h k c = binds m same g s (n.ev.value e s) (n.ew.value (moved_expression m.move e) (moved m s)) h k (n.parts.value e s) c

  -- ---- lists

  pub values : (es : Expressions) (vs : List Value) (s : State) → P m same s (values_with n.ev es vs s) (values_with n.ew (moved_expressions m.move es) vs (moved m s))
  values no_expressions vs s = here m same vs s
  values (more_expressions e es) vs s = next same e s _ _ (λ v s1. values es (vs ++ v ∷ []) s1)

  pub pairs : (es : Entries) (ps : Pairs) (s : State) → P m same s (pairs_with n.ev es ps s) (pairs_with n.ew (moved_entries m.move es) ps (moved m s))
  pairs no_entries ps s = here m same ps s
  pairs (more_entries k e es) ps s = next same e s _ _ (λ v s1. pairs es (ps ++ (k, v) ∷ []) s1)

  pub keys : (ss : Steps) (ks : List Value) (s : State) → P m same s (keys_with n.ev ss ks s) (keys_with n.ew (moved_steps m.move ss) ks (moved m s))
  keys no_steps ks s = here m same ks s
  keys (member_step t ss) ks s = keys ss (ks ++ value.Str t ∷ []) s
  keys (index_step e ss) ks s = next same e s _ _ (λ k s1. keys ss (ks ++ k ∷ []) s1)

  pub maybes : (o : MaybeExpression) (s : State) → P m same s (maybe_with n.ev o s) (maybe_with n.ew (moved_maybe m.move o) (moved m s))
  maybes no_expression s = here m same value.Null s
  maybes (some_expression e) s = n.parts.value e s

  -- ---- functions

  uses_one : (l : Place) (t : List ℕ) (o : MaybeExpression) (s : State) → P m same s (used_with n.ev l t o s) (used_with n.ew (m.move l) t (moved_maybe m.move o) (moved m s))
  uses_one l t (some_expression e) s = n.parts.value e s
  uses_one l t no_expression s = names m l t s

  pub captures : (l : Place) (us : Uses) (ps : Pairs) (s : State) → P m same s (captured_with n.ev l us ps s) (captured_with n.ew (m.move l) (moved_uses m.move us) ps (moved m s))
  captures l no_uses ps s = here m same ps s
  captures l (more_uses t o us) ps s = binds m same same s (used_with n.ev l t o s) (used_with n.ew (m.move l) t (moved_maybe m.move o) (moved m s)) _ _ (uses_one l t o s) (λ v s1. captures l us (put t v ps) s1)

  kept : (f : Closure) (s : State) → P m same s (with_function f s) (with_function (moved_closure m.move f) (moved m s))
  kept f s = subst (λ o. P m same s (with_function f s) o) (sym as_moved) (gives_after m same (value.Func (length s.functions)) s (record s { functions = s.functions ++ f ∷ [] }) refl)
    where
      as_moved : with_function (moved_closure m.move f) (moved m s) ≡ gives (value.Func (length s.functions)) (moved m (record s { functions = s.functions ++ f ∷ [] }))
      as_moved =
          ap (λ k. gives (value.Func k) (record (moved m s) { functions = map (moved_closure m.move) s.functions ++ moved_closure m.move f ∷ [] })) (length-map s.functions (moved_closure m.move))
          ∙ ap (λ fs. gives (value.Func (length s.functions)) (record (moved m s) { functions = fs })) (sym (map-append (moved_closure m.move) s.functions (f ∷ [])))

  pub functions : (l : Place) (f : Function) (s : State) → P m same s (function_with n.ev l f s) (function_with n.ew (m.move l) (moved_function m.move f) (moved m s))
  functions l (function ps us b) s =
      binds m same same s (captured_with n.ev l us [] s) (captured_with n.ew (m.move l) (moved_uses m.move us) [] (moved m s)) _ _ (captures l us [] s)
      (λ c s1. kept (record { func = function ps us b; captured = c }) s1)

  -- ---- operators

  boths : (l : Place) (o : BinOp) (a b : Expression) (s : State) → P m same s (both_with n.ev l o a b s) (both_with n.ew (m.move l) o (moved_expression m.move a) (moved_expression m.move b) (moved m s))
  boths l o a b s = next same a s _ _ (λ x s1. next same b s1 _ _ (λ y s2. operates m l o x y s2))

  ands : (a b : Expression) (s : State) → P m same s (and_with n.ev a b s) (and_with n.ew (moved_expression m.move a) (moved_expression m.move b) (moved m s))
  ands a b s = next same a s _ _ (λ x s1. choice m same (holds s1 x) s1 _ _ _ _ (n.parts.value b s1) (here m same x s1))

  ors : (a b : Expression) (s : State) → P m same s (or_with n.ev a b s) (or_with n.ew (moved_expression m.move a) (moved_expression m.move b) (moved m s))
  ors a b s = next same a s _ _ (λ x s1. choice m same (holds s1 x) s1 _ _ _ _ (here m same x s1) (n.parts.value b s1))

  pub binaries : (l : Place) (o : BinOp) (a b : Expression) (s : State) → P m same s (binary_with n.ev l o a b s) (binary_with n.ew (m.move l) o (moved_expression m.move a) (moved_expression m.move b) (moved m s))
  binaries l bin.And a b s = ands a b s
  binaries l bin.Or a b s = ors a b s
  binaries l o a b s = boths l o a b s
