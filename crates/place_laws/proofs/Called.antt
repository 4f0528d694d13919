-- Calls at other places, where it is true of their parts.
use Rattle.std.proofs.Common.{List, [], ◌∷◌, ◌++◌, length, Bool, true, false, not, Option, Some, None, sym, subst}
use Rattle.std.specs.Prelude.{nat_eq, slice_get, option_map}
use Rattle.std.proofs.lemmas.Option.{slice_get-map}
use Rattle.site_base.specs.declared.place.Place.{Place}
use Rattle.dsl_syntax.specs.Syntax.{Expression, Expressions, Function, function}
use Rattle.dsl_value.specs.Pairs.{Pairs}
use Rattle.dsl_value.specs.PlainStores.{Closure}
use Rattle.dsl_value.specs.declared.value.Value.{Value}
use Rattle.dsl_value.specs.declared.value.Value.TheVariants as value
use Rattle.dsl_lib.specs.declared.names.LibraryCall.{LibraryCall}
use Rattle.dsl_lib.specs.declared.names.LibraryCall.TheVariants as library
use Rattle.eval_meaning.specs.Views.{View}
use Rattle.eval_meaning.specs.States.{State, Outcome}
use Rattle.eval_meaning.specs.Flow.{block_with}
use Rattle.eval_meaning.specs.Literals.{values_with}
use Rattle.eval_meaning.specs.Frames.{first_locals}
use Rattle.eval_meaning.specs.Functions.{bound, run_function, run_closure, apply_with}
use Rattle.eval_meaning.specs.Visits.{visited, mapped, filtered, found, map_with, filter_with, any_with, all_with, visits_by, elements}
use Rattle.eval_meaning.specs.Calls.{own_value, library_with, called_with, call_with}
use Rattle.eval_meaning.specs.declared.callee.Callee.{Callee}
use Rattle.eval_meaning.specs.declared.callee.Callee.TheVariants as callee
use Rattle.place_laws.specs.MovedSyntax.{moved_expression, moved_expressions, moved_function, moved_statements}
use Rattle.place_laws.specs.MovedStates.{moved_closure, moved_view}
use Rattle.place_laws.proofs.Moving.{Moving, P, same, moved, here, stops, binds, choice}
use Rattle.place_laws.proofs.Values.{arrays, plains, host_reads, service_reads}
use Rattle.place_laws.proofs.Writes.{frames}
use Rattle.place_laws.proofs.Nodes.{Nodes, values}
use Rattle.place_laws.proofs.Flows.{blocks}

module _ (m : Moving) (n : Nodes m) where
  abbrev world : View
  world = moved_view m.move m.view

  -- ---- functions

  runs_function : (l : Place) (f : Function) (c : Pairs) (this : Value) (vs : List Value) (s : State) → P m same s (run_function n.ev l f c this vs s) (run_function n.ew (m.move l) (moved_function m.move f) c this vs (moved m s))
  runs_function l (function ps us b) c this vs s =
      choice m same (nat_eq (length ps) (length vs)) s _ _ _ _
      (frames m this (first_locals c (bound ps vs)) false (block_with n.ev b) (block_with n.ew (moved_statements m.move b)) s (blocks m n b))
      (stops m _ same l _ _ s)

  runs_closure : (l : Place) (o : Option Closure) (this : Value) (vs : List Value) (s : State) → P m same s (run_closure n.ev l o this vs s) (run_closure n.ew (m.move l) (option_map (moved_closure m.move) o) this vs (moved m s))
  runs_closure l (Some f) this vs s = runs_function l f.func f.captured this vs s
  runs_closure l None this vs s = stops m _ same l _ _ s

  pub applies : (l : Place) (v this : Value) (vs : List Value) (s : State) → P m same s (apply_with n.ev l v this vs s) (apply_with n.ew (m.move l) v this vs (moved m s))
  applies l (value.Func k) this vs s =
      subst (λ o. P m same s (run_closure n.ev l (slice_get s.functions k) this vs s) (run_closure n.ew (m.move l) o this vs (moved m s)))
      (sym (slice_get-map (moved_closure m.move) s.functions k)) (runs_closure l (slice_get s.functions k) this vs s)
  applies l v this vs s = stops m _ same l _ _ s

  -- ---- methods that visit the elements of an array

  visits_one : (l : Place) (f v : Value) (s : State) → P m same s (visited n.ev l f v s) (visited n.ew (m.move l) f v (moved m s))
  visits_one l f v s = applies l f s.this (v ∷ []) s

  maps : (l : Place) (f : Value) (vs ws : List Value) (s : State) → P m same s (mapped n.ev l f vs ws s) (mapped n.ew (m.move l) f vs ws (moved m s))
  maps l f [] ws s = here m same ws s
  maps l f (v ∷ vs) ws s = binds m same same s (visited n.ev l f v s) (visited n.ew (m.move l) f v (moved m s)) _ _ (visits_one l f v s) (λ w s1. maps l f vs (ws ++ w ∷ []) s1)

  filters : (l : Place) (f : Value) (vs ws : List Value) (s : State) → P m same s (filtered n.ev l f vs ws s) (filtered n.ew (m.move l) f vs ws (moved m s))
  filters l f [] ws s = here m same ws s
  filters l f (v ∷ vs) ws s = binds m same same s (visited n.ev l f v s) (visited n.ew (m.move l) f v (moved m s)) _ _ (visits_one l f v s) (λ w s1. filters l f vs _ s1)

  finds : (l : Place) (wanted : Bool) (f : Value) (vs : List Value) (s : State) → P m same s (found n.ev l wanted f vs s) (found n.ew (m.move l) wanted f vs (moved m s))
  finds l wanted f [] s = here m same false s
  finds l wanted f (v ∷ vs) s = binds m same same s (visited n.ev l f v s) (visited n.ew (m.move l) f v (moved m s)) _ _ (visits_one l f v s) (λ w s1. choice m same _ s1 _ _ _ _ (here m same true s1) (finds l wanted f vs s1))

  visits : (f g : Value → List Value → State → Outcome Value) (l : Place) (vs : List Value) (s : State) → ((v : Value) (xs : List Value) (t : State) → P m same t (f v xs t) (g v xs (moved m t))) → P m same s (visits_by f l vs s) (visits_by g (m.move l) vs (moved m s))
  visits f g l [] s c = stops m _ same l _ _ s
  visits f g l (a ∷ []) s c = stops m _ same l _ _ s
  visits f g l (a ∷ value.Func k ∷ []) s c = c (value.Func k) (elements s.cells a) s
  visits f g l (a ∷ v ∷ []) s c = stops m _ same l _ _ s
  visits f g l (a ∷ value.Func k ∷ w ∷ vs) s c = stops m _ same l _ _ s
  visits f g l (a ∷ v ∷ w ∷ vs) s c = stops m _ same l _ _ s

  maps_all : (l : Place) (f : Value) (vs : List Value) (s : State) → P m same s (map_with n.ev l f vs s) (map_with n.ew (m.move l) f vs (moved m s))
  maps_all l f vs s = binds m same same s (mapped n.ev l f vs [] s) (mapped n.ew (m.move l) f vs [] (moved m s)) _ _ (maps l f vs [] s) (λ ws s1. arrays m l ws s1)

  filters_all : (l : Place) (f : Value) (vs : List Value) (s : State) → P m same s (filter_with n.ev l f vs s) (filter_with n.ew (m.move l) f vs (moved m s))
  filters_all l f vs s = binds m same same s (filtered n.ev l f vs [] s) (filtered n.ew (m.move l) f vs [] (moved m s)) _ _ (filters l f vs [] s) (λ ws s1. arrays m l ws s1)

  finds_any : (l : Place) (f : Value) (vs : List Value) (s : State) → P m same s (any_with n.ev l f vs s) (any_with n.ew (m.move l) f vs (moved m s))
  finds_any l f vs s = binds m same same s (found n.ev l true f vs s) (found n.ew (m.move l) true f vs (moved m s)) _ _ (finds l true f vs s) (λ b s1. here m same (value.Bool b) s1)

  finds_all : (l : Place) (f : Value) (vs : List Value) (s : State) → P m same s (all_with n.ev l f vs s) (all_with n.ew (m.move l) f vs (moved m s))
  finds_all l f vs s = binds m same same s (found n.ev l false f vs s) (found n.ew (m.move l) false f vs (moved m s)) _ _ (finds l false f vs s) (λ b s1. here m same (value.Bool (not b)) s1)

  -- ---- calls

  calls_library : (l : Place) (c : LibraryCall) (vs : List Value) (s : State) → P m same s (library_with m.view n.ev l c vs s) (library_with world n.ew (m.move l) c vs (moved m s))
  calls_library l (library.Plain c) vs s = plains m l c vs s
  calls_library l library.GetHost vs s = host_reads m l vs s
  calls_library l library.GetService vs s = service_reads m l vs s
  calls_library l library.Map vs s = visits (map_with n.ev l) (map_with n.ew (m.move l)) l vs s (maps_all l)
  calls_library l library.Filter vs s = visits (filter_with n.ev l) (filter_with n.ew (m.move l)) l vs s (filters_all l)
  calls_library l library.Any vs s = visits (any_with n.ev l) (any_with n.ew (m.move l)) l vs s (finds_any l)
  calls_library l library.All vs s = visits (all_with n.ev l) (all_with n.ew (m.move l)) l vs s (finds_all l)

  calls_one : (l : Place) (c : Callee) (vs : List Value) (s : State) → P m same s (called_with m.view n.ev l c vs s) (called_with world n.ew (m.move l) c vs (moved m s))
  calls_one l (callee.Value v this) vs s = applies l v this vs s
  calls_one l (callee.Function c) vs s = calls_library l c vs s
  calls_one l (callee.Method c v) vs s = calls_library l c vs s

  pub calls : (l : Place) (e : Expression) (es : Expressions) (s : State) → P m same s (call_with m.view n.ev l e es s) (call_with world n.ew (m.move l) (moved_expression m.move e) (moved_expressions m.move es) (moved m s))
  calls l e es s =
      binds m same same s (n.ev.callee e s) (n.ew.callee (moved_expression m.move e) (moved m s)) _ _ (n.parts.callee e s)
      (λ c s1. binds m same same s1 (values_with n.ev es (own_value c) s1) (values_with n.ew (moved_expressions m.move es) (own_value c) (moved m s1)) _ _ (values m n es (own_value c) s1)
      (λ vs s2. calls_one l c vs s2))
