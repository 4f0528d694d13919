-- Strings, cells, members, operators and names at other places, and the library.
use Rattle.std.proofs.Common.{◌+◌, ℕ, List, [], ◌∷◌, ◌++◌, length, Option, Some, None, refl}
use Rattle.site_base.specs.declared.place.Place.{Place}
use Rattle.site_base.specs.declared.diag_kind.DiagKind.{DiagKind}
use Rattle.site_base.specs.Data.{Data}
use Rattle.dsl_syntax.specs.declared.bin_op.BinOp.{BinOp}
use Rattle.dsl_value.specs.Pairs.{Pairs, dict_of}
use Rattle.dsl_value.specs.Contents.{PlainCell, array, dict, with_cell}
use Rattle.dsl_value.specs.Loads.{load, cost, given, grown}
use Rattle.dsl_value.specs.Outcomes as comes
use Rattle.dsl_value.specs.declared.value.Value.{Value}
use Rattle.dsl_value.specs.declared.value.Value.TheVariants as value
use Rattle.dsl_ops.specs.Members.{member_of}
use Rattle.dsl_ops.specs.Table.{binary_outcome}
use Rattle.dsl_ops.specs.Units.{binary_units}
use Rattle.dsl_lib.specs.Library.{answer}
use Rattle.dsl_lib.specs.Names.{function_named, method_named}
use Rattle.dsl_lib.specs.Units.{units}
use Rattle.dsl_lib.specs.declared.names.LibraryCall.{LibraryCall}
use Rattle.dsl_lib.specs.declared.plain.Plain.{Plain}
use Rattle.eval_meaning.specs.Views.{Sight, shown, absent, undecided, sight, host, service}
use Rattle.eval_meaning.specs.States.{State, gives, with_new}
use Rattle.eval_meaning.specs.Settled.{contents, settled}
use Rattle.eval_meaning.specs.Literals.{string_value, new_cell, new_array, new_dict}
use Rattle.eval_meaning.specs.Members.{or_wrong, part_value}
use Rattle.eval_meaning.specs.Operators.{op_kind, operated}
use Rattle.eval_meaning.specs.Frames.{named, or_undefined, name_value}
use Rattle.eval_meaning.specs.Library.{lib_kind, call_plain}
use Rattle.eval_meaning.specs.Objects.{with_tree, loaded, with_read, seen, read, read_host, read_service}
use Rattle.eval_meaning.specs.Calls.{function_called, name_called, part_called, method_called, member_called}
use Rattle.eval_meaning.specs.declared.callee.Callee.TheVariants as callee
use Rattle.eval_meaning.specs.declared.read.Read.{Read}
use Rattle.place_laws.specs.MovedStates.{moved_view}
use Rattle.place_laws.proofs.Moving.{Moving, P, same, moved, here, stops, binds, gives_after, charges}

module _ (m : Moving) where
  -- ---- strings and cells

  pub strings : (l : Place) (t : List ℕ) (s : State) → P m same s (string_value l t s) (string_value (m.move l) t (moved m s))
  strings l t s = charges m same l (length t) s (λ _ s1. gives (value.Str t) s1) (λ _ s1. gives (value.Str t) s1) (λ s1. here m same (value.Str t) s1)

  news : (c : PlainCell) (s : State) → P m same s (with_new c s) (with_new c (moved m s))
  news c s = gives_after m same (value.Ref (length s.cells)) s (record s { cells = s.cells ++ c ∷ [] }) refl

  cells : (l : Place) (n : ℕ) (c : PlainCell) (s : State) → P m same s (new_cell l n c s) (new_cell (m.move l) n c (moved m s))
  cells l n c s = charges m same l n s (λ _ s1. with_new c s1) (λ _ s1. with_new c s1) (λ s1. news c s1)

  pub arrays : (l : Place) (vs : List Value) (s : State) → P m same s (new_array l vs s) (new_array (m.move l) vs (moved m s))
  arrays l vs s = cells l (1 + length vs) (array vs) s

  pub dicts : (l : Place) (ps : Pairs) (s : State) → P m same s (new_dict l ps s) (new_dict (m.move l) ps (moved m s))
  dicts l ps s = cells l (1 + length ps) (dict (dict_of ps [])) s

  -- ---- members and operators

  pub wrongs : {A : Type 0} (l : Place) (o : Option A) (s : State) → P m same s (or_wrong l o s) (or_wrong (m.move l) o (moved m s))
  wrongs l None s = stops m _ same l _ _ s
  wrongs l (Some a) s = here m same a s

  pub parts : (l : Place) (v k : Value) (s : State) → P m same s (part_value l v k s) (part_value (m.move l) v k (moved m s))
  unfolding part_value
  parts l v k s = wrongs l (member_of s.cells v k) s

  pub settles : {F : Type 0} (kind : F → DiagKind) (l : Place) (n : ℕ) (o : comes.Outcome F) (s : State) → P m same s (settled kind l n o s) (settled kind (m.move l) n o (moved m s))
  settles kind l n (comes.gives v) s = charges m same l n s (λ _ s1. gives v s1) (λ _ s1. gives v s1) (λ s1. here m same v s1)
  settles kind l n (comes.makes c) s = cells l n c s
  settles kind l n (comes.writes k c) s =
      charges m same l n s (λ _ s1. gives value.Null (record s1 { cells = with_cell s1.cells k c })) (λ _ s1. gives value.Null (record s1 { cells = with_cell s1.cells k c }))
      (λ s1. gives_after m same value.Null s1 (record s1 { cells = with_cell s1.cells k c }) refl)
  settles kind l n (comes.refuses e) s = stops m _ same l _ _ s

  pub operates : (l : Place) (o : BinOp) (a b : Value) (s : State) → P m same s (operated l o a b s) (operated (m.move l) o a b (moved m s))
  unfolding operated
  operates l o a b s = settles op_kind l (binary_units s.cells o a b) (binary_outcome s.cells o a b) s

  -- ---- names

  undefineds : (l : Place) (n : List ℕ) (s : State) (o : Option Value) → P m same s (or_undefined l n s o) (or_undefined (m.move l) n (moved m s) o)
  undefineds l n s (Some v) = here m same v s
  undefineds l n s None = stops m _ same l _ _ s

  pub names : (l : Place) (n : List ℕ) (s : State) → P m same s (name_value l n s) (name_value (m.move l) n (moved m s))
  unfolding named
  names l n s = undefineds l n s (named n s)

  -- ---- the library

  pub plains : (l : Place) (c : Plain) (vs : List Value) (s : State) → P m same s (call_plain l c vs s) (call_plain (m.move l) c vs (moved m s))
  unfolding call_plain
  plains l c vs s = settles lib_kind l (units c (answer c (contents s) vs)) (answer c (contents s) vs) s

  loads : (l : Place) (d : Data) (s : State) → P m same s (loaded l d s) (loaded (m.move l) d (moved m s))
  loads l d s = charges m same l (cost d) s (λ _ s1. with_tree d s1) (λ _ s1. with_tree d s1) (λ s1. gives_after m same (given 0 s1.cells (load d)) s1 (record s1 { cells = grown 0 s1.cells (load d) }) refl)

  sees : (l : Place) (r : Read) (o : Sight) (s : State) → P m same s (seen l r o s) (seen (m.move l) r o (moved m s))
  unfolding P
  sees l r (shown d) s = loads l d (with_read r s)
  sees l r absent s = gives_after m same value.Null s (with_read r s) refl
  sees l r undecided s = λ h. refl

  reads : (l : Place) (r : Read) (s : State) → P m same s (read m.view l r s) (read (moved_view m.move m.view) (m.move l) r (moved m s))
  unfolding read sight
  reads l r s = sees l r (sight m.view r) s

  pub host_reads : (l : Place) (vs : List Value) (s : State) → P m same s (read_host m.view l vs s) (read_host (moved_view m.move m.view) (m.move l) vs (moved m s))
  host_reads l [] s = stops m _ same l _ _ s
  host_reads l (value.Str n ∷ []) s = reads l (host n) s
  host_reads l (v ∷ []) s = stops m _ same l _ _ s
  host_reads l (value.Str n ∷ w ∷ vs) s = stops m _ same l _ _ s
  host_reads l (v ∷ w ∷ vs) s = stops m _ same l _ _ s

  pub service_reads : (l : Place) (vs : List Value) (s : State) → P m same s (read_service m.view l vs s) (read_service (moved_view m.move m.view) (m.move l) vs (moved m s))
  service_reads l [] s = stops m _ same l _ _ s
  service_reads l (value.Str h ∷ []) s = stops m _ same l _ _ s
  service_reads l (v ∷ []) s = stops m _ same l _ _ s
  service_reads l (value.Str h ∷ value.Str n ∷ []) s = reads l (service h n) s
  service_reads l (value.Str h ∷ w ∷ []) s = stops m _ same l _ _ s
  service_reads l (v ∷ w ∷ []) s = stops m _ same l _ _ s
  service_reads l (value.Str h ∷ value.Str n ∷ u ∷ vs) s = stops m _ same l _ _ s
  service_reads l (value.Str h ∷ w ∷ u ∷ vs) s = stops m _ same l _ _ s
  service_reads l (v ∷ w ∷ u ∷ vs) s = stops m _ same l _ _ s

  -- ---- what is called

  functions_called : (l : Place) (n : List ℕ) (o : Option LibraryCall) (s : State) → P m same s (function_called l n o s) (function_called (m.move l) n o (moved m s))
  functions_called l n (Some c) s = here m same (callee.Function c) s
  functions_called l n None s = stops m _ same l _ _ s

  pub names_called : (l : Place) (n : List ℕ) (o : Option Value) (s : State) → P m same s (name_called l n o s) (name_called (m.move l) n o (moved m s))
  names_called l n (Some v) s = here m same (callee.Value v s.this) s
  names_called l n None s = functions_called l n (function_named n) s

  pub parts_called : (l : Place) (v k : Value) (s : State) → P m same s (part_called l v k s) (part_called (m.move l) v k (moved m s))
  parts_called l v k s = binds m same same s (part_value l v k s) (part_value (m.move l) v k (moved m s)) _ _ (parts l v k s) (λ f s1. here m same (callee.Value f v) s1)

  methods_called : (l : Place) (v : Value) (n : List ℕ) (o : Option LibraryCall) (s : State) → P m same s (method_called l v n o s) (method_called (m.move l) v n o (moved m s))
  methods_called l v n (Some c) s = here m same (callee.Method c v) s
  methods_called l v n None s = parts_called l v (value.Str n) s

  pub members_called : (l : Place) (v : Value) (n : List ℕ) (o : Option Value) (s : State) → P m same s (member_called l v n o s) (member_called (m.move l) v n o (moved m s))
  members_called l v n (Some f) s = here m same (callee.Value f v) s
  members_called l v n None s = methods_called l v n (method_named _ n) s
