-- It does so where it gives values, writes, and registers.
use Rattle.std.proofs.Common.{◌≡◌, ℕ, List, [], ◌∷◌, Bool, true, false, cond, Option, Some, None, refl}
use Rattle.std.specs.Prelude.{not}
use Rattle.site_base.specs.declared.place.Place.{Place}
use Rattle.site_base.specs.declared.diag_kind.DiagKind.{DiagKind}
use Rattle.site_base.specs.declared.diag_kind.DiagKind.TheVariants.{NotHere, BadName}
use Rattle.dsl_syntax.specs.Syntax.{MaybeLoop, Statements}
use Rattle.dsl_syntax.specs.declared.set_op.SetOp.{SetOp}
use Rattle.dsl_syntax.specs.declared.set_op.SetOp.TheVariants as set
use Rattle.dsl_syntax.specs.declared.bin_op.BinOp.{BinOp}
use Rattle.dsl_syntax.specs.declared.bin_op.BinOp.TheVariants as bin
use Rattle.dsl_value.specs.Pairs.{Pairs, find}
use Rattle.dsl_value.specs.Contents.{with_cell}
use Rattle.dsl_value.specs.declared.value.Value.{Value}
use Rattle.dsl_value.specs.declared.value.Value.TheVariants as value
use Rattle.dsl_value.specs.Outcomes as comes
use Rattle.dsl_ops.specs.Members.{member_of, set_outcome}
use Rattle.dsl_ops.specs.Table.{binary_outcome}
use Rattle.dsl_ops.specs.Units.{binary_units}
use Rattle.dsl_lib.specs.Library.{answer}
use Rattle.dsl_lib.specs.Names.{function_named, method_named}
use Rattle.dsl_lib.specs.Units.{units}
use Rattle.dsl_lib.specs.declared.names.LibraryCall.{LibraryCall}
use Rattle.dsl_lib.specs.declared.plain.Plain.{Plain}
use Rattle.eval_meaning.specs.Registered.{PlainTemplate}
use Rattle.eval_meaning.specs.Views.{View, host, service, Sight, shown, absent, undecided, sight}
use Rattle.eval_meaning.specs.States.{State, Outcome, gives, faults, ◌>>=◌, done, fault, globals_cell, Loading}
use Rattle.eval_meaning.specs.Literals.{new_dict}
use Rattle.eval_meaning.specs.Members.{or_wrong, part_value}
use Rattle.eval_meaning.specs.Operators.{op_kind, operated}
use Rattle.eval_meaning.specs.Settled.{contents, settled}
use Rattle.eval_meaning.specs.Frames.{named, or_undefined, name_value, ended, entered, back_in, in_frame}
use Rattle.eval_meaning.specs.Targets.{Target, to_local, into, followed, member_kind, put_member, is_constant, put_in, made_inside, inside_by, inside, written, made_local, write_local, operated_on, set_value, assigned}
use Rattle.eval_meaning.specs.Library.{lib_kind, call_plain}
use Rattle.eval_meaning.specs.Objects.{read, read_host, read_service, seen, with_read, with_tree, loaded}
use Rattle.eval_meaning.specs.Calls.{function_called, name_called, part_called, method_called, member_called}
use Rattle.eval_meaning.specs.Templates.{is_item, in_item}
use Rattle.eval_meaning.specs.Registration.{loading, with_loading, is_load, at_load, is_fixed, with_constant, constant_set, name_by, prefix_by, condition_in, unless_condition, lawful, template_by, lawful_rule, is_among, types, groups, is_good_name, resolved_target, target_types, with_template}
use Rattle.eval_meaning.specs.declared.callee.Callee.TheVariants as callee
use Rattle.eval_meaning.specs.declared.flow.Flow.{Flow}
use Rattle.eval_meaning.specs.declared.flow.Flow.TheVariants.{On, Returned, Broken, Continued}
use Rattle.eval_meaning.specs.declared.read.Read.{Read}
use Rattle.dsl_value.specs.Loads.{cost, load, given}
use Rattle.site_base.specs.Data.{Data}
use Rattle.site_base.specs.Quoted.{quoted}
use Rattle.load_laws.proofs.KeptItems.{KeepsItems, Keeps, here, stops, blocks, binds, steps, loads, choice, gives_after, charges, makes, keeps_dict}

-- ---- members and operators

keeps_wrong : {A : Type 0} (l : Place) (o : Option A) (s : State) → Keeps s (or_wrong l o s)
keeps_wrong l None s = stops _ l _ _ s
keeps_wrong l (Some a) s = here a s

pub keeps_part : (l : Place) (v k : Value) (s : State) → Keeps s (part_value l v k s)
unfolding part_value
keeps_part l v k s = keeps_wrong l (member_of s.cells v k) s

pub keeps_settled : {F : Type 0} (kind : F → DiagKind) (l : Place) (n : ℕ) (o : comes.Outcome F) (s : State) → Keeps s (settled kind l n o s)
keeps_settled kind l n (comes.gives v) s = charges l n s (λ _ s1. gives v s1) (gives_after v s _ refl)
keeps_settled kind l n (comes.makes c) s = makes l n c s
keeps_settled kind l n (comes.writes k c) s = charges l n s (λ _ s1. gives value.Null (record s1 { cells = with_cell s1.cells k c })) (gives_after value.Null s _ refl)
keeps_settled kind l n (comes.refuses e) s = stops _ l _ _ s

pub keeps_operated : (l : Place) (o : BinOp) (a b : Value) (s : State) → Keeps s (operated l o a b s)
unfolding operated
keeps_operated l o a b s = keeps_settled op_kind l (binary_units s.cells o a b) (binary_outcome s.cells o a b) s

-- ---- names and frames

keeps_undefined : (l : Place) (n : List ℕ) (s : State) (o : Option Value) → Keeps s (or_undefined l n s o)
keeps_undefined l n s (Some v) = here v s
keeps_undefined l n s None = stops _ l _ _ s

pub keeps_name : (l : Place) (n : List ℕ) (s : State) → Keeps s (name_value l n s)
keeps_name l n s = keeps_undefined l n s (named n s)

pub keeps_ended : (f : Flow) (s : State) → Keeps s (ended f s)
keeps_ended On s = here value.Null s
keeps_ended (Returned v) s = here v s
keeps_ended (Broken l) s = stops _ l _ _ s
keeps_ended (Continued l) s = stops _ l _ _ s

pub keeps_frame : (this : Value) (locals : Pairs) (in_file : Bool) (f : State → Outcome Flow) (s : State) → ((s1 : State) → Keeps s1 (f s1)) → Keeps s (in_frame this locals in_file f s)
keeps_frame this locals in_file f s h =
    steps s (entered this locals in_file s) _ refl
    (binds (entered this locals in_file s) (f (entered this locals in_file s)) _ (h (entered this locals in_file s))
    (λ fl s1. binds s1 (ended fl s1) _ (keeps_ended fl s1) (λ v s2. gives_after v s2 (back_in s s2) refl)))

-- ---- writes

keeps_put_member : (l : Place) (container k v : Value) (s : State) → Keeps s (put_member l container k v s)
keeps_put_member l container k v s =
    let o = set_outcome (contents s) container k v in
    binds s (settled member_kind l (comes.made_units o) o s) _ (keeps_settled member_kind l (comes.made_units o) o s) (λ u s1. here On s1)

pub keeps_put_in : (l : Place) (container k v : Value) (s : State) → Keeps s (put_in l container k v s)
unfolding put_in
keeps_put_in l container k v s = choice (is_constant s.task container k) s _ _ (stops _ l _ _ s) (keeps_put_member l container k v s)

keeps_made_inside : (l : Place) (container k : Value) (s : State) → Keeps s (made_inside l container k s)
keeps_made_inside l container k s = binds s (new_dict l [] s) _ (keeps_dict l [] s) (λ d s1. binds s1 (put_in l container k d s1) _ (keeps_put_in l container k d s1) (λ u s2. here d s2))

keeps_inside_by : (l : Place) (container k v : Value) (s : State) → Keeps s (inside_by l container k v s)
keeps_inside_by l container k value.Null s = keeps_made_inside l container k s
keeps_inside_by l container k v s = here v s

inside_next : (l : Place) (container k : Value) (s : State) → Keeps s (part_value l container k s >>= λ v s1. inside_by l container k v s1)
inside_next l container k s = binds s (part_value l container k s) _ (keeps_part l container k s) (λ v s1. keeps_inside_by l container k v s1)

keeps_inside : (l : Place) (container k : Value) (s : State) → Keeps s (inside l container k s)
keeps_inside l value.Null k s = stops _ l _ _ s
keeps_inside l (value.Bool b) k s = inside_next l (value.Bool b) k s
keeps_inside l (value.Number b) k s = inside_next l (value.Number b) k s
keeps_inside l (value.Str b) k s = inside_next l (value.Str b) k s
keeps_inside l (value.Ref b) k s = inside_next l (value.Ref b) k s
keeps_inside l (value.Func b) k s = inside_next l (value.Func b) k s

keeps_written : (l : Place) (container : Value) (ks : List Value) (v : Value) (s : State) → Keeps s (written l container ks v s)
keeps_written l container [] v s = stops _ l _ _ s
keeps_written l container (k ∷ []) v s = keeps_put_in l container k v s
keeps_written l container (k ∷ j ∷ ks) v s = binds s (inside l container k s) _ (keeps_inside l container k s) (λ d s1. keeps_written l d (j ∷ ks) v s1)

keeps_made_local : (l : Place) (n : List ℕ) (s : State) → Keeps s (made_local l n s)
keeps_made_local l n s = binds s (new_dict l [] s) _ (keeps_dict l [] s) (λ d s1. gives_after d s1 _ refl)

keeps_write_local : (l : Place) (n : List ℕ) (container : Value) (ks : List Value) (v : Value) (s : State) → Keeps s (write_local l n container ks v s)
keeps_write_local l n container [] v s = gives_after On s _ refl
keeps_write_local l n value.Null (k ∷ ks) v s = binds s (made_local l n s) _ (keeps_made_local l n s) (λ d s1. keeps_written l d (k ∷ ks) v s1)
keeps_write_local l n (value.Bool b) (k ∷ ks) v s = keeps_written l (value.Bool b) (k ∷ ks) v s
keeps_write_local l n (value.Number b) (k ∷ ks) v s = keeps_written l (value.Number b) (k ∷ ks) v s
keeps_write_local l n (value.Str b) (k ∷ ks) v s = keeps_written l (value.Str b) (k ∷ ks) v s
keeps_write_local l n (value.Ref b) (k ∷ ks) v s = keeps_written l (value.Ref b) (k ∷ ks) v s
keeps_write_local l n (value.Func b) (k ∷ ks) v s = keeps_written l (value.Func b) (k ∷ ks) v s

keeps_followed : (l : Place) (v : Value) (ks : List Value) (s : State) → Keeps s (followed l v ks s)
keeps_followed l v [] s = here v s
keeps_followed l v (k ∷ ks) s = binds s (part_value l v k s) _ (keeps_part l v k s) (λ w s1. keeps_followed l w ks s1)

keeps_operated_on : (l : Place) (o : BinOp) (container : Value) (ks : List Value) (v : Value) (s : State) → Keeps s (operated_on l o container ks v s)
keeps_operated_on l o container ks v s = binds s (followed l container ks s) _ (keeps_followed l container ks s) (λ old s1. keeps_operated l o old v s1)

keeps_set_value : (l : Place) (o : SetOp) (container : Value) (ks : List Value) (v : Value) (s : State) → Keeps s (set_value l o container ks v s)
keeps_set_value l set.Plain container ks v s = here v s
keeps_set_value l set.Add container ks v s = keeps_operated_on l bin.Add container ks v s
keeps_set_value l set.Sub container ks v s = keeps_operated_on l bin.Sub container ks v s
keeps_set_value l set.Mul container ks v s = keeps_operated_on l bin.Mul container ks v s
keeps_set_value l set.Div container ks v s = keeps_operated_on l bin.Div container ks v s

pub keeps_assigned : (l : Place) (o : SetOp) (t : Target) (v : Value) (s : State) → Keeps s (assigned l o t v s)
unfolding assigned
keeps_assigned l o (to_local n container ks) v s = binds s (set_value l o container ks v s) _ (keeps_set_value l o container ks v s) (λ w s1. keeps_write_local l n container ks w s1)
keeps_assigned l o (into container ks) v s = binds s (set_value l o container ks v s) _ (keeps_set_value l o container ks v s) (λ w s1. keeps_written l container ks w s1)

-- ---- the library

pub keeps_plain : (l : Place) (c : Plain) (vs : List Value) (s : State) → Keeps s (call_plain l c vs s)
unfolding call_plain
keeps_plain l c vs s = keeps_settled lib_kind l (units c (answer c (contents s) vs)) (answer c (contents s) vs) s

reads_tree : (l : Place) (d : Data) (s : State) → Keeps s (loaded l d s)
reads_tree l d s = charges l (cost d) s (λ _ s1. with_tree d s1) (gives_after (given 0 s.cells (load d)) s _ refl)

sees : (l : Place) (r : Read) (o : Sight) (s : State) → Keeps s (seen l r o s)
sees l r (shown d) s = steps s (with_read r s) _ refl (reads_tree l d (with_read r s))
sees l r absent s = gives_after value.Null s (with_read r s) refl
sees l r undecided s = blocks _ r s

reads : (view : View) (l : Place) (r : Read) (s : State) → Keeps s (read view l r s)
unfolding read
reads view l r s = sees l r (sight view r) s

pub keeps_read_host : (view : View) (l : Place) (vs : List Value) (s : State) → Keeps s (read_host view l vs s)
keeps_read_host view l [] s = stops _ l _ _ s
keeps_read_host view l (value.Str n ∷ []) s = reads view l (host n) s
keeps_read_host view l (v ∷ []) s = stops _ l _ _ s
keeps_read_host view l (value.Str n ∷ w ∷ vs) s = stops _ l _ _ s
keeps_read_host view l (v ∷ w ∷ vs) s = stops _ l _ _ s

pub keeps_read_service : (view : View) (l : Place) (vs : List Value) (s : State) → Keeps s (read_service view l vs s)
keeps_read_service view l [] s = stops _ l _ _ s
keeps_read_service view l (value.Str h ∷ []) s = stops _ l _ _ s
keeps_read_service view l (v ∷ []) s = stops _ l _ _ s
keeps_read_service view l (value.Str h ∷ value.Str n ∷ []) s = reads view l (service h n) s
keeps_read_service view l (value.Str h ∷ w ∷ []) s = stops _ l _ _ s
keeps_read_service view l (v ∷ w ∷ []) s = stops _ l _ _ s
keeps_read_service view l (value.Str h ∷ value.Str n ∷ u ∷ vs) s = stops _ l _ _ s
keeps_read_service view l (value.Str h ∷ w ∷ u ∷ vs) s = stops _ l _ _ s
keeps_read_service view l (v ∷ w ∷ u ∷ vs) s = stops _ l _ _ s

-- ---- what is called

keeps_function_called : (l : Place) (n : List ℕ) (o : Option LibraryCall) (s : State) → Keeps s (function_called l n o s)
keeps_function_called l n (Some c) s = here (callee.Function c) s
keeps_function_called l n None s = stops _ l _ _ s

pub keeps_name_called : (l : Place) (n : List ℕ) (o : Option Value) (s : State) → Keeps s (name_called l n o s)
keeps_name_called l n (Some v) s = here (callee.Value v s.this) s
keeps_name_called l n None s = keeps_function_called l n (function_named n) s

pub keeps_part_called : (l : Place) (v k : Value) (s : State) → Keeps s (part_called l v k s)
keeps_part_called l v k s = binds s (part_value l v k s) _ (keeps_part l v k s) (λ f s1. here (callee.Value f v) s1)

keeps_method_called : (l : Place) (v : Value) (n : List ℕ) (o : Option LibraryCall) (s : State) → Keeps s (method_called l v n o s)
keeps_method_called l v n (Some c) s = here (callee.Method c v) s
keeps_method_called l v n None s = keeps_part_called l v (value.Str n) s

pub keeps_member_called : (l : Place) (v : Value) (n : List ℕ) (o : Option Value) (s : State) → Keeps s (member_called l v n o s)
keeps_member_called l v n (Some f) s = here (callee.Value f v) s
keeps_member_called l v n None s = keeps_method_called l v n (method_named _ n) s

-- ---- what a load registers

pub load_step : {A : Type 0} (a : A) (f : Loading → Loading) (s : State) → KeepsItems f → Keeps s (gives a (with_loading f s))
load_step a f s keep = loads s f (gives a (with_loading f s)) keep (here a (with_loading f s))

pub keeps_constant_set : (l : Place) (n : List ℕ) (v : Value) (s : State) → Keeps s (constant_set l n v s)
keeps_constant_set l n v s =
    choice (is_fixed (find n (loading s).constants)) s _ _ (stops _ l _ _ s)
    (binds s (put_member l (value.Ref globals_cell) (value.Str n) v s) _ (keeps_put_member l (value.Ref globals_cell) (value.Str n) v s) (λ u s1. load_step On (with_constant n) s1 (λ m h. h)))

pub keeps_name_by : (l : Place) (v : Value) (s : State) → Keeps s (name_by l v s)
keeps_name_by l (value.Str n) s = choice (is_good_name n) s _ _ (here n s) (stops _ l _ _ s)
keeps_name_by l v s = stops _ l _ _ s

pub good_by : {B : Type 0} (l : Place) (v : Value) (s : State) (f : List ℕ → State → Outcome B) → ((n : List ℕ) (s1 : State) → is_good_name n ≡ true → Keeps s1 (f n s1)) → Keeps s (name_by l v s >>= f)
good_by l (value.Str n) s f h = by (is_good_name n) refl
  where
    by : (b : Bool) → is_good_name n ≡ b → Keeps s (cond b (gives n s) (faults l BadName (quoted n) s.reads) >>= f)
    by true e = h n s e
    by false e = stops _ l _ _ s
good_by l v s f h = stops _ l _ _ s

pub keeps_prefix_by : (l : Place) (v : Value) (s : State) → Keeps s (prefix_by l v s)
keeps_prefix_by l (value.Str n) s = here (Some (record { name = n; place = l })) s
keeps_prefix_by l v s = stops _ l _ _ s

keeps_unless : (o : Option Place) (s : State) → Keeps s (unless_condition o s)
keeps_unless (Some l) s = stops _ l _ _ s
keeps_unless None s = here tt s

pub keeps_lawful : (l : Place) (kind : List ℕ) (b : Statements) (s : State) → Keeps s (lawful l kind b s)
unfolding lawful
keeps_lawful l kind b s = choice (not (is_among kind types)) s _ _ (stops _ l _ _ s) (choice (is_among kind groups) s _ _ (here tt s) (keeps_unless (condition_in b) s))

pub keeps_lawful_rule : (l : Place) (kind : List ℕ) (to : Option (List ℕ)) (each : MaybeLoop) (b : Statements) (s : State) → Keeps s (lawful_rule l kind to each b s)
unfolding lawful_rule
keeps_lawful_rule l kind to each b s =
    choice (not (is_among kind types)) s _ _ (stops _ l _ _ s)
    (choice (not (is_among (resolved_target kind to) (target_types kind))) s _ _ (stops _ l _ _ s)
    (choice _ s _ _ (here tt s) (stops _ l _ _ s)))

pub keeps_template_by : (view : View) (l : Place) (kind n : List ℕ) (ps : Pairs) (b : Statements) (o : Option PlainTemplate) (s : State) → Keeps s (template_by view l kind n ps b o s)
keeps_template_by view l kind n ps b (Some t) s = stops _ l _ _ s
keeps_template_by view l kind n ps b None s = load_step On (with_template l kind n ps b) s (λ m h. h)

pub keeps_at_load : (l : Place) (f : Unit {0} → State → Outcome Flow) (s : State) → ((s1 : State) → Keeps s1 (f tt s1)) → Keeps s (at_load l s >>= f)
keeps_at_load l f s h = by (is_load s.task)
  where
    by : (b : Bool) → Keeps s (cond b (done s) (fault l NotHere s) >>= f)
    by true = h s
    by false = stops _ l _ _ s

pub keeps_in_item : (l : Place) (f : Unit {0} → State → Outcome Flow) (s : State) → ((s1 : State) → Keeps s1 (f tt s1)) → Keeps s (in_item l s >>= f)
keeps_in_item l f s h = by (is_item s.task)
  where
    by : (b : Bool) → Keeps s (cond b (done s) (fault l NotHere s) >>= f)
    by true = h s
    by false = stops _ l _ _ s
