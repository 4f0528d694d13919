-- So a load registers items with good names alone.
use Rattle.std.proofs.Common.{◌≡◌, ℕ, zero, suc, List, [], ◌∷◌, take, drop, true, false, Option, Some, None, subst}
use Rattle.std.specs.Prelude.{slice_get}
use Rattle.site_base.specs.declared.place.Place.{Place}
use Rattle.dsl_syntax.specs.Syntax as syntax
use Rattle.dsl_syntax.specs.Syntax.{Expression, expression, MaybeExpression, no_expression, some_expression, MaybeLoop, Uses, Statement, statement, StatementKind, Statements}
use Rattle.dsl_value.specs.Pairs.{Pairs}
use Rattle.dsl_value.specs.declared.value.Value.{Value}
use Rattle.dsl_value.specs.declared.value.Value.TheVariants as value
use Rattle.dsl_ops.specs.Table.{unary_outcome}
use Rattle.eval_meaning.specs.Registered.{PlainTemplate, PlainFile, PlacedName}
use Rattle.eval_meaning.specs.Views.{View, template_in}
use Rattle.eval_meaning.specs.States as states
use Rattle.eval_meaning.specs.States.{State, Outcome, gives, ◌>>=◌, Task}
use Rattle.eval_meaning.specs.Parts.{place_of}
use Rattle.eval_meaning.specs.Literals.{values_with, pairs_with}
use Rattle.eval_meaning.specs.Operators.{op_kind}
use Rattle.eval_meaning.specs.Frames.{first_locals, named, in_frame, name_in}
use Rattle.eval_meaning.specs.Flow.{block_with}
use Rattle.eval_meaning.specs.Functions.{captured_with}
use Rattle.eval_meaning.specs.Calls.{value_called, callee_with}
use Rattle.eval_meaning.specs.Templates.{run_template, imported_by, import_with}
use Rattle.eval_meaning.specs.Registration.{loading, name_by, name_with, prefix_with, lawful, item_registered, object_with, template_registered, template_with, lawful_rule, rule_registered, apply_rule_with, is_good_name, with_item, with_rule}
use Rattle.eval_meaning.specs.Files.{with_order, run_file, file_with, files_with, include_by}
use Rattle.eval_meaning.specs.Evaluation.{expression_with, statement_kind_with, too_deep, flow_too_deep, flow_with, one_more, evaluated}
use Rattle.eval_meaning.specs.Load.{load_run, load_start, load_view, loaded, most_open}
use Rattle.eval_meaning.specs.declared.callee.Callee.TheVariants as callee
use Rattle.eval_meaning.specs.declared.flow.Flow.TheVariants.{On, Broken, Continued}
use Rattle.load_laws.specs.GoodNames.{AreGood, IsGood}
use Rattle.load_laws.proofs.KeptItems.{Keeps, here, stops, binds, binds_twice, loads, counts, keeps_array, keeps_dict, keeps_string}
use Rattle.load_laws.proofs.KeptValues.{keeps_part, keeps_settled, keeps_name, keeps_frame, keeps_name_called, keeps_part_called, keeps_member_called, load_step, keeps_constant_set, keeps_name_by, good_by, keeps_prefix_by, keeps_lawful, keeps_lawful_rule, keeps_template_by, keeps_at_load, keeps_in_item}
use Rattle.load_laws.proofs.KeptNodes.{AreKeeping, Nodes, next, keeps_values, keeps_pairs, keeps_captured, keeps_function, keeps_binary, keeps_block, keeps_arms, keeps_turns, keeps_for, keeps_return, keeps_var, keeps_thrown, keeps_set, keeps_define, keeps_call}
use Rattle.load_laws.proofs.KeptItems.{all_append}

module _ (view : View) where
  module _ (nodes : Nodes) where
    -- ---- templates and registration

    keeps_run_template : (l : Place) (n : List ℕ) (ps : Pairs) (o : Option PlainTemplate) (s : State) → Keeps s (run_template nodes.ev l n ps o s)
    keeps_run_template l n ps None s = stops _ l _ _ s
    keeps_run_template l n ps (Some t) s =
        binds s (in_frame s.this (first_locals t.captured ps) false (block_with nodes.ev t.body) s) _
        (keeps_frame s.this (first_locals t.captured ps) false (block_with nodes.ev t.body) s (keeps_block nodes t.body)) (λ v s1. here On s1)

    keeps_imported : (l : Place) (v : Value) (t : Task) (s : State) → Keeps s (imported_by view nodes.ev l v t s)
    keeps_imported l (value.Str n) (states.item kind ps) s = keeps_run_template l n ps (template_in kind n view.templates) s
    keeps_imported l (value.Str n) (states.load m) s = stops _ l _ _ s
    keeps_imported l (value.Str n) states.rule s = stops _ l _ _ s
    keeps_imported l v t s = stops _ l _ _ s

    keeps_import : (l : Place) (e : Expression) (s : State) → Keeps s (import_with view nodes.ev l e s)
    keeps_import l e s = keeps_in_item l _ s (λ s1. next nodes e s1 _ (λ v s2. keeps_imported l v s2.task s2))

    keeps_object_name : (e : Expression) (s : State) → Keeps s (name_with nodes.ev e s)
    keeps_object_name e s = next nodes e s _ (λ v s1. keeps_name_by (place_of e) v s1)

    -- the name of an object is a good one
    named_well : {B : Type 0} (e : Expression) (s : State) (f : List ℕ → State → Outcome B) → ((n : List ℕ) (s1 : State) → is_good_name n ≡ true → Keeps s1 (f n s1)) → Keeps s (name_with nodes.ev e s >>= f)
    named_well e s f h = binds_twice s (nodes.ev.value e s) (λ v s1. name_by (place_of e) v s1) f (nodes.parts.value e s) (λ v s1. good_by (place_of e) v s1 f h)

    keeps_prefix : (o : MaybeExpression) (s : State) → Keeps s (prefix_with nodes.ev o s)
    keeps_prefix no_expression s = here None s
    keeps_prefix (some_expression e) s = next nodes e s _ (λ v s1. keeps_prefix_by (place_of e) v s1)

    keeps_item : (l : Place) (kind n : List ℕ) (ps : Pairs) (b : Statements) (s : State) → is_good_name n ≡ true → Keeps s (item_registered view l kind n ps b s)
    keeps_item l kind n ps b s good =
        binds s (lawful l kind b s) _ (keeps_lawful l kind b s) (λ u s1. load_step On (with_item view l kind n ps b) s1 (λ m h. all_append IsGood m.items _ h (good, tt)))

    keeps_object : (l : Place) (kind : List ℕ) (e : Expression) (us : Uses) (b : Statements) (s : State) → Keeps s (object_with view nodes.ev l kind e us b s)
    keeps_object l kind e us b s =
        keeps_at_load l _ s (λ s1. named_well e s1 _
        (λ n s2 good. binds s2 (captured_with nodes.ev l us [] s2) _ (keeps_captured nodes l us [] s2)
        (λ ps s3. keeps_item l kind n ps b s3 good)))

    keeps_template_registered : (l : Place) (kind n : List ℕ) (ps : Pairs) (b : Statements) (s : State) → Keeps s (template_registered view l kind n ps b s)
    keeps_template_registered l kind n ps b s = binds s (lawful l kind b s) _ (keeps_lawful l kind b s) (λ u s1. keeps_template_by view l kind n ps b (template_in kind n (loading s1).templates) s1)

    keeps_template : (l : Place) (kind : List ℕ) (e : Expression) (us : Uses) (b : Statements) (s : State) → Keeps s (template_with view nodes.ev l kind e us b s)
    keeps_template l kind e us b s =
        keeps_at_load l _ s (λ s1. binds s1 (name_with nodes.ev e s1) _ (keeps_object_name e s1)
        (λ n s2. binds s2 (captured_with nodes.ev l us [] s2) _ (keeps_captured nodes l us [] s2)
        (λ ps s3. keeps_template_registered l kind n ps b s3)))

    keeps_rule_registered : (l : Place) (kind : List ℕ) (n : Option PlacedName) (to : Option (List ℕ)) (each : MaybeLoop) (ps : Pairs) (b : Statements) (s : State) → Keeps s (rule_registered l kind n to each ps b s)
    keeps_rule_registered l kind n to each ps b s = binds s (lawful_rule l kind to each b s) _ (keeps_lawful_rule l kind to each b s) (λ u s1. load_step On (with_rule l kind n to each ps b) s1 (λ m h. h))

    keeps_rule : (l : Place) (kind : List ℕ) (e : MaybeExpression) (to : Option (List ℕ)) (each : MaybeLoop) (us : Uses) (b : Statements) (s : State) → Keeps s (apply_rule_with nodes.ev l kind e to each us b s)
    keeps_rule l kind e to each us b s =
        keeps_at_load l _ s (λ s1. binds s1 (prefix_with nodes.ev e s1) _ (keeps_prefix e s1)
        (λ n s2. binds s2 (captured_with nodes.ev l us [] s2) _ (keeps_captured nodes l us [] s2)
        (λ ps s3. keeps_rule_registered l kind n to each ps b s3)))

    -- ---- files

    keeps_run_file : (o : Option PlainFile) (s : State) → Keeps s (run_file nodes.ev o s)
    keeps_run_file (Some f) s = keeps_frame (value.Ref 0) [] true (block_with nodes.ev f.statements) s (keeps_block nodes f.statements)
    keeps_run_file None s = here value.Null s

    keeps_file : (order : List ℕ) (s : State) → Keeps s (file_with view nodes.ev order s)
    keeps_file [] s = here value.Null s
    keeps_file (k ∷ []) s = here value.Null s
    keeps_file (k ∷ n ∷ order) s =
        let s0 : State = with_order (take n order) s in
        loads s (λ m. record m { order = take n order }) _ (λ m h. h)
        (binds s0 (run_file nodes.ev (slice_get view.files k) s0) _ (keeps_run_file (slice_get view.files k) s0) (λ v s1. load_step v (λ m. record m { order = drop n order }) s1 (λ m h. h)))

    keeps_files : (n : ℕ) (s : State) → Keeps s (files_with view nodes.ev n s)
    keeps_files zero s = here On s
    keeps_files (suc n) s = binds s (file_with view nodes.ev (loading s).order s) _ (keeps_file (loading s).order s) (λ v s1. keeps_files n s1)

    keeps_include_by : (order : List ℕ) (s : State) → Keeps s (include_by view nodes.ev order s)
    keeps_include_by [] s = here On s
    keeps_include_by (n ∷ order) s = loads s (λ m. record m { order = order }) _ (λ m h. h) (keeps_files n (with_order order s))

    -- ---- all of it

    keeps_expression : (e : Expression) (s : State) → Keeps s (expression_with view nodes.ev e s)
    keeps_expression (expression l syntax.null) s = here value.Null s
    keeps_expression (expression l syntax.this) s = here s.this s
    keeps_expression (expression l syntax.globals) s = here (value.Ref 0) s
    keeps_expression (expression l (syntax.boolean b)) s = here (value.Bool b) s
    keeps_expression (expression l (syntax.number n)) s = here (value.Number n) s
    keeps_expression (expression l (syntax.string t)) s = keeps_string l t s
    keeps_expression (expression l (syntax.name n)) s = keeps_name l n s
    keeps_expression (expression l (syntax.array es)) s = binds s (values_with nodes.ev es [] s) _ (keeps_values nodes es [] s) (λ vs s1. keeps_array l vs s1)
    keeps_expression (expression l (syntax.dictionary es)) s = binds s (pairs_with nodes.ev es [] s) _ (keeps_pairs nodes es [] s) (λ ps s1. keeps_dict l ps s1)
    keeps_expression (expression l (syntax.member e n)) s = next nodes e s _ (λ v s1. keeps_part l v (value.Str n) s1)
    keeps_expression (expression l (syntax.index e k)) s = next nodes e s _ (λ v s1. next nodes k s1 _ (λ i s2. keeps_part l v i s2))
    keeps_expression (expression l (syntax.call e es)) s = keeps_call nodes view l e es s
    keeps_expression (expression l (syntax.unary o e)) s = next nodes e s _ (λ v s1. keeps_settled op_kind l 0 (unary_outcome s1.cells o v) s1)
    keeps_expression (expression l (syntax.binary o a b)) s = keeps_binary nodes l o a b s
    keeps_expression (expression l (syntax.function_value f)) s = keeps_function nodes l f s

    keeps_kind : (l : Place) (k : StatementKind) (s : State) → Keeps s (statement_kind_with view nodes.ev l k s)
    keeps_kind l (syntax.object kind e us b) s = keeps_object l kind e us b s
    keeps_kind l (syntax.template kind e us b) s = keeps_template l kind e us b s
    keeps_kind l (syntax.apply kind e to each us b) s = keeps_rule l kind e to each us b s
    keeps_kind l (syntax.const n e) s = keeps_at_load l _ s (λ s1. next nodes e s1 _ (λ v s2. keeps_constant_set l n v s2))
    keeps_kind l (syntax.include n at) s = keeps_at_load l _ s (λ s1. keeps_include_by (loading s1).order s1)
    keeps_kind l (syntax.include_library n at) s = keeps_at_load l _ s (λ s1. keeps_include_by (loading s1).order s1)
    keeps_kind l (syntax.include_all d p at) s = keeps_at_load l _ s (λ s1. keeps_include_by (loading s1).order s1)
    keeps_kind l (syntax.import e) s = keeps_import l e s
    keeps_kind l (syntax.assign e) s = here On s
    keeps_kind l (syntax.ignore e) s = here On s
    keeps_kind l (syntax.set r ss o e) s = keeps_set nodes l r ss o e s
    keeps_kind l (syntax.var n e) s = keeps_var nodes n e s
    keeps_kind l (syntax.define n f) s = keeps_define nodes l n f s
    keeps_kind l (syntax.choose arms other) s = keeps_arms nodes arms other s
    keeps_kind l (syntax.while e b) s = keeps_turns nodes e b s.steps s
    keeps_kind l (syntax.for x b) s = keeps_for nodes x b s
    keeps_kind l (syntax.return e) s = keeps_return nodes e s
    keeps_kind l syntax.break s = here (Broken l) s
    keeps_kind l syntax.continue s = here (Continued l) s
    keeps_kind l (syntax.throw e) s = next nodes e s _ (λ v s1. keeps_thrown nodes l v s1)
    keeps_kind l (syntax.eval e) s = next nodes e s _ (λ v s1. here On s1)

    keeps_callee_other : (e : Expression) (s : State) → Keeps s (value_called (expression_with view nodes.ev e s))
    keeps_callee_other e s = binds s (expression_with view nodes.ev e s) _ (keeps_expression e s) (λ v s1. here (callee.Value v s1.this) s1)

    keeps_callee : (e : Expression) (s : State) → Keeps s (callee_with nodes.ev (expression_with view nodes.ev) e s)
    keeps_callee (expression l (syntax.name n)) s = keeps_name_called l n (named n s) s
    keeps_callee (expression l (syntax.member e n)) s = next nodes e s _ (λ v s1. keeps_member_called l v n (name_in s1.cells n v) s1)
    keeps_callee (expression l (syntax.index e k)) s = next nodes e s _ (λ v s1. next nodes k s1 _ (λ i s2. keeps_part_called l v i s2))
    keeps_callee e s = keeps_callee_other e s

    keeps_flow : (x : Statement) (s : State) → Keeps s (flow_with view nodes.ev x s)
    keeps_flow (statement l k) s = counts l s _ (λ s1. keeps_kind l k s1)

    deeper : AreKeeping (one_more view nodes.ev)
    deeper = record {
      value = λ e s. counts (place_of e) s _ (λ s1. keeps_expression e s1);
      flow = keeps_flow;
      callee = λ e s. counts (place_of e) s _ (λ s1. keeps_callee e s1);
    }

  keeps_too_deep : (A : Type 0) (l : Place) (s : State) → Keeps {A = A} s (too_deep l s)
  keeps_too_deep A l s = counts l s _ (λ s1. stops _ l _ _ s1)

  flow_deep : (x : Statement) (s : State) → Keeps s (flow_too_deep x s)
  flow_deep (statement l k) s = keeps_too_deep _ l s

  at_depth : (depth : ℕ) → AreKeeping (evaluated view depth)
  unfolding evaluated
  at_depth zero = record { value = λ e s. keeps_too_deep _ (place_of e) s; flow = flow_deep; callee = λ e s. keeps_too_deep _ (place_of e) s }
  at_depth (suc depth) = deeper (record { ev = evaluated view depth; parts = at_depth depth })

-- ---- a load

load_keeps : (files : List PlainFile) (order : List ℕ) → Keeps (load_start order) (load_run files order)
unfolding load_run
load_keeps files order = keeps_file (load_view files) (record { ev = evaluated (load_view files) most_open; parts = at_depth (load_view files) most_open }) order (load_start order)

pub load_is_good : (files : List PlainFile) (order : List ℕ) (v : Value) (s : State) → load_run files order ≡ gives v s → AreGood (loaded s).items
unfolding Keeps
load_is_good files order v s e = subst (Keeps (load_start order)) e (load_keeps files order) tt
