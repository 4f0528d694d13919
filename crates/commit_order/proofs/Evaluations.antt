-- Over views in which the same is found under each name the same is evaluated.
use Rattle.std.proofs.Common.{◌≡◌, ℕ, zero, suc, List, [], ◌∷◌, take, drop, refl, ap, ◌∙◌}
use Rattle.std.specs.Prelude.{slice_get}
use Rattle.std.proofs.Math.Path.{fun_ext}
use Rattle.site_base.specs.declared.place.Place.{Place}
use Rattle.dsl_syntax.specs.Syntax as syntax
use Rattle.dsl_syntax.specs.Syntax.{Expression, expression, Expressions, Statement, statement, StatementKind, Statements, Uses}
use Rattle.dsl_value.specs.declared.value.Value.{Value}
use Rattle.dsl_value.specs.declared.value.Value.TheVariants as value
use Rattle.dsl_lib.specs.declared.names.LibraryCall.{LibraryCall}
use Rattle.dsl_lib.specs.declared.names.LibraryCall.TheVariants as library
use Rattle.eval_meaning.specs.Registered.{PlainFile}
use Rattle.eval_meaning.specs.Views.{View, host, service}
use Rattle.eval_meaning.specs.States as states
use Rattle.eval_meaning.specs.States.{State, Outcome, gives, faults, blocked, ◌>>=◌, step, Task}
use Rattle.eval_meaning.specs.Parts.{Parts, place_of}
use Rattle.eval_meaning.specs.Literals.{values_with}
use Rattle.eval_meaning.specs.Objects.{seen, read, read_host, read_service}
use Rattle.eval_meaning.specs.Calls.{value_called, callee_with, own_value, library_with, called_with, call_with}
use Rattle.eval_meaning.specs.Templates.{run_template, in_item, imported_by, import_with}
use Rattle.eval_meaning.specs.Registration.{loading, at_load, object_with, template_with}
use Rattle.eval_meaning.specs.Files.{with_order, run_file, file_with, files_with, include_by, include_with}
use Rattle.eval_meaning.specs.Evaluation.{expression_with, statement_kind_with, value_with, flow_with, called_value_with, one_more, evaluated}
use Rattle.eval_meaning.specs.declared.callee.Callee.{Callee}
use Rattle.eval_meaning.specs.declared.callee.Callee.TheVariants as callee
use Rattle.eval_meaning.specs.declared.flow.Flow.{Flow}
use Rattle.eval_meaning.specs.declared.read.Read.{Read}
use Rattle.commit_order.specs.Alike.{LookAlike}

-- ---- one evaluation after another

pub afterwards : {A B : Type 0} (x : Outcome A) (f g : A → State → Outcome B) → ((a : A) (s : State) → f a s ≡ g a s) → (x >>= f) ≡ (x >>= g)
afterwards (gives a s) f g h = h a s
afterwards (faults l k t rs) f g h = refl
afterwards (blocked r rs) f g h = refl

pub both : {A B : Type 0} (x y : Outcome A) (f g : A → State → Outcome B) → x ≡ y → ((a : A) (s : State) → f a s ≡ g a s) → (x >>= f) ≡ (y >>= g)
both x y f g e h = ap (λ z. z >>= f) e ∙ afterwards y f g h

abbrev parts_of : (Expression → State → Outcome Value) → (Statement → State → Outcome Flow) → (Expression → State → Outcome Callee) → Parts
parts_of v f c = record { value = v; flow = f; callee = c }

module _ (view other : View) (alike : LookAlike view other) where
  -- ---- reads

  reads : (l : Place) (r : Read) (s : State) → read view l r s ≡ read other l r s
  unfolding read
  reads l r s = ap (λ o. seen l r o s) (alike.sights r)

  read_hosts : (l : Place) (vs : List Value) (s : State) → read_host view l vs s ≡ read_host other l vs s
  read_hosts l [] s = refl
  read_hosts l (value.Str n ∷ []) s = reads l (host n) s
  read_hosts l (v ∷ []) s = refl
  read_hosts l (value.Str n ∷ w ∷ vs) s = refl
  read_hosts l (v ∷ w ∷ vs) s = refl

  read_services : (l : Place) (vs : List Value) (s : State) → read_service view l vs s ≡ read_service other l vs s
  read_services l [] s = refl
  read_services l (value.Str h ∷ []) s = refl
  read_services l (v ∷ []) s = refl
  read_services l (value.Str h ∷ value.Str n ∷ []) s = reads l (service h n) s
  read_services l (value.Str h ∷ w ∷ []) s = refl
  read_services l (v ∷ w ∷ []) s = refl
  read_services l (value.Str h ∷ value.Str n ∷ w ∷ vs) s = refl
  read_services l (value.Str h ∷ v ∷ w ∷ vs) s = refl
  read_services l (u ∷ v ∷ w ∷ vs) s = refl

  -- ---- nodes that look at the view

  module _ (ev : Parts) where
    libraries : (l : Place) (c : LibraryCall) (vs : List Value) (s : State) → library_with view ev l c vs s ≡ library_with other ev l c vs s
    libraries l (library.Plain c) vs s = refl
    libraries l library.GetHost vs s = read_hosts l vs s
    libraries l library.GetService vs s = read_services l vs s
    libraries l library.Map vs s = refl
    libraries l library.Filter vs s = refl
    libraries l library.Any vs s = refl
    libraries l library.All vs s = refl

    called : (l : Place) (c : Callee) (vs : List Value) (s : State) → called_with view ev l c vs s ≡ called_with other ev l c vs s
    called l (callee.Value v this) vs s = refl
    called l (callee.Function c) vs s = libraries l c vs s
    called l (callee.Method c v) vs s = libraries l c vs s

    calls : (l : Place) (e : Expression) (es : Expressions) (s : State) → call_with view ev l e es s ≡ call_with other ev l e es s
    calls l e es s = afterwards (ev.callee e s) _ _ (λ c s1. afterwards (values_with ev es (own_value c) s1) _ _ (λ vs s2. called l c vs s2))

    imported : (l : Place) (v : Value) (t : Task) (s : State) → imported_by view ev l v t s ≡ imported_by other ev l v t s
    imported l (value.Str n) (states.item kind bound) s = ap (λ o. run_template ev l n bound o s) (alike.templates kind n)
    imported l (value.Str n) (states.load m) s = refl
    imported l (value.Str n) states.rule s = refl
    imported l v t s = refl

    imports : (l : Place) (e : Expression) (s : State) → import_with view ev l e s ≡ import_with other ev l e s
    imports l e s = afterwards (in_item l s) _ _ (λ _ s1. afterwards (ev.value e s1) _ _ (λ v s2. imported l v s2.task s2))

    -- ---- files, which are the same

    abbrev of_files : List PlainFile → View
    of_files files = record other { files = files }

    objects : (l : Place) (kind : List ℕ) (e : Expression) (us : Uses) (b : Statements) (s : State) → object_with view ev l kind e us b s ≡ object_with other ev l kind e us b s
    objects l kind e us b s = ap (λ files. object_with (of_files files) ev l kind e us b s) alike.files

    templates : (l : Place) (kind : List ℕ) (e : Expression) (us : Uses) (b : Statements) (s : State) → template_with view ev l kind e us b s ≡ template_with other ev l kind e us b s
    templates l kind e us b s = ap (λ files. template_with (of_files files) ev l kind e us b s) alike.files

    one_file : (order : List ℕ) (s : State) → file_with view ev order s ≡ file_with other ev order s
    one_file [] s = refl
    one_file (k ∷ []) s = refl
    one_file (k ∷ n ∷ order) s = ap (λ files. run_file ev (slice_get files k) (with_order (take n order) s) >>= λ v s1. gives v (with_order (drop n order) s1)) alike.files

    all_files : (n : ℕ) (s : State) → files_with view ev n s ≡ files_with other ev n s
    all_files zero s = refl
    all_files (suc n) s = both (file_with view ev (loading s).order s) (file_with other ev (loading s).order s) _ _ (one_file (loading s).order s) (λ _ s1. all_files n s1)

    included : (order : List ℕ) (s : State) → include_by view ev order s ≡ include_by other ev order s
    included [] s = refl
    included (n ∷ order) s = all_files n (with_order order s)

    includes : (l : Place) (s : State) → include_with view ev l s ≡ include_with other ev l s
    includes l s = afterwards (at_load l s) _ _ (λ _ s1. included (loading s1).order s1)

    -- ---- all nodes

    expressions : (e : Expression) (s : State) → expression_with view ev e s ≡ expression_with other ev e s
    expressions (expression l (syntax.call e es)) s = calls l e es s
    expressions (expression l k) s = refl

    kinds : (l : Place) (k : StatementKind) (s : State) → statement_kind_with view ev l k s ≡ statement_kind_with other ev l k s
    kinds l (syntax.object kind e us b) s = objects l kind e us b s
    kinds l (syntax.template kind e us b) s = templates l kind e us b s
    kinds l (syntax.include n at) s = includes l s
    kinds l (syntax.include_library n at) s = includes l s
    kinds l (syntax.include_all d p at) s = includes l s
    kinds l (syntax.import e) s = imports l e s
    kinds l k s = refl

    values : (e : Expression) (s : State) → value_with view ev e s ≡ value_with other ev e s
    values e s = afterwards (step (place_of e) s) _ _ (λ _ s1. expressions e s1)

    flows : (x : Statement) (s : State) → flow_with view ev x s ≡ flow_with other ev x s
    flows (statement l k) s = afterwards (step l s) _ _ (λ _ s1. kinds l k s1)

    others_called : (e : Expression) (s : State) → value_called (expression_with view ev e s) ≡ value_called (expression_with other ev e s)
    others_called e s = ap (λ x. value_called x) (expressions e s)

    callees : (e : Expression) (s : State) → callee_with ev (expression_with view ev) e s ≡ callee_with ev (expression_with other ev) e s
    callees (expression l (syntax.name n)) s = refl
    callees (expression l (syntax.member e n)) s = refl
    callees (expression l (syntax.index e k)) s = refl
    callees e s = others_called e s

    values_called : (e : Expression) (s : State) → called_value_with view ev e s ≡ called_value_with other ev e s
    values_called e s = afterwards (step (place_of e) s) _ _ (λ _ s1. callees e s1)

    deeper : one_more view ev ≡ one_more other ev
    deeper =
        ap (λ v. parts_of v (flow_with view ev) (called_value_with view ev)) (fun_ext (λ e. fun_ext (λ s. values e s)))
        ∙ ap (λ f. parts_of (value_with other ev) f (called_value_with view ev)) (fun_ext (λ x. fun_ext (λ s. flows x s)))
        ∙ ap (λ c. parts_of (value_with other ev) (flow_with other ev) c) (fun_ext (λ e. fun_ext (λ s. values_called e s)))

  pub evaluations : (depth : ℕ) → evaluated view depth ≡ evaluated other depth
  unfolding evaluated
  evaluations zero = refl
  evaluations (suc depth) = ap (one_more view) (evaluations depth) ∙ deeper (evaluated other depth)
