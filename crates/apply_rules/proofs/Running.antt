-- The evaluation of a rule, in the parts in which it is run.
use Rattle.std.proofs.Common.{◌≡◌, ◌+◌, ◌==◌, ℕ, List, [], ◌∷◌, ◌++◌, length, Option, None, Some, Result, Ok, Err, Bool, true, false, refl, sym, ap, ◌∙◌, subst, append-nil}
use Rattle.std.proofs.Math.Dec.{eqb-suc-zero}
use Rattle.std.proofs.lemmas.Bool.{false≢true}
use Rattle.std.specs.Prelude.{IfOk, OnOk}
use Rattle.site_base.specs.declared.place.Place.{Place}
use Rattle.dsl_syntax.specs.Syntax.{Loop, loop}
use Rattle.dsl_value.specs.Pairs.{Pairs}
use Rattle.dsl_value.specs.Contents.{Contents, PlainCell, with_cells}
use Rattle.dsl_value.specs.Loads.{load, grown, given}
use Rattle.dsl_value.specs.Walks.{tree_walked}
use Rattle.dsl_value.specs.declared.tree_fault.TreeFault.{TreeFault}
use Rattle.dsl_value.specs.declared.value.Value.{Value}
use Rattle.dsl_value.specs.declared.value.Value.TheVariants as value
use Rattle.site_base.specs.Data.{Data}
use Rattle.eval_meaning.specs.Evaluation.{value_of}
use Rattle.eval_meaning.specs.Frames.{entered, first_locals}
use Rattle.eval_work.specs.Works.{state_of}
use Rattle.eval_work.specs.declared.work.Work.{Work}
use Rattle.eval_work.specs.declared.stop.Stop.{Stop}
use Rattle.eval_work.specs.declared.view.WorldView.{WorldView}
use Rattle.eval_work.specs.Kept.{IsFit, IsLater, IsTold, PairsNamed}
use Rattle.eval_work.proofs.Later.{told_later}
use Rattle.item_start.specs.Ready.{IsReady}
use Rattle.eval_meaning.specs.Load.{most_open}
use Rattle.eval_meaning.specs.Members.{or_wrong}
use Rattle.eval_meaning.specs.Parts.{place_of}
use Rattle.eval_meaning.specs.Registered.{PlainItem, PlainRule}
use Rattle.eval_meaning.specs.States.{State, Outcome, gives, faults, blocked, ◌>>=◌, rule}
use Rattle.eval_meaning.specs.Views.{View}
use Rattle.commit_meaning.specs.Conditions.{no_verdict, judged}
use Rattle.commit_meaning.specs.Names.{Target, target_names}
use Rattle.commit_meaning.specs.Rules.{Element, of_value, in_rule, looped, elements_of, back_at, unless_dropped, element_judged, element_run, elements_run, first_number, rule_run}
use Rattle.commit_meaning.specs.Starts.{Trees, fresh, values_of, tree_by, tree_at, trees_at}
use Rattle.item_start.specs.Bound.{Bound, bound_in}
use Rattle.item_start.proofs.Bindings.{values_are_bound}
use Rattle.rule_expressions.specs.Framed.{in_rule_with}
use Rattle.rule_expressions.specs.Looped.{elements_by}
use Rattle.apply_rules.specs.Judging.{judged_element, unframed, looped_items}

bind_same : {A B : Type 0} (o : Outcome A) (f g : A → State → Outcome B) → ((a : A) (s : State) → f a s ≡ g a s) → (o >>= f) ≡ (o >>= g)
bind_same (gives a s) f g h = h a s
bind_same (faults l k t rs) f g h = refl
bind_same (blocked r rs) f g h = refl

-- ---- names

-- and it is ready, where it was before
pub ready_entered : {X E : Type 0} (this : Value) (locals : Pairs) (in_file : Bool) (r : Result X E) (v : WorldView) (w mid new : Work) → IsReady v w → IsLater w.store mid.store → mid.depth ≡ w.depth
    → OnOk r (new ≡ record mid { this = this; locals = locals; in_file = in_file }) → OnOk r (IsFit new) → OnOk r (IsReady v new)
ready_entered this locals in_file (Ok x) v w mid new h l d e f = record { fit = f; told = subst (λ u. IsTold v u.store) (sym e) (told_later v w.store mid.store l h.told); depth = ap (λ u. u.depth) e ∙ (d ∙ h.depth) }
ready_entered this locals in_file (Err x) v w mid new h l d e f = tt

-- names behind others
pub bound_behind : (ts us : Trees) (ps : Pairs) (cs : List PlainCell) → bound_in (ts ++ us) ps cs ≡ bound_in us (bound_in ts ps cs).pairs (bound_in ts ps cs).cells
bound_behind [] us ps cs = refl
bound_behind (t ∷ ts) us ps cs = bound_behind ts us (ps ++ (t.0, given 0 cs (load t.1)) ∷ []) (grown 0 cs (load t.1))

-- names that were prepared, and then others, are bound
module _ (captured : Pairs) (ns us : Trees) (old : Work) (first then : Contents) (ps bound locals : Pairs)
    (is_first : first ≡ with_cells old.store (bound_in ns [] old.store.cells).cells)
    (are_first : ps ≡ (bound_in ns [] old.store.cells).pairs)
    (is_then : then ≡ with_cells first (bound_in us ps first.cells).cells)
    (are_bound : bound ≡ (bound_in us ps first.cells).pairs)
    (are_locals : locals ≡ first_locals captured bound) where
  framed_is : state_of (record old { store = then; this = value.Null; locals = locals; in_file = false }) ≡ in_rule_with captured (ns ++ us) (state_of old)
  framed_is =
      let cs = old.store.cells in
      let b = bound_in us (bound_in ns [] cs).pairs (bound_in ns [] cs).cells in
      let here : state_of (record old { store = then; this = value.Null; locals = locals; in_file = false }) ≡ in_rule captured b.pairs (record (state_of old) { cells = b.cells }) =
      rw (are_locals, are_bound, is_then, are_first, is_first) refl in
      here ∙ ap (λ (x : Bound). in_rule captured x.pairs (record (state_of old) { cells = x.cells })) (sym (bound_behind ns us [] cs))

  pub framed_on : {X E : Type 0} (r : Result X E) (new : Work) → OnOk r (new ≡ record old { store = then; this = value.Null; locals = locals; in_file = false }) → OnOk r (state_of new ≡ in_rule_with captured (ns ++ us) (state_of old))
  framed_on (Ok x) new h = ap state_of h ∙ framed_is
  framed_on (Err e) new h = tt

-- no element is there
pub empty : {A : Type 0} (xs : List A) → (length xs == 0) ≡ true → xs ≡ []
empty [] e = refl
empty (x ∷ xs) e = absurd (false≢true (sym (eqb-suc-zero (length xs)) ∙ e))

-- ---- one element

-- an element is judged in the frame in which all names are bound
pub element_is : (v : View) (r : PlainRule) (t : Target) (k : ℕ) (e : Element) (names : Trees) (s : State) → element_judged v r t k e names s ≡ judged_element v r t k e.key names (in_rule_with r.captured names s)
element_is v r t k e names s =
    ap (λ o. o >>= λ bound s1. (judged v r.body no_verdict (in_rule r.captured bound s1) >>= λ w s2. unless_dropped r t k e names w s2)) (values_are_bound names [] s)

-- the frame before it counts for nothing
module _ (this : Value) (locals : Pairs) (in_file : Bool) where
  trees_unframed : {A : Type 0} (l : Place) (ps : Pairs) (ts : Trees) (s : State) (f : Trees → State → Outcome A) → ((us : Trees) → f us (entered this locals in_file s) ≡ f us s) → (trees_at l ps ts (entered this locals in_file s) >>= f) ≡ (trees_at l ps ts s >>= f)
  unfolding tree_at
  trees_unframed l [] ts s f h = h ts
  trees_unframed l (p ∷ ps) ts s f h = by (tree_walked s.cells p.1) (λ d. trees_unframed l ps (ts ++ (p.0, d) ∷ []) s f h)
    where
      by : (o : Result Data TreeFault) → ((d : Data) → (trees_at l ps (ts ++ (p.0, d) ∷ []) (entered this locals in_file s) >>= f) ≡ (trees_at l ps (ts ++ (p.0, d) ∷ []) s >>= f)) → ((tree_by l o (entered this locals in_file s) >>= λ d s1. trees_at l ps (ts ++ (p.0, d) ∷ []) s1) >>= f) ≡ ((tree_by l o s >>= λ d s1. trees_at l ps (ts ++ (p.0, d) ∷ []) s1) >>= f)
      by (Ok d) k = k d
      by (Err e) k = refl

  element_unframed : (v : View) (r : PlainRule) (t : Target) (k : ℕ) (e : Element) (s : State) → element_run v r t k e (entered this locals in_file s) ≡ element_run v r t k e s
  element_unframed v r t k e s =
      trees_unframed r.place e.bound [] s (λ own s1. element_judged v r t k e (target_names t ++ own) s1)
      (λ own. element_is v r t k e (target_names t ++ own) (entered this locals in_file s) ∙ sym (element_is v r t k e (target_names t ++ own) s))

-- ---- all elements

elements_unframed : (v : View) (r : PlainRule) (t : Target) (before : State) (k : ℕ) (es : List Element) (is : List PlainItem) (s : State) → elements_run v r t before k es is s ≡ elements_run v r t (unframed before) k es is s
elements_unframed v r t before k [] is s = refl
elements_unframed v r t before k (e ∷ es) is s =
    ap (λ o. o >>= λ js s1. elements_run v r t before (k + 1) es (is ++ js) s1) (sym (element_unframed value.Null [] false v r t k e (back_at before s)))
    ∙ bind_same (element_run v r t k e (back_at (unframed before) s)) _ _ (λ js s1. elements_unframed v r t before (k + 1) es (is ++ js) s1)

-- ---- a rule

abbrev run_by : View → PlainRule → Target → Option Loop → Outcome (List PlainItem)
run_by v r t o = elements_of v r (target_names t) o (fresh v.store rule []) >>= λ es s. elements_run v r t s (first_number o) es [] s

abbrev first_state : View → PlainRule → Target → State
first_state v r t = in_rule_with r.captured (target_names t) (fresh v.store rule [])

-- a rule without a `for`
pub once_is : (v : View) (r : PlainRule) (t : Target) → r.loop ≡ None → rule_run v r t ≡ judged_element v r t 0 [] (target_names t ++ []) (first_state v r t)
unfolding rule_run
once_is v r t h =
    ap (run_by v r t) h
    ∙ (ap (λ o. o >>= λ js s. gives js s) (element_is v r t 0 (record { key = []; bound = [] }) (target_names t ++ []) (fresh v.store rule []))
    ∙ (itself (judged_element v r t 0 [] (target_names t ++ []) (in_rule_with r.captured (target_names t ++ []) (fresh v.store rule [])))
    ∙ ap (λ ns. judged_element v r t 0 [] (target_names t ++ []) (in_rule_with r.captured ns (fresh v.store rule []))) (append-nil (target_names t))))
  where
    itself : {A : Type 0} (o : Outcome A) → (o >>= λ a s. gives a s) ≡ o
    itself (gives a s) = refl
    itself (faults l k x rs) = refl
    itself (blocked q rs) = refl

-- a rule with one
pub loop_is : (v : View) (r : PlainRule) (t : Target) (x : Loop) → r.loop ≡ Some x → rule_run v r t ≡ looped_items v r x t (first_state v r t)
unfolding rule_run
loop_is v r t x h =
    ap (run_by v r t) h
    ∙ (ap (λ o. o >>= λ es s. elements_run v r t s 1 es [] s) (looped_is x)
    ∙ bind_same (elements_by v x (first_state v r t)) _ _ (λ es s. elements_unframed v r t s 1 es [] s))
  where
    looped_is : (x : Loop) → looped v r (target_names t) x (fresh v.store rule []) ≡ elements_by v x (first_state v r t)
    looped_is (loop k o e) = ap (λ y. y >>= λ bound s1. (value_of v most_open e (in_rule r.captured bound s1) >>= λ w s2. or_wrong (place_of e) (of_value s2.cells k o w) s2)) (values_are_bound (target_names t) [] (fresh v.store rule []))

-- ---- a work that was begun

-- in this state
pub begun_at : (r : Result Work Stop) (x y : State) → x ≡ y → IfOk r (λ w. state_of w ≡ x) → IfOk r (λ w. state_of w ≡ y)
begun_at (Ok w) x y e h = h ∙ e
begun_at (Err s) x y e h = tt

-- and in this store
pub begun_named : (r : Result Work Stop) (s : Contents) (ps : Pairs) → PairsNamed s ps → IfOk r (λ w. w.store ≡ s) → IfOk r (λ w. PairsNamed w.store ps)
begun_named (Ok w) s ps h e = subst (λ c. PairsNamed c ps) (sym e) h
begun_named (Err x) s ps h e = tt
