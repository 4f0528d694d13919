-- An item's evaluation up to the beginning of its body.
use Rattle.std.proofs.Common.{◌≡◌, ℕ, List, [], length, map, false, refl, ap, sym, ◌∙◌}
use Rattle.site_base.specs.declared.tree.Tree.{Tree}
use Rattle.dsl_value.specs.Pairs.{Pairs, dict_of}
use Rattle.dsl_value.specs.Contents.{PlainCell, Contents, with_cells, dict}
use Rattle.dsl_value.specs.PlainStores.{plain_store}
use Rattle.dsl_value.specs.declared.value.Value.{Value}
use Rattle.dsl_value.specs.declared.value.Value.TheVariants as value
use Rattle.eval_meaning.specs.Frames.{first_locals, entered}
use Rattle.eval_meaning.specs.Registered.{PlainItem}
use Rattle.eval_meaning.specs.States.{State, ◌>>=◌, item, with_new}
use Rattle.eval_meaning.specs.Views.{View}
use Rattle.eval_work.specs.Works.{state_of, view_of, plain_pair}
use Rattle.eval_work.specs.declared.view.WorldView.{WorldView}
use Rattle.eval_work.specs.declared.work.Work.{Work}
use Rattle.commit_meaning.specs.Items.{in_body, body_run, item_run}
use Rattle.commit_meaning.specs.Starts.{fresh, values_of}
use Rattle.item_start.proofs.Bindings.{values_are_bound}
use Rattle.item_start.specs.Bound.{Bound, bound_in}
use Rattle.item_body.specs.Bodies.{with_this, body_left}

-- the names of an item with their values, made behind these cells, and its presets with theirs behind them
abbrev names_in : PlainItem → List PlainCell → Bound
names_in i cs = bound_in i.names [] cs

abbrev presets_in : PlainItem → List PlainCell → Bound
presets_in i cs = bound_in i.presets [] (names_in i cs).cells

abbrev this_in : PlainItem → List PlainCell → Value
this_in i cs = value.Ref (length (presets_in i cs).cells)

-- the state at the beginning of the body
abbrev state_in : View → PlainItem → State
state_in v i = in_body i (names_in i v.store.cells).pairs (this_in i v.store.cells) (record (fresh v.store (item i.kind []) []) { cells = with_this (presets_in i v.store.cells) })

run_is : (v : View) (i : PlainItem) → item_run v i ≡ body_left v i (this_in i v.store.cells) (state_in v i)
unfolding item_run
run_is v i =
    let s = fresh v.store (item i.kind []) [] in
    let b = names_in i v.store.cells in
    ap (λ o. o >>= λ bound s1. (values_of i.presets [] s1 >>= λ presets s2. (with_new (dict (dict_of presets [])) s2 >>= λ this s3. body_run v i bound this s3))) (values_are_bound i.names [] s)
    ∙ ap (λ o. o >>= λ presets s2. (with_new (dict (dict_of presets [])) s2 >>= λ this s3. body_run v i b.pairs this s3)) (values_are_bound i.presets [] (record s { cells = b.cells }))

-- a work that was made step by step as the definition goes is at the beginning of the body
pub at_body : (v : WorldView) (i : PlainItem) (s0 s1 s2 : Contents) (bound names locals : Pairs) (this : Value) (w0 w : Work)
    → s0 ≡ v.store.now
    → s1 ≡ with_cells s0 (bound_in i.names [] s0.cells).cells
    → bound ≡ (bound_in i.names [] s0.cells).pairs
    → s2 ≡ with_cells s1 (with_this (bound_in i.presets [] s1.cells))
    → this ≡ value.Ref (length (bound_in i.presets [] s1.cells).cells)
    → names ≡ dict_of bound []
    → locals ≡ first_locals i.captured bound
    → state_of w0 ≡ fresh (plain_store s2) (item i.kind names) []
    → w ≡ record w0 { this = this; locals = locals; in_file = false }
    → item_run (view_of v) i ≡ body_left (view_of v) i w.this (state_of w)
at_body v i s0 s1 s2 bound names locals this w0 w e0 e1 eb e2 et en el e ew =
    let here : entered this locals false (state_of w0) ≡ state_in (view_of v) i = ap (entered this locals false) e ∙ (rw (et, el, en, e2, eb, e1, e0) refl) in
    let that : this ≡ this_in i v.store.now.cells = rw (et, e1, e0) refl in
    run_is (view_of v) i ∙ sym (ap (λ x. body_left (view_of v) i x.this (state_of x)) ew ∙ ap (body_left (view_of v) i this) here ∙ ap (λ x. body_left (view_of v) i x (state_in (view_of v) i)) that)

-- the same names, bound behind none
pub bound_from : (ns ms : List (List ℕ × Tree)) (ps : Pairs) (cs : List PlainCell) → ns ≡ ms → ps ≡ [] → bound_in (map plain_pair ns) ps cs ≡ bound_in (map plain_pair ms) [] cs
bound_from ns ms ps cs e f = ap (λ xs. bound_in (map plain_pair xs) ps cs) e ∙ ap (λ qs. bound_in (map plain_pair ms) qs cs) f
