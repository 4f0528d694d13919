use Rattle.std.proofs.Common.{◌≡◌, ◌+◌, ◌<◌, ◌^◌, ◌++◌, length, map, sym, ap, ◌∙◌, arith, length-append}
use Rattle.std.proofs.lemmas.List.{append_assoc, length-map}
use Rattle.site_base.specs.View.{view}
use Rattle.dsl_value.specs.Contents.{plain}
use Rattle.dsl_value.proofs.Kept.{added_all}
use Rattle.dsl_value.proofs.GivenBack.{same_cells, same_value, loaded_stand, store_gives_back}
use Rattle.dsl_value.proofs.Growing.{shows_tree, shows_value}
use Rattle.dsl_value.proofs.store.Store.load_tree.Goals as goal

pub invariant_of-self-2 : goal.invariant_of-self-2
invariant_of-self-2 c =
    let cs = map plain c.make_tree.new.made.items in
    let count : length (c.self.inside.frozen.cells ++ c.self.inside.live.cells) ≡ length c.args.self.now.cells = ap (λ s. length s.cells) c.self.view_is in
    let sum = length-append c.self.inside.frozen.cells c.self.inside.live.cells in
    let before : c.len.result + c.len-2.result ≡ length c.args.self.now.cells = omega (arith, c.len.ensures, c.len-2.ensures, count, sum) in
    let made = same_cells (view c.args.tree.now) (length c.args.self.now.cells) _ _ cs before (ap (map plain) c.in_ok-made.ensures.items) c.in_ok-value.ensures.cells in
    let long : length cs ≡ length c.make_tree.new.made.items = length-map c.make_tree.new.made.items plain in
    let few : length c.args.self.now.cells + length cs < 2 ^ 32 = omega (arith, c.if-len-before.false, c.len-3.ensures, c.make_tree.new.made.ok, long, before) in
    added_all c.self.inside.frozen c.self.inside.live c.self.inside.base c.self.invariant c.args.self.now c.self.view_is _ cs few
    (loaded_stand (view c.args.tree.now) (length c.args.self.now.cells) (length c.args.self.now.functions) cs made) c.in_ok-add_all.ensures.ok

pub returns-clause-given_back : goal.returns-clause-given_back
returns-clause-given_back c =
    let cs = map plain c.make_tree.new.made.items in
    let cells = c.self.inside.frozen.cells ++ c.self.inside.live.cells in
    let sum = length-append c.self.inside.frozen.cells c.self.inside.live.cells in
    let before : c.len.result + c.len-2.result ≡ length cells = omega (arith, c.len.ensures, c.len-2.ensures, sum) in
    store_gives_back cells _ (view c.args.tree.now) cs c.in_ok-value.value
    (ap (λ l. c.self.inside.frozen.cells ++ l.cells) c.in_ok-add_all.ensures.ok ∙ sym (append_assoc c.self.inside.frozen.cells c.self.inside.live.cells cs))
    (same_cells (view c.args.tree.now) (length cells) _ _ cs before (ap (map plain) c.in_ok-made.ensures.items) c.in_ok-value.ensures.cells)
    (same_value (view c.args.tree.now) (length cells) _ _ c.in_ok-value.value before (ap (map plain) c.in_ok-made.ensures.items) c.in_ok-value.ensures.value)

pub returns-clause-grows : goal.returns-clause-grows
returns-clause-grows c =
    let cs = map plain c.make_tree.new.made.items in
    let count : length (c.self.inside.frozen.cells ++ c.self.inside.live.cells) ≡ length c.args.self.now.cells = ap (λ s. length s.cells) c.self.view_is in
    let sum = length-append c.self.inside.frozen.cells c.self.inside.live.cells in
    let before : c.len.result + c.len-2.result ≡ length c.args.self.now.cells = omega (arith, c.len.ensures, c.len-2.ensures, count, sum) in
    shows_tree c.self.inside.frozen c.self.inside.live c.self.inside.base c.args.self.now c.self.view_is _ (view c.args.tree.now) cs c.in_ok-add_all.ensures.ok
    (same_cells (view c.args.tree.now) (length c.args.self.now.cells) _ _ cs before (ap (map plain) c.in_ok-made.ensures.items) c.in_ok-value.ensures.cells)

pub returns-clause-stands : goal.returns-clause-stands
returns-clause-stands c =
    let cs = map plain c.make_tree.new.made.items in
    let count : length (c.self.inside.frozen.cells ++ c.self.inside.live.cells) ≡ length c.args.self.now.cells = ap (λ s. length s.cells) c.self.view_is in
    let sum = length-append c.self.inside.frozen.cells c.self.inside.live.cells in
    let before : c.len.result + c.len-2.result ≡ length c.args.self.now.cells = omega (arith, c.len.ensures, c.len-2.ensures, count, sum) in
    shows_value c.self.inside.frozen c.self.inside.live c.self.inside.base c.args.self.now c.self.view_is _ (view c.args.tree.now) cs c.in_ok-value.value c.in_ok-add_all.ensures.ok
    (same_cells (view c.args.tree.now) (length c.args.self.now.cells) _ _ cs before (ap (map plain) c.in_ok-made.ensures.items) c.in_ok-value.ensures.cells)
    (same_value (view c.args.tree.now) (length c.args.self.now.cells) _ _ c.in_ok-value.value before (ap (map plain) c.in_ok-made.ensures.items) c.in_ok-value.ensures.value)
