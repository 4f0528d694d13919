use Rattle.std.proofs.Common.{◌≡◌, ◌+◌, ◌/◌, ◌++◌, length, set, take, drop, sym, ap, subst, ◌∙◌, arith, rules, length-set}
use Rattle.std.proofs.Math.Seq.{take-append_seam}
use Rattle.wheel_links.specs.Tree.{IsTree, FitsBut}
use Rattle.wheel_links.proofs.Trees.{fits-leaf}
use Rattle.wheel_links.proofs.tree.MomentTree.set.Goals as goal

pub rewrite_above-requires-clause-others : goal.rewrite_above-requires-clause-others
rewrite_above-requires-clause-others c =
    let w = c.self.inside in
    let count : c.len.result ≡ length w.inner.items = search rules in
    subst (λ z. FitsBut ((z + c.args.id) / 2) c.deref_mut.result.now c.deref.result.now) (sym count)
    (subst (λ z. FitsBut ((length w.inner.items + c.args.id) / 2) z c.deref.result.now) (sym c.deref_mut.ensures.value)
    (subst (FitsBut ((length w.inner.items + c.args.id) / 2) w.inner.items) (sym c.deref.ensures.value)
    (fits-leaf w.inner.items w.moments.items c.args.id c.args.moment c.self.invariant.fits)))

pub invariant_of-self : goal.invariant_of-self
invariant_of-self c =
    let w = c.self.inside in
    let inner = c.rewrite_above.new.inner in
    let moments = set w.moments.items c.args.id c.args.moment in
    let count : w.inner.len ≡ length inner = sym (c.rewrite_above.ensures.length ∙ c.deref_mut.ensures.len) in
    let back : take w.inner.len (inner ++ drop (length inner) w.inner.items) ≡ inner =
    ap (λ z. take z (inner ++ drop (length inner) w.inner.items)) count ∙ take-append_seam inner (drop (length inner) w.inner.items) in
    let same : length inner ≡ length w.inner.items = c.rewrite_above.ensures.length ∙ ap length c.deref_mut.ensures.value in
    subst (λ z. IsTree w.depth z moments) (sym back)
    (record {
      few = c.self.invariant.few;
      inner_count = same ∙ c.self.invariant.inner_count;
      leaf_each = omega (arith, length-set w.moments.items c.args.id c.args.moment, c.self.invariant.leaf_each);
      fits = subst (FitsBut 0 inner) c.deref.ensures.value c.rewrite_above.ensures.all;
    })
