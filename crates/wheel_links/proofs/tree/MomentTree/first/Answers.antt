use Rattle.std.proofs.Common.{◌≡◌, ◌<◌, None, Some, true, is_gt, nat_cmp, sym, ap, subst, ◌∙◌, arith, rules}
use Rattle.std.proofs.lemmas.Bool.Decides.{nat_tests}
use Rattle.std.proofs.lemmas.Grind.{common_steps}
use Rattle.wheel_links.specs.Due.{IsNoneDue}
use Rattle.wheel_links.specs.Tree.{node_of}
use Rattle.wheel_links.proofs.Trees.{none_at_all, none_yet}
use Rattle.wheel_links.proofs.tree.MomentTree.first.Goals as goal

pub returns-in_default-clause-none : goal.returns-in_default-clause-none
returns-in_default-clause-none g c =
    let w = c.self.inside in
    let none : c.look.result ≡ None = search rules in
    let there : node_of c.deref.result.now c.deref-2.result.now 1 ≡ node_of w.inner.items w.moments.items 1 =
    ap (λ z. node_of z c.deref-2.result.now 1) c.deref.ensures.value ∙ ap (λ z. node_of w.inner.items z 1) c.deref-2.ensures.value in
    let root : node_of w.inner.items w.moments.items 1 ≡ None = sym there ∙ sym c.look.ensures.moment ∙ none in
    subst (λ z. IsNoneDue z c.args.now) c.self.view_is (none_at_all w.depth w.inner.items w.moments.items c.self.invariant c.args.now root)

pub returns-then-gt-clause-none : goal.returns-then-gt-clause-none
returns-then-gt-clause-none g c =
    let w = c.self.inside in
    let there : node_of c.deref.result.now c.deref-2.result.now 1 ≡ node_of w.inner.items w.moments.items 1 =
    ap (λ z. node_of z c.deref-2.result.now 1) c.deref.ensures.value ∙ ap (λ z. node_of w.inner.items z 1) c.deref-2.ensures.value in
    let root : node_of w.inner.items w.moments.items 1 ≡ Some c.in-Some.least = sym there ∙ sym c.look.ensures.moment ∙ c.in-Some.is in
    let is : is_gt (nat_cmp c.in-Some.least c.args.now) ≡ true = sym c.gt.ensures ∙ c.if-gt.true in
    let later : c.args.now < c.in-Some.least = grind (arith, common_steps, nat_tests) in
    subst (λ z. IsNoneDue z c.args.now) c.self.view_is (none_yet w.depth w.inner.items w.moments.items c.self.invariant c.args.now c.in-Some.least root later)
