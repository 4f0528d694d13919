use Rattle.std.proofs.Common.{◌≡◌, ◌+◌, ◌*◌, ◌/◌, ◌<◌, length, slice_index_or, None, ap, ◌∙◌, arith, rules, length-set}
use Rattle.std.proofs.lemmas.List.{get_or_default}
use Rattle.wheel_links.specs.Tree.{lesser, node_of}
use Rattle.wheel_links.proofs.Trees.{fits-all, fits-node}
use Rattle.wheel_links.proofs.tree.rewrite_above.Goals as goal

pub loop-node-preserved : goal.loop-node-preserved
loop-node-preserved c =
    let inner = c.loop-node.inner in
    let ms = c.args.moments.now in
    let p = c.loop-node.node / 2 in
    let is : c.lesser-least.result ≡ lesser (node_of inner ms (2 * p)) (node_of inner ms (2 * p + 1)) =
    c.lesser-least.ensures ∙ ap (λ z. lesser z c.moment_at-right.result) c.moment_at-left.ensures ∙ ap (lesser (node_of inner ms (2 * p))) c.moment_at-right.ensures in
    record {
      len = length-set inner p c.lesser-least.result ∙ c.loop-node.invariant.len;
      some = omega arith;
      within = omega (arith, length-set inner p c.lesser-least.result);
      others = fits-node inner ms p c.lesser-least.result (omega arith) (omega arith) c.loop-node.invariant.others is;
    }

pub returns-then-eq-clause-all : goal.returns-then-eq-clause-all
returns-then-eq-clause-all c =
    let inner = c.loop-node.inner in
    let ms = c.args.moments.now in
    let p = c.loop-node.node / 2 in
    let is : c.lesser-least.result ≡ lesser (node_of inner ms (2 * p)) (node_of inner ms (2 * p + 1)) =
    c.lesser-least.ensures ∙ ap (λ z. lesser z c.moment_at-right.result) c.moment_at-left.ensures ∙ ap (lesser (node_of inner ms (2 * p))) c.moment_at-right.ensures in
    let low : p < length inner = omega arith in
    let has : slice_index_or inner p c.index-inner-node.result ≡ c.lesser-least.result = search rules in
    fits-all inner ms p low c.loop-node.invariant.others (get_or_default inner p None c.index-inner-node.result low ∙ (has ∙ is))
