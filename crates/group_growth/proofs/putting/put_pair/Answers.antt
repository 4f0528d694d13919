-- The pair goes to the gap for its key.
use Rattle.std.proofs.Common.{◌≡◌, ℕ, List, ◌<◌, ◌≤◌, true, false, length, slice_index_or, slice_set, rules, arith, sym, ap, subst, ◌∙◌}
use Rattle.std.specs.List.{insert}
use Rattle.std.specs.Str.{bytes_eq}
use Rattle.std.proofs.lemmas.Slice.Eq.{bytes_eq-Decides}
use Rattle.site_base.specs.View.{pairs_view}
use Rattle.site_base.specs.declared.tree.Tree.{Tree}
use Rattle.group_growth.specs.Adding.{gap_for}
use Rattle.group_growth.proofs.GapLaws.{put_here, put_between, same_at}
use Rattle.group_growth.proofs.putting.put_pair.Goals as goal
use Rattle.group_growth.proofs.putting.put_pair.Goals.{else-at-len-via-then-at-len+else-eq, else-at-len-via-else-at-len}

pub returns-then-eq : goal.returns-then-eq
returns-then-eq c =
    let k = c.args.key in
    let ps = c.args.pairs.now.items in
    let d = c.index.result.now in
    let at : c.gap-at.result ≡ gap_for k ps = c.gap-at.ensures.gap ∙ ap (gap_for k) c.deref.ensures.value in
    let within : c.gap-at.result < length ps = search rules in
    let hit : bytes_eq (slice_index_or ps (gap_for k ps) d).0 k ≡ true =
    ap (λ i. bytes_eq (slice_index_or ps i d).0 k) (sym at) ∙ ap (λ p. bytes_eq p.0 k) (sym c.index.ensures) ∙ sym c.eq.ensures ∙ c.if-eq.true in
    let one : c.index_mut.result.now ≡ d = c.index_mut.ensures.value ∙ same_at ps c.gap-at.result c.index_mut.result.now d within ∙ sym c.index.ensures in
    let same : c.index_mut.result.now.0 ≡ k = ap (λ p. p.0) one ∙ (bytes_eq-Decides d.0 k).0 (sym c.eq.ensures ∙ c.if-eq.true) in
    ap (λ z. pairs_view (slice_set ps c.gap-at.result (z, c.args.tree))) same
    ∙ ap (λ i. pairs_view (slice_set ps i (k, c.args.tree))) at
    ∙ put_here k c.args.tree d ps (subst (λ i. i < length ps) at within) hit

pub returns-in_ok-insert : goal.returns-in_ok-insert
returns-in_ok-insert c =
    let k = c.args.key in
    let ps = c.args.pairs.now.items in
    let d : List ℕ × Tree = (k, c.args.tree) in
    let at : c.gap-at.result ≡ gap_for k ps = c.gap-at.ensures.gap ∙ ap (gap_for k) c.deref.ensures.value in
    let miss : gap_for k ps < length ps → bytes_eq (slice_index_or ps (gap_for k ps) d).0 k ≡ false = λ inside.
    elim c.else-at-len.branch [
      | else-at-len-via-then-at-len+else-eq w ↦
          ap (λ p. bytes_eq p.0 k) (same_at ps (gap_for k ps) d w.index.result.now inside)
          ∙ ap (λ i. bytes_eq (slice_index_or ps i w.index.result.now).0 k) (sym at)
          ∙ ap (λ p. bytes_eq p.0 k) (sym w.index.ensures)
          ∙ sym w.eq.ensures
          ∙ w.if-eq.false
      | else-at-len-via-else-at-len w ↦
          let past : length ps ≤ c.gap-at.result = search rules in
          absurd (omega (arith, past, inside, at))
    ] in
    ap pairs_view c.in_ok-insert.ensures.items
    ∙ ap (λ i. pairs_view (insert ps i d)) at
    ∙ put_between k c.args.tree d ps miss
