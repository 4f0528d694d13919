-- One book more is out.
use Rattle.std.proofs.Common.{◌≡◌, ◌<◌, ◌++◌, [], ◌∷◌, sym, ap, ◌∙◌, subst, append_assoc}
use Rattle.std.specs.List.{swap_remove}
use Rattle.std.specs.Iterator.Adapters.{rev_source}
use Rattle.std.specs.Slice.Iter.{iter_rest}
use Rattle.site_posts.specs.Lent.{AreTaken}
use Rattle.site_posts.proofs.TakenOut.{next_taken, next_within}
use Rattle.site_posts.proofs.lending.take_out.Goals as goal

pub swap_remove-requires : goal.swap_remove-requires
swap_remove-requires c =
    let so_far = c.loop-checkable.invariant in
    let k = c.in-Some.checkable.now in
    let rest = iter_rest (rev_source c.next.new.self) in
    let are : rest ++ k ∷ so_far.0 ≡ c.args.touched.now = sym (append_assoc rest (k ∷ []) so_far.0) ∙ ap (λ ks. ks ++ so_far.0) (sym c.in-Some.ensures.steps) ∙ so_far.1 in
    subst (λ n. k < n) (sym c.loop-checkable.books.ok.0) (next_within c.args.books.now.items c.args.touched.now c.requires.ascends c.requires.within rest k so_far.0 are c.loop-checkable.taken.items c.loop-checkable.books.items so_far.2)

pub loop-checkable-preserved : goal.loop-checkable-preserved
loop-checkable-preserved c =
    let so_far = c.loop-checkable.invariant in
    let k = c.in-Some.checkable.now in
    let all = c.args.books.now.items in
    let left = c.loop-checkable.books.items in
    let rest = iter_rest (rev_source c.next.new.self) in
    let are : rest ++ k ∷ so_far.0 ≡ c.args.touched.now = sym (append_assoc rest (k ∷ []) so_far.0) ∙ ap (λ ks. ks ++ so_far.0) (sym c.in-Some.ensures.steps) ∙ so_far.1 in (
      k ∷ so_far.0,
      are,
      subst (AreTaken all (k ∷ so_far.0) c.push.new.self.items) (sym c.swap_remove.ensures.items)
          (subst (λ ts. AreTaken all (k ∷ so_far.0) ts (swap_remove left k c.swap_remove.result)) (sym c.in_ok-push.ensures.items)
          (next_taken all c.args.touched.now c.requires.ascends c.requires.within rest k so_far.0 are c.loop-checkable.taken.items left so_far.2 c.swap_remove.result c.swap_remove.ensures.value)),
    )
