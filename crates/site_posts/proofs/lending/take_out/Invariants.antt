-- The books of the last ones are out.
use Rattle.std.proofs.Common.{◌≡◌, ◌++◌, ℕ, List}
use Rattle.std.specs.Iterator.Adapters.{rev_source}
use Rattle.std.specs.Slice.Iter.{iter_rest}
use Rattle.site_posts.specs.Lent.{AreTaken}
use Rattle.site_posts.proofs.lending.take_out.Given as goal

abbrev pub invariant-loop-checkable : goal.invariant-loop-checkable
invariant-loop-checkable l = (back : List ℕ) × (iter_rest (rev_source l.checkable-iterator) ++ back ≡ l.touched) × AreTaken l.fn.books.items back l.taken.items l.books.items
