-- The books of the first ones are back, and their segments are told.
use Rattle.std.proofs.Common.{◌≡◌, ◌+◌, ◌++◌, List, length, drop}
use Rattle.std.specs.Vec.Iter.{into_iter_items}
use Rattle.checkable_core.specs.Contents.{Contents}
use Rattle.site_posts.specs.Lent.{AreTaken, with_books}
use Rattle.site_posts.proofs.Booked.{segments_with}
use Rattle.site_posts.proofs.GivenBack.{IsBack}
use Rattle.site_posts.proofs.lending.put_back.Given as goal

abbrev pub invariant-loop-state : goal.invariant-loop-state
invariant-loop-state l = record {
  count : l.at + length (into_iter_items l.state-iterator) ≡ length l.fn.ended.items;
  books : (all taken : List Contents) → AreTaken all l.touched taken l.fn.books.items → IsBack (drop l.at l.touched) (into_iter_items l.state-iterator) l.books.items (with_books all l.touched l.fn.ended.items);
  told : l.segments.items ++ segments_with (drop l.at l.touched) (into_iter_items l.state-iterator) ≡ segments_with l.touched l.fn.ended.items;
}
