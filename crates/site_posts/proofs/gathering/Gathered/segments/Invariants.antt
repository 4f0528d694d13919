-- What is left comes behind the segments so far.
use Rattle.std.proofs.Common.{◌≡◌, ◌+◌, ◌++◌, length, drop}
use Rattle.std.specs.Vec.Iter.{into_iter_items}
use Rattle.site_posts.proofs.Keeping.{kept_with}
use Rattle.site_posts.proofs.gathering.Gathered.segments.Given as goal

abbrev pub invariant-loop-entries : goal.invariant-loop-entries
invariant-loop-entries l = record {
  count : l.at + length (into_iter_items l.entries-iterator) ≡ length l.fn.self.rows.items;
  told : l.segments.items ++ kept_with (drop l.at l.fn.self.touched.items) (into_iter_items l.entries-iterator) ≡ kept_with l.fn.self.touched.items l.fn.self.rows.items;
}
