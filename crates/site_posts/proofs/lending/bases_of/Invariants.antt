-- The bases of the first ones are made, and the books of the others are still to come.
use Rattle.std.proofs.Common.{◌≡◌, ◌+◌, List, length}
use Rattle.checkable_core.specs.Contents.{Contents}
use Rattle.site_model.specs.PlainSite.{site_view}
use Rattle.site_posts.specs.Books.{AreBooks}
use Rattle.site_posts.specs.Lent.{AreTaken}
use Rattle.site_posts.proofs.Basing.{IsBased}
use Rattle.site_posts.proofs.lending.bases_of.Given as goal

abbrev pub invariant-loop-checkable : goal.invariant-loop-checkable
invariant-loop-checkable l = record {
  count : length l.taken.items + l.checkable-index ≡ length l.touched;
  based : (books left : List Contents) → AreBooks (site_view l.setting.site.now) l.setting.moment books → AreTaken books l.touched l.fn.taken.items left
      → IsBased (site_view l.setting.site.now) l.setting.zone.now l.setting.moment books l.touched l.checkable-index l.taken.items l.bases.items;
}
