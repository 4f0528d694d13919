-- There is the outlook of each so far.
use Rattle.std.proofs.Common.{◌≡◌, ℕ, length, slice_get, Some}
use Rattle.site_model.specs.PlainSite.{site_view}
use Rattle.site_posts.specs.Books.{histories_of}
use Rattle.site_posts.specs.Outlooks.{IsOutlookOf}
use Rattle.site_posts.specs.declared.ahead.Outlook.{Outlook}
use Rattle.site_posts.proofs.many.outlooks_of.Given as goal

abbrev pub invariant-loop-checkable : goal.invariant-loop-checkable
invariant-loop-checkable l = record {
  count : length l.outlooks.items ≡ l.checkable-index;
  each : (p c : ℕ) (o : Outlook) → slice_get l.touched p ≡ Some c → slice_get l.outlooks.items p ≡ Some o → IsOutlookOf (site_view l.setting.site.now) (histories_of l.books) l.touched c o;
}
