-- So far there is what is seen of each.
use Rattle.std.proofs.Common.{◌≡◌, map, take}
use Rattle.site_model.specs.PlainSite.{site_view}
use Rattle.site_posts.specs.Books.{histories_of}
use Rattle.site_posts.specs.Outlooks.{Leads}
use Rattle.site_posts.specs.declared.ahead.Ahead.{Ahead}
use Rattle.site_posts.proofs.ahead.outlook_of.Given as goal

abbrev pub invariant-loop-ancestor : goal.invariant-loop-ancestor
invariant-loop-ancestor l = record {
  names : map (λ (a : Ahead). a.ancestor) l.ahead.items ≡ take l.ancestor-index l.ancestors;
  leads : Leads (site_view l.setting.site.now) (histories_of l.books) l.touched l.ahead.items l.posts.items;
}
