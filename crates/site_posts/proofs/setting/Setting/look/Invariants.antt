-- So far there is what each shows.
use Rattle.std.proofs.Common.{◌≡◌, map, take}
use Rattle.site_model.specs.PlainSite.{site_view}
use Rattle.site_posts.specs.Books.{histories_of}
use Rattle.site_posts.specs.Sights.{shown_by}
use Rattle.site_posts.proofs.setting.Setting.look.Given as goal

abbrev pub invariant-loop-ancestor : goal.invariant-loop-ancestor
invariant-loop-ancestor l = l.sights.items ≡ map (shown_by (site_view l.self.site.now) (histories_of l.books)) (take l.ancestor-index l.ancestors)
