-- So far all was seen.
use Rattle.std.proofs.Common.{◌≡◌, ℕ, map, take, true}
use Rattle.std.specs.List.{list_all}
use Rattle.run_meaning.specs.Runs.{joined}
use Rattle.run_meaning.specs.Turns.{Histories}
use Rattle.site_model.specs.PlainSite.{site_view}
use Rattle.site_model.specs.declared.sight.Sight.{Sight}
use Rattle.site_model.specs.declared.view.View.{View}
use Rattle.site_posts.specs.Books.{histories_of}
use Rattle.round_check.specs.Kept.{AreViews, seen_told}
use Rattle.round_check.specs.Making.{is_sight}
use Rattle.round_check.proofs.making.sights_told.Given as goal

abbrev pub invariant-loop-sight : goal.invariant-loop-sight
invariant-loop-sight l =
    (map (λ (x : ℕ × View). x.0) l.seen.items ≡ map (λ (x : Sight). x.checkable) (take l.sight-index l.sights))
    × ((before round : Histories) → AreViews (site_view l.setting.site.now) before round l.views.lists.entries → histories_of l.books ≡ joined before round
    → (l.seen.items ≡ seen_told (site_view l.setting.site.now) before round (take l.sight-index l.sights)) × (list_all (is_sight before round) (take l.sight-index l.sights) ≡ true))
