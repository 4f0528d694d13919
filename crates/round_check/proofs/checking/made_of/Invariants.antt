-- What was told so far was made, and with what is left comes to all.
use Rattle.std.proofs.Common.{◌≡◌, List, length, map}
use Rattle.std.specs.Vec.Iter.{into_iter_items}
use Rattle.checkable_core.specs.Entries.{rules_in}
use Rattle.run_meaning.specs.Runs.{no_entries}
use Rattle.run_meaning.specs.Turns.{Asked, Histories}
use Rattle.site_model.specs.PlainSite.{site_view}
use Rattle.site_posts.specs.Books.{AreBooks, histories_of}
use Rattle.round_check.specs.Kept.{AreWanted, AreWithin, IsMaking}
use Rattle.round_check.specs.Making.{made_from}
use Rattle.round_check.specs.Ordered.{told_by_rank}
use Rattle.round_check.proofs.checking.made_of.Given as goal

abbrev pub invariant-loop-ranked : goal.invariant-loop-ranked
invariant-loop-ranked l =
    let s = site_view l.setting.site.now in
    let rules = rules_in s l.setting.zone.now in
    let now = l.setting.moment in
    let before = histories_of l.fn.books.items in
    let left = map told_by_rank (into_iter_items l.ranked-iterator) in
    record {
      within : AreWithin s left;
      books : AreBooks s now l.books.items;
      many : length l.making.own.items ≡ length l.wanted;
      made : (events : List (List Asked)) → AreWanted events l.wanted → length events ≡ l.callers
          → (round : Histories) × IsMaking s now before l.callers round l.making l.books.items × (made_from rules now before events left round ≡ made_from rules now before events (map told_by_rank l.fn.order.items) (no_entries s));
    }
