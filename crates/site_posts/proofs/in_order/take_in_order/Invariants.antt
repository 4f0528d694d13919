-- The acts so far were taken, and those that are left are the others.
use Rattle.std.proofs.Common.{◌≡◌, ◌++◌, List, All, Contains, length, map}
use Rattle.std.specs.Vec.Iter.{into_iter_items}
use Rattle.run_meaning.specs.Alone.{AreOnSite, Move, moves_of}
use Rattle.run_meaning.specs.Turns.{Asked, Histories}
use Rattle.site_model.specs.PlainSite.{site_view}
use Rattle.site_posts.specs.Books.{AreBooks, histories_of}
use Rattle.site_posts.specs.Made.{asked_of}
use Rattle.site_posts.specs.Progress.{HasCome}
use Rattle.site_posts.specs.declared.act.Act.{Act}
use Rattle.site_posts.proofs.in_order.take_in_order.Given as goal

abbrev pub invariant-loop-act : goal.invariant-loop-act
invariant-loop-act l =
    let s = site_view l.setting.site.now in
    let touched = l.fn.gathered.touched.items in
    record {
      books : AreBooks s l.setting.moment l.books.items;
      acts : AreOnSite s (map asked_of (into_iter_items l.act-iterator));
      among : All (λ (act : Act). Contains touched act.checkable) (into_iter_items l.act-iterator);
      same : l.gathered.touched ≡ l.fn.gathered.touched;
      whole : length l.gathered.rows.items ≡ length l.fn.gathered.rows.items;
      so_far : (taken : List Asked)
          × (taken ++ map asked_of (into_iter_items l.act-iterator) ≡ map asked_of l.fn.list.items)
          × ((before : Histories) (done : List Move) → HasCome s l.setting.zone.now l.setting.moment before touched done (histories_of l.fn.books.items) l.fn.gathered.rows.items
          → HasCome s l.setting.zone.now l.setting.moment before touched (done ++ moves_of l.caller taken) (histories_of l.books.items) l.gathered.rows.items);
    }
