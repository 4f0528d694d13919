-- What is given changes nothing of the site.
use Rattle.std.proofs.Common.{◌≡◌, Result, Ok, Err, ap, ◌∙◌}
use Rattle.std.specs.Result.{OnOk}
use Rattle.down_recur.specs.Contents.{Contents, after}
use Rattle.site_model.specs.PlainSite.{site_view}
use Rattle.site_posts.specs.Books.{histories_of}
use Rattle.whole_runs.proofs.feeding.RecurFeedFeed.lines.Goals as goal

on_ok : {T E : Type 0} (r : Result T E) (X Y : Type 0) → (X → Y) → OnOk r X → OnOk r Y
on_ok (Ok x) X Y f h = f h
on_ok (Err e) X Y f h = tt

pub returns-clause-made : goal.returns-clause-made
unfolding after
returns-clause-made c s e =
    on_ok c.lines.result (c.lines.new.self ≡ after c.args.self.now.recur (histories_of c.args.books.now) c.args.moment) (site_view c.lines.new.self.site ≡ s)
    (λ is. ap (λ (k : Contents). site_view k.site) is ∙ e) c.lines.ensures.after
