-- What is given is what the definition says.
use Rattle.std.proofs.Common.{◌++◌, List, map, Option, ap, ◌∙◌}
use Rattle.std.specs.List.{flat_map}
use Rattle.jiff_tz.specs.declared.tzif.Tzif.{Tzif}
use Rattle.site_model.specs.PlainSite.{site_view}
use Rattle.site_model.specs.declared.site.Site.{Site}
use Rattle.site_posts.specs.Books.{histories_of}
use Rattle.down_recur.specs.Contents.{Contents, after, gives}
use Rattle.down_recur.specs.Giving.{lines_at}
use Rattle.down_recur.specs.Waiting.{recurring_in}
use Rattle.down_recur.specs.declared.recurring.Recurring.{Recurring}
use Rattle.down_recur.proofs.recur.Recur.lines.Goals as goal

abbrev contents : Site → Option Tzif → List Recurring → Contents
contents s zone rs = record { site = s; zone = zone; recurrings = rs }

pub returns-clause-lines : goal.returns-clause-lines
unfolding gives
returns-clause-lines c =
    c.in_ok-give_all.ensures.lines
    ∙ ap (λ l. l ++ flat_map (lines_at (site_view c.self.inside.site.value) c.self.inside.zone.now (histories_of c.args.books.now) c.args.moment) (map recurring_in c.self.inside.list.items)) c.new-lines.ensures.items
    ∙ ap (λ k. gives k (histories_of c.args.books.now) c.args.moment) c.self.view_is

pub returns-clause-after : goal.returns-clause-after
unfolding after
returns-clause-after c =
    ap (contents c.self.inside.site.value c.self.inside.zone.now) c.in_ok-give_all.ensures.after
    ∙ ap (λ k. after k (histories_of c.args.books.now) c.args.moment) c.self.view_is
