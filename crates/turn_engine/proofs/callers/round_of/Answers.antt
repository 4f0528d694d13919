-- The round of the first caller alone, and that of several.
use Rattle.std.proofs.Common.{map, subst}
use Rattle.std.specs.Prelude.{All}
use Rattle.std.proofs.lemmas.List.Elements.{All-head}
use Rattle.run_meaning.specs.Alone.{AreOnSite}
use Rattle.site_model.specs.PlainSite.{site_view}
use Rattle.site_posts.specs.Books.{histories_of}
use Rattle.site_posts.specs.Made.{round_made}
use Rattle.site_posts.specs.Many.{asked_in}
use Rattle.turn_engine.proofs.SoleRound.{round_of_all}
use Rattle.turn_engine.proofs.callers.round_of.Goals as goal

pub round_one-requires-clause-acts : goal.round_one-requires-clause-acts
round_one-requires-clause-acts g c =
    All-head (AreOnSite (site_view c.args.site.now)) (asked_in c.in-Ok.acts) _ (subst (λ ls. All (AreOnSite (site_view c.args.site.now)) (map asked_in ls)) c.in-Ok.ensures.sole.first c.requires.acts)

pub returns-in-Ok : goal.returns-in-Ok
returns-in-Ok g c =
    let round = c.round_one.ensures in
    let s = site_view c.args.site.now in
    let old = c.args.books.now.items in
    round_of_all s c.args.zone.now c.args.moment old c.round_one.new.books.items (round_made s c.args.zone.now c.args.moment (histories_of old) (asked_in c.in-Ok.acts))
    c.in-Ok.acts c.args.lists.items c.round_one.result c.in-Ok.ensures.sole round.round round.segments round.behind round.books
