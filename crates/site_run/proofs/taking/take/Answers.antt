-- The turn with what is fed before its own lines is the next one of the run that is fed.
use Rattle.std.proofs.Common.{◌≡◌, ◌++◌, ℕ, List, [], max, map, sym, ap, ◌∙◌, subst, arith}
use Rattle.run_meaning.specs.Runs.{Stage}
use Rattle.run_text.specs.LogText.{turn_lines}
use Rattle.site_model.specs.PlainSite.{site_view}
use Rattle.site_model.specs.Sound.{IsSound}
use Rattle.site_model.specs.declared.site.Site.{Site}
use Rattle.engine_log.specs.OnSite.{IsTurnOf}
use Rattle.turn_engine.specs.Stages.{stage_of}
use Rattle.turn_engine.proofs.Turning.{later_books}
use Rattle.site_run.specs.Feeds.{AreBooksFor}
use Rattle.site_run.specs.Starts.{started_of}
use Rattle.site_run.proofs.Fed.{stage_fed, turn_fed}
use Rattle.site_run.proofs.taking.take.Goals as goal

pub lines-requires : goal.lines-requires
lines-requires g c =
    let r = c.args.engine.now.run in
    let s = site_view r.site in
    let m = c.moment.ensures in
    let l = c.later_of-moment.ensures in
    let are : AreBooksFor (g.F.Feed.made_for c.args.feed.now) c.later_of-moment.result c.books.result.now =
    record {
      site = s;
      made = c.requires.made;
      are = later_books s r.moment c.later_of-moment.result c.books.result.now (omega (arith, l, m)) (c.books.ensures.are c.requires.fresh);
    } in
    are

pub tell-requires-clause-sound : goal.tell-requires-clause-sound
tell-requires-clause-sound g c = subst (λ (x : Site). IsSound (site_view x)) (sym (c.site.ensures ∙ c.in_ok-out.ensures.site)) c.requires.sound

pub tell-requires-clause-turn : goal.tell-requires-clause-turn
tell-requires-clause-turn g c =
    let r = c.args.engine.now.run in
    let x = c.in_ok-out.ensures.turn [] in
    subst (λ (x : Site). IsTurnOf (site_view x) c.in_ok-out.out) (sym (c.site.ensures ∙ c.in_ok-out.ensures.site))
    (record {
      zone = r.zone;
      callers = g.C.Workers.callers c.args.workers.now;
      stage = stage_of r [];
      turn = c.in_ok-turn.turn;
      log = x.log;
      is = x.is;
      tells = x.tells;
    })

pub returns-clause-taken : goal.returns-clause-taken
returns-clause-taken g c = λ begun first now.
    let r = c.args.engine.now.run in
    let s = site_view r.site in
    let callers = g.C.Workers.callers c.args.workers.now in
    let x = c.in_ok-out.ensures.turn begun in
    let given : c.in_ok-fed.fed.items ≡ g.F.Feed.gives c.args.feed.now r.histories (max r.moment c.args.turn.moment) = c.in_ok-fed.ensures.lines ∙ ap (λ h. g.F.Feed.gives c.args.feed.now h c.later_of-moment.result) c.books.ensures.entries ∙ ap (g.F.Feed.gives c.args.feed.now r.histories) (c.later_of-moment.ensures ∙ ap (λ n. max n c.args.turn.moment) c.moment.ensures) in
    record {
      log = x.log;
      is = turn_fed s r.zone g.F.Feed.gives g.F.Feed.after first c.args.feed.now callers (stage_of r begun) c.args.turn c.in_ok-turn.turn c.in_ok-fed.fed.items x.log now given c.in_ok-turn.ensures x.is;
      lines_are = c.in_ok-lines.ensures x.log x.tells ∙ ap (λ (x : Site). turn_lines c.args.style (site_view x) (c.in_ok-out.ensures.turn begun).log) (c.site.ensures ∙ c.in_ok-out.ensures.site);
      orders_are = c.in_ok-orders.ensures ∙ ap started_of x.tells.ordered;
      after = x.after ∙ stage_fed s r.zone g.F.Feed.gives g.F.Feed.after first c.args.feed.now callers (stage_of r begun) c.args.turn c.in_ok-turn.turn c.in_ok-fed.fed.items x.log now given c.in_ok-turn.ensures x.is;
    }

pub returns-clause-feed : goal.returns-clause-feed
returns-clause-feed g c =
    let r = c.args.engine.now.run in
    let x = c.in_ok-out.ensures.turn [] in
    let m = c.later_of-moment.ensures ∙ ap (λ n. max n c.args.turn.moment) c.moment.ensures in
    let n = ap (λ (st : Stage). st.moment) x.after ∙ x.is.moment ∙ ap (λ t. max r.moment t.moment) c.in_ok-turn.ensures in
    c.in_ok-fed.ensures.after ∙ ap (λ h. g.F.Feed.after c.args.feed.now h c.later_of-moment.result) c.books.ensures.entries ∙ ap (g.F.Feed.after c.args.feed.now r.histories) (m ∙ sym n)
