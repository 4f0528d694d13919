-- How the run ended tells what it leaves.
use Rattle.std.proofs.Common.{◌≡◌, ◌≤◌, [], List, Some, ap, ◌∙◌, length, refl, subst, sym}
use Rattle.run_meaning.specs.Runs.{no_entries, start}
use Rattle.site_edge.specs.declared.turn.Turn.{Turn}
use Rattle.site_model.specs.PlainSite.{PlainSite, site_view}
use Rattle.site_model.specs.Sound.{HasNames}
use Rattle.site_query.specs.Answers.{answer_text}
use Rattle.site_run.specs.Logs.{Given, nothing_given}
use Rattle.turn_engine.specs.Ready.{IsZoneOf}
use Rattle.turn_engine.specs.Stages.{stage_of}
use Rattle.whole_runs.specs.Queried.{IsQueried}
use Rattle.whole_runs.proofs.Given.{nothing_is}
use Rattle.whole_runs.proofs.Queried.{queried}
use Rattle.whole_runs.proofs.querying.query_turns.Goals as goal

the_same : (xs ys : List Turn) → Some xs ≡ Some ys → xs ≡ ys
the_same xs ys e = cc

pub returns-in-Done : goal.returns-in-Done
returns-in-Done g c =
    let callers = g.C.Workers.callers c.args.workers.now in
    let s = site_view c.args.site in
    let histories = no_entries s in
    let r = c.in_ok-engine.engine.run in
    let first = c.new-feed.result in
    let left = c.drive_part-status.new.engine in
    let text = c.in_ok-text-in-Done.text in
    let query = c.args.query.now in
    let same : site_view r.site ≡ s = ap site_view c.in_ok-engine.ensures.site in
    let begin = subst (λ (x : PlainSite). stage_of r [] ≡ start x histories) (sym same) c.in_ok-engine.ensures.start in
    let zone = subst (λ (x : PlainSite). IsZoneOf x.zone r.zone) (sym same) c.in_ok-engine.ensures.zone in
    let names = subst HasNames (sym same) c.requires.sound.names in
    let over = c.site.ensures ∙ c.in-Done.ensures.site refl in
    let is : text ≡ answer_text (site_view r.site) left.run.histories left.run.moment query =
    c.in_ok-text-in-Done.ensures ∙ (λ i. answer_text (site_view (over i)) (c.books.ensures.entries i) (c.moment.ensures i) query) in
    let told = the_same c.new-world.result.turns.items c.args.turns c.new-world.ensures.turns in
    let found = queried (λ _ _ _. []) (λ feed _ _. feed) first histories callers c.requires.callers.0 r _ begin zone names c.args.limit c.new-world.result.turns.items _ _ _ _ left c.drive_part-status.new.feed _ query text c.in-Done.ensures.ends is in
    let given = subst (λ (x : Given). IsQueried callers (site_view r.site) x c.new-world.result.turns.items query text) (nothing_is (λ feed _ _. feed) first histories) found.1 in (
      subst (λ (ts : List Turn). length ts ≤ c.args.limit) told found.0,
      subst (λ (ts : List Turn). IsQueried callers s (nothing_given s) ts query text) told (subst (λ (x : PlainSite). IsQueried callers x (nothing_given s) c.new-world.result.turns.items query text) same given),
    )
