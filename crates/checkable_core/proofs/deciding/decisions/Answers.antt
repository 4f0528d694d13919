-- What is asked is what the entry gives.
use Rattle.std.proofs.Common.{◌∷◌, ◌++◌, [], Bool, map, sym, ap, ◌∙◌, subst}
use Rattle.depend_graph.specs.Outlooks.{holds_in, seen_as}
use Rattle.run_meaning.specs.Downtimes.{in_effect}
use Rattle.run_meaning.specs.Reachability.{for_notes, reach_of}
use Rattle.run_meaning.specs.View.{is_problem}
use Rattle.site_model.specs.PlainSite.{site_view}
use Rattle.site_model.specs.declared.event.Event.{Event}
use Rattle.checkable_core.specs.Contents.{check_at}
use Rattle.checkable_core.specs.Keeping.{IsProblemOf}
use Rattle.checkable_core.proofs.Kept.{problem_told}
use Rattle.checkable_core.proofs.Listed.{check_is, nothing_in, stays}
use Rattle.checkable_core.proofs.deciding.decisions.Goals as goal

pub returns-then-not-decides : goal.returns-then-not-decides
returns-then-not-decides c = λ h e kept drafts at when said.
    let s = site_view c.args.site.now in
    let k = c.args.checkable in
    let check = check_at s k in
    let seen = map seen_as c.args.sights.now in
    let drafted = drafts.status e at when said in
    let any = c.decides.ensures.any s c.args.zone.now k check h e seen kept.keeps.sent (c.view-before.ensures ∙ kept.keeps.status.view) (c.view-after.ensures ∙ drafted.view) at said in
    c.new.ensures ∙ sym (nothing_in _ (sym any ∙ c.if-not-decides.true))

pub returns : goal.returns
returns c = λ h e kept drafts at when said.
    let s = site_view c.args.site.now in
    let k = c.args.checkable in
    let check = check_at s k in
    let moment = c.args.moment in
    let holds = holds_in s c.args.zone.now in
    let seen = map seen_as c.args.sights.now in
    let drafted = drafts.status e at when said in
    let after = c.view-after.result in
    let shows = c.view-after.ensures ∙ drafted.view in
    let problem = subst (λ (v : Event). IsProblemOf check v (is_problem after.state)) at (problem_told check h e after shows) in
    let told = subst (λ (b : Bool). IsProblemOf check c.args.event.now b) (sym c.is_problem.ensures) problem in
    let downtime = c.in_effect_with-downtime.ensures check h e kept.keeps.book told at when (stays c.view-before.result c.view-after.result c.args.event.now c.args.draft.now.taken (c.decides.ensures.gives c.if-not-decides.false)) in
    let reach = c.in_ok-reach.ensures in
    c.decide.ensures check h e seen (check_is s.checkables k kept.within) kept.keeps.sent (record {
      event = at;
      taken = said;
      moment = when;
      before = c.view-before.ensures ∙ kept.keeps.status.view;
      after = shows;
      reach = reach ∙ ap (λ m. reach_of (record { site = s; holds = holds; purpose = for_notes; moment = m; seen = seen }) k) (sym when);
      downtime = downtime ∙ ap (λ m. in_effect check (h ++ e ∷ []) m) (sym when);
    })
