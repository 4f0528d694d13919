use Rattle.std.proofs.Common.{List, get_or, sym, ap, ◌∙◌, arith}
use Rattle.std.proofs.lemmas.List.{length-map}
use Rattle.site_model.specs.PlainSite.{check_view}
use Rattle.site_model.specs.declared.check_spec.CheckSpec.{CheckSpec}
use Rattle.run_meaning.specs.Reachability.{host_back}
use Rattle.depend_graph.specs.Outlooks.{flagged, meant_by}
use Rattle.depend_graph.specs.Reaching.{purpose_as, reach_as}
use Rattle.depend_graph.proofs.Asking.{own_host, step_none, step_some}
use Rattle.depend_graph.proofs.outlook.Outlook.reach_at.Goals as goal

pub returns-in-Some : goal.returns-in-Some
returns-in-Some c =
    step_some (meant_by c.args.self.now) (flagged c.args.self.now.above.now c.args.blocked.now) c.args.checkable c.args.self.now.leaders.now c.args.self.now.followers.now c.requires.fit.teams c.in-Some.depend c.in-Some.ensures

pub returns : goal.returns
returns c =
    let h = c.requires.checkable in
    let g = length-map c.args.self.now.site.now.checkables check_view in
    let b = flagged c.args.self.now.above.now c.args.blocked.now in
    step_none (meant_by c.args.self.now) b c.args.checkable c.args.self.now.leaders.now c.args.self.now.followers.now c.requires.fit.teams
    (reach_as c.host_back.result) c.in_default.ensures
    (c.host_back.ensures
    ∙ ap (host_back (meant_by c.args.self.now) b (purpose_as c.args.self.now.purpose)) (sym (own_host c.args.self.now.site.now.checkables c.args.checkable c.index-as_slice-checkable.result (omega (arith, h, g))
    (c.index-as_slice-checkable.is ∙ ap (λ (xs : List CheckSpec). get_or xs c.args.checkable c.index-as_slice-checkable.result) c.as_slice.ensures))))
