use Rattle.std.proofs.Common.{◌<◌, List, length, All, sym, ap, ◌∙◌, subst, arith, []}
use Rattle.std.proofs.lemmas.List.{length-map}
use Rattle.site_model.specs.PlainSite.{check_view, site_view}
use Rattle.site_model.specs.declared.depend_spec.DependSpec.{DependSpec}
use Rattle.depend_graph.specs.Teams.{all_leaders, following, leading}
use Rattle.depend_graph.proofs.Leaders.{leaders_below, length_leaders}
use Rattle.depend_graph.proofs.Teaming.{teams_are}
use Rattle.depend_graph.proofs.graph.Graph.with_teams.Goals as goal

pub leading-requires-clause-length : goal.leading-requires-clause-length
leading-requires-clause-length c = ap length (c.as_slice.ensures ∙ c.in_ok-firsts.ensures) ∙ length_leaders [] c.as_slice-depends.result.now

pub following-requires-clause-few : goal.following-requires-clause-few
following-requires-clause-few c =
    let e = ap length (c.as_slice-2.ensures ∙ c.in_ok-firsts.ensures) ∙ length_leaders [] c.as_slice-depends.result.now in
    let f = ap length c.as_slice-depends.ensures in
    let g = c.requires.few_depends in
    omega (arith, e, f, g)

pub following-requires-clause-leaders : goal.following-requires-clause-leaders
following-requires-clause-leaders c = subst (λ xs. All (λ k. k < length xs) xs) (sym (c.as_slice-2.ensures ∙ c.in_ok-firsts.ensures)) (leaders_below c.as_slice-depends.result.now)

pub returns-clause-teams : goal.returns-clause-teams
returns-clause-teams c =
    teams_are (site_view c.args.site.now) c.in_ok-leading.field-0 c.in_ok-following.field-0
    (λ k. c.in_ok-leading.ensures.rows k ∙ ap (λ ls. leading 0 k c.as_slice-depends.result.now ls) (c.as_slice.ensures ∙ c.in_ok-firsts.ensures)
    ∙ ap (λ (ds : List DependSpec). leading 0 k ds (all_leaders ds)) c.as_slice-depends.ensures)
    (λ k. c.in_ok-following.ensures.rows k ∙ ap (following 0 k) (c.as_slice-2.ensures ∙ c.in_ok-firsts.ensures ∙ ap all_leaders c.as_slice-depends.ensures))
    (c.in_ok-leading.ensures.length ∙ c.len.ensures ∙ sym (length-map c.args.site.now.checkables check_view))
    (c.in_ok-following.ensures.length ∙ ap length (c.as_slice-2.ensures ∙ c.in_ok-firsts.ensures ∙ ap all_leaders c.as_slice-depends.ensures) ∙ length_leaders [] c.args.site.now.depends)
