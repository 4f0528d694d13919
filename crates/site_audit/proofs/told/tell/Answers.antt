use Rattle.std.proofs.Common.{◌≡◌, IfOk, List, Option, ℕ, ap, length, subst, ◌∙◌}
use Rattle.site_edge.specs.declared.turn.Turn.{Turn}
use Rattle.site_model.specs.PlainSite.{full_names, site_view}
use Rattle.site_audit.specs.Commands.{refused_with}
use Rattle.site_audit.specs.Told.{turn_in}
use Rattle.site_audit.specs.Tracks.{taken_in}
use Rattle.site_audit.specs.declared.block.RefusedLine.{RefusedLine}
use Rattle.site_audit.proofs.HearLaws.{all_heard}
use Rattle.site_audit.proofs.TurnLaws.{heard_is, tell_some}
use Rattle.site_audit.proofs.told.tell.Goals as goal

pub turn_of-requires : goal.turn_of-requires
turn_of-requires c =
    all_heard c.args.callers (full_names (site_view c.args.site.now)) c.args.orders.now.items c.args.block.entries c.in-Some.heard
    (heard_is c.args.callers c.args.site.now _ c.args.orders.now.items _ c.args.block.entries _ c.in-Some.heard _ c.in-Some.is c.in_ok-heard.ensures.heard c.as_slice-checks.ensures c.into_vec.ensures c.nothing_heard.ensures)

pub returns-clause-turn : goal.returns-clause-turn
returns-clause-turn c =
    let is = heard_is c.args.callers c.args.site.now _ c.args.orders.now.items _ c.args.block.entries _ c.in-Some.heard _ c.in-Some.is c.in_ok-heard.ensures.heard c.as_slice-checks.ensures c.into_vec.ensures c.nothing_heard.ensures in
    let n = c.args.named.now in
    let b = c.args.block in
    let h = c.in-Some.heard in
    subst (λ (o : Option Turn). IfOk c.turn_of.result (λ t. t ≡ o))
    (ap (λ (ls : List RefusedLine). turn_in (refused_with n.host n.closed) b.moment ls c.as_slice-3.result.now h.said (taken_in (length h.said) h.spots)) c.as_slice-2.ensures
    ∙ (ap (λ (rs : List ℕ). turn_in (refused_with n.host n.closed) b.moment b.lines rs h.said (taken_in (length h.said) h.spots)) c.as_slice-3.ensures
    ∙ tell_some c.args.callers (site_view c.args.site.now) n c.args.orders.now.items b h c.requires.named is))
    c.turn_of.ensures
