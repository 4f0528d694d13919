-- The turn of several callers has one log at most with the round that is told.
use Rattle.std.proofs.Common.{[], ap, sym, ◌∙◌, subst, arith}
use Rattle.std.specs.List.{concat}
use Rattle.std.specs.Str.{bytes_eq}
use Rattle.run_meaning.specs.Runs.{begun_by}
use Rattle.run_text.specs.LogText.{turn_lines}
use Rattle.site_model.specs.PlainSite.{site_view}
use Rattle.site_model.specs.Sound.{IsSound}
use Rattle.site_model.specs.declared.site.Site.{Site}
use Rattle.engine_log.specs.OnSite.{IsTurnOf}
use Rattle.turn_engine.proofs.Giving.{if_none, if_some}
use Rattle.turn_engine.specs.Stages.{stage_of}
use Rattle.site_audit.proofs.AgreeLaws.{agrees_with_none, agrees_with_only, block_is, either_way}
use Rattle.site_audit.proofs.HearLaws.{of_some}
use Rattle.site_audit.proofs.agreeing.agrees_told.Goals as goal

pub turn_lines-requires-clause-sound : goal.turn_lines-requires-clause-sound
turn_lines-requires-clause-sound c = subst (λ (x : Site). IsSound (site_view x)) (sym (c.site.ensures ∙ c.in_ok-out.ensures.site)) c.requires.sound

pub turn_lines-requires-clause-turn : goal.turn_lines-requires-clause-turn
turn_lines-requires-clause-turn c =
    let r = c.args.engine.now.run in
    let o = if_some _ _ _ _ c.in-Some.is (c.in_ok-out.ensures.turn []) in
    subst (λ (x : Site). IsTurnOf (site_view x) c.in-Some.out) (sym (c.site.ensures ∙ c.in_ok-out.ensures.site))
    (record { zone = r.zone; callers = c.args.callers; stage = stage_of r []; turn = c.args.told.turn; log = o.found.log; is = o.found.is; tells = o.found.tells })

pub returns-in_default-clause-agrees : goal.returns-in_default-clause-agrees
returns-in_default-clause-agrees c = λ begun.
    let r = c.args.engine.now.run in
    let q = c.turn_given.new.self.run in
    let most = c.requires.callers.1 in
    agrees_with_none c.args.style (site_view r.site) r.zone c.args.callers (stage_of r begun) c.args.told.turn c.args.block.now c.args.told.round.items c.requires.sound (omega (arith, most)) c.requires.round (stage_of q (begun_by (stage_of r begun) q.moment))
    (if_none _ _ _ c.in_default.is (c.in_ok-out.ensures.turn begun))

pub returns-clause-agrees : goal.returns-clause-agrees
returns-clause-agrees c = λ begun.
    let r = c.args.engine.now.run in
    let q = c.turn_given.new.self.run in
    let s = site_view r.site in
    let most = c.requires.callers.1 in
    let o = if_some _ _ _ _ c.in-Some.is (c.in_ok-out.ensures.turn begun) in
    agrees_with_only c.args.style s r.zone c.args.callers (stage_of r begun) c.args.told.turn c.args.block.now c.args.told.round.items c.requires.sound (omega (arith, most)) c.requires.round (stage_of q (begun_by (stage_of r begun) q.moment)) c.in-Some.out c.is_text_of.result o
    (block_is c.args.style s o.found.log c.args.block.now c.in_ok-lines.lines c.is_text_of.result
    (c.in_ok-lines.ensures o.found.log o.found.tells ∙ ap (λ (x : Site). turn_lines c.args.style (site_view x) o.found.log) (c.site.ensures ∙ c.in_ok-out.ensures.site))
    (c.is_text_of.ensures ∙ ap (λ ls. bytes_eq c.args.block.now (concat ls)) c.as_slice.ensures))

pub returns-clause-fresh : goal.returns-clause-fresh
returns-clause-fresh c = either_way c.is_text_of.result (of_some _ _ _ c.in-Some.is c.in_ok-out.ensures.fresh)
