-- One caller's turn has one log.
use Rattle.std.proofs.Common.{[], ap, sym, ◌∙◌, subst}
use Rattle.std.specs.List.{concat}
use Rattle.std.specs.Str.{bytes_eq}
use Rattle.run_meaning.specs.Alone.{turn_alone}
use Rattle.run_meaning.specs.Runs.{Basis, TurnLog, begun_by}
use Rattle.run_text.specs.LogText.{turn_lines}
use Rattle.run_text.specs.TurnReading.{turn_read}
use Rattle.site_model.specs.PlainSite.{site_view}
use Rattle.site_model.specs.Sound.{IsSound}
use Rattle.site_model.specs.declared.site.Site.{Site}
use Rattle.engine_log.specs.OnSite.{IsTurnOf}
use Rattle.turn_engine.specs.Stages.{basis_of_site, stage_of}
use Rattle.site_audit.specs.Blocks.{lines_of}
use Rattle.site_audit.proofs.AgreeLaws.{block_is, either_way}
use Rattle.site_audit.proofs.AgreeLaws as laws
use Rattle.site_audit.proofs.agreeing.agrees_alone.Goals as goal

pub turn_lines-requires-clause-sound : goal.turn_lines-requires-clause-sound
turn_lines-requires-clause-sound c = subst (λ (x : Site). IsSound (site_view x)) (sym (c.site.ensures ∙ c.in_ok-out.ensures.site)) c.requires.sound

pub turn_lines-requires-clause-turn : goal.turn_lines-requires-clause-turn
turn_lines-requires-clause-turn c =
    let r = c.args.engine.now.run in
    subst (λ (x : Site). IsTurnOf (site_view x) c.in_ok-out.out) (sym (c.site.ensures ∙ c.in_ok-out.ensures.site))
    (record {
      zone = r.zone;
      callers = 1;
      stage = stage_of r [];
      turn = c.args.turn.now;
      log = turn_alone (basis_of_site (site_view r.site) r.zone) (stage_of r []) (turn_read (site_view r.site) c.args.turn.now);
      is = c.in_ok-out.ensures.turn [];
      tells = c.in_ok-out.ensures.tells [];
    })

pub returns-clause-agrees : goal.returns-clause-agrees
returns-clause-agrees c = λ begun.
    let r = c.args.engine.now.run in
    let q = c.turn_one.new.self.run in
    let s = site_view r.site in
    let b : Basis = basis_of_site s r.zone in
    let st = stage_of r begun in
    let l : TurnLog = turn_alone b st (turn_read s c.args.turn.now) in
    laws.agrees_alone c.args.style b st (stage_of q (begun_by st q.moment)) (turn_read s c.args.turn.now) (lines_of c.args.block.now) c.is_text_of.result (c.in_ok-out.ensures.turn begun) (c.in_ok-out.ensures.stage begun)
    (block_is c.args.style s l c.args.block.now c.in_ok-lines.lines c.is_text_of.result
    (c.in_ok-lines.ensures l (c.in_ok-out.ensures.tells begun) ∙ ap (λ (x : Site). turn_lines c.args.style (site_view x) l) (c.site.ensures ∙ c.in_ok-out.ensures.site))
    (c.is_text_of.ensures ∙ ap (λ ls. bytes_eq c.args.block.now (concat ls)) c.as_slice.ensures))

pub returns-clause-fresh : goal.returns-clause-fresh
returns-clause-fresh c = either_way c.is_text_of.result c.in_ok-out.ensures.fresh
