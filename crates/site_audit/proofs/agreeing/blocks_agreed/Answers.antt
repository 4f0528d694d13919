use Rattle.std.proofs.Common.{[], ap, map, subst, sym}
use Rattle.log_text.specs.SiteNames.{names_of}
use Rattle.site_model.specs.PlainSite.{site_view}
use Rattle.site_model.specs.declared.site.Site.{Site}
use Rattle.turn_engine.specs.Stages.{stage_of}
use Rattle.site_audit.specs.Blocks.{blocks_of, lines_of}
use Rattle.site_audit.specs.ByCallers.{AreToldIn, round_of, turn_of}
use Rattle.site_audit.proofs.AgreeLaws.{agree_by}
use Rattle.site_audit.proofs.agreeing.blocks_agreed.Goals as goal

pub agreed-requires-clause-rounds : goal.agreed-requires-clause-rounds
agreed-requires-clause-rounds c = λ several.
    subst (λ (x : Site). AreToldIn c.args.style (names_of (site_view x)) (map round_of c.args.turns.items) (blocks_of (lines_of c.args.log.now))) (sym c.in_ok-engine.ensures.site) (c.requires.rounds several)

pub returns : goal.returns
returns c =
    let e = c.in_ok-engine.engine in
    agree_by c.args.style c.args.callers (site_view c.args.site) e.run.site e.run.zone (stage_of e.run []) (map turn_of c.args.turns.items) c.args.log.now c.agreed.result c.in_ok-engine.ensures.zone (ap site_view c.in_ok-engine.ensures.site) c.in_ok-engine.ensures.start (c.agreed.ensures [])
