-- Each checkable has the lines of its entries of the turn, which come behind those before it.
use Rattle.std.proofs.Common.{◌≡◌, ◌∙◌, [], ap, subst, sym}
use Rattle.std.proofs.lemmas.Result.{on_ok_weaker}
use Rattle.engine_log.proofs.OnSite.{entries_are}
use Rattle.run_meaning.specs.Runs.{joined}
use Rattle.site_keep.specs.StateFile.{lines_of}
use Rattle.site_model.specs.PlainSite.{site_view}
use Rattle.site_model.specs.declared.site.Site.{Site}
use Rattle.site_run.specs.Courses.{behind_over}
use Rattle.turn_engine.specs.Stages.{stage_of}
use Rattle.kept_runs.specs.Gathered.{AllPrintable}
use Rattle.kept_runs.specs.Keeping.{course}
use Rattle.kept_runs.proofs.Kept.{keeps_on, round_whole}
use Rattle.kept_runs.proofs.keeping.take.Goals as goal

pub gather-requires-clause-round : goal.gather-requires-clause-round
gather-requires-clause-round g c =
    let x = c.in_ok-out.ensures.turn [] in
    (x.log.round, x.tells.entries, x.is.round.whole ∙ sym c.requires.whole)

pub gather-requires-clause-printable : goal.gather-requires-clause-printable
gather-requires-clause-printable g c =
    let engine = c.args.engine.now in
    let x = c.in_ok-out.ensures.turn [] in
    subst (λ (y : Site). AllPrintable (site_view y) c.in_ok-out.out.segments) (sym (c.site.ensures ∙ c.in_ok-out.ensures.site))
    (entries_are (site_view engine.run.site) c.in_ok-out.out c.requires.sound
    (record { zone = engine.run.zone; callers = g.C.Workers.callers c.args.workers.now; stage = stage_of engine.run []; turn = c.args.turn; log = x.log; is = x.is; tells = x.tells }))

pub returns : goal.returns
returns g c = λ r all left k.
    let callers = g.C.Workers.callers c.args.workers.now in
    let engine = c.args.engine.now in
    let moved = c.turn.new.engine in
    let lines = c.args.lines.now.items in
    let e = c.in_ok-out.ensures in
    let x = e.turn (behind_over (course r) k.done k.logs).stage.begun in
    let same : c.site.result.now ≡ r.site = c.site.ensures ∙ e.site ∙ k.site in
    on_ok_weaker c.gather.result
    (λ grown. keeps_on callers r all left c.args.turn engine lines k c.in_ok-out.out moved x e.site e.zone e.fresh c.gather.new.lines.items
    (grown ∙ ap (λ (y : Site). lines_of (site_view y) (joined engine.run.histories x.log.round)) same))
    (c.gather.ensures engine.run.histories x.log.round (k.lines ∙ ap (λ (y : Site). lines_of (site_view y) engine.run.histories) (sym same)) x.tells.entries
    (round_whole callers r all left c.args.turn engine lines k c.in_ok-out.out moved x))
