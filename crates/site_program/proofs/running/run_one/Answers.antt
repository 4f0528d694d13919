-- The whole answer is written, if nothing fails.
use Rattle.std.proofs.Common.{rules, ◌≡◌, IfSome, Some, sym, subst}
use Rattle.site_words.specs.Tasks.{task_view}
use Rattle.site_program.specs.Complete.{IsComplete}
use Rattle.site_program.proofs.Completing.{complete}
use Rattle.site_program.proofs.running.run_one.Goals as goal

pub returns-in-Some-eq1-clause-complete : goal.returns-in-Some-eq1-clause-complete
returns-in-Some-eq1-clause-complete g c =
    let command = c.in-Some-eq1.field-0 in
    let end = c.run_task.result in
    let files = g.F.Files.told c.args.files.now in
    let turns = g.W.World.turns c.args.world.now in
    let old = g.S.Sink.written c.args.out.now in
    let new = g.S.Sink.written c.run_task.new.out in
    let alone : command.workers ≡ 1 = search rules in
    let ended = complete end 1 (task_view command.task) files turns old new c.run_task.ensures.written in
    let asked = subst (λ workers. IsComplete end workers (task_view command.task) files turns old new) (sym alone) ended in
    subst (λ x. IfSome x (λ k. IsComplete end k.workers k.task files turns old new)) c.in-Some-eq1.ensures.value asked
