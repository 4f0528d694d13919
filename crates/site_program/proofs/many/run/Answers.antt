-- With several workers the whole answer is written too, if nothing fails.
use Rattle.std.proofs.Common.{◌≡◌, IfSome, Some, subst}
use Rattle.site_words.specs.Tasks.{task_view}
use Rattle.site_program.specs.Complete.{IsComplete}
use Rattle.site_program.proofs.Completing.{complete}
use Rattle.site_program.proofs.many.run.Goals as goal

pub returns-clause-complete : goal.returns-clause-complete
returns-clause-complete g c =
    -- one worker alone was asked first, who touches nothing if more are asked for
    let same = c.run_one.ensures.passed c.in_default.is in
    let task = task_view c.in-Some-command_of.command.task in
    let workers = c.in-Some-command_of.command.workers in
    let end = c.run_task.result in
    let new = g.S.Sink.written c.run_task.new.out in
    let ended = complete end workers task (g.F.Files.told c.run_one.new.files) (g.W.World.turns c.run_one.new.world) (g.S.Sink.written c.run_one.new.out) new c.run_task.ensures.written in
    let by_files = subst (λ f. IsComplete end workers task (g.F.Files.told f) (g.W.World.turns c.run_one.new.world) (g.S.Sink.written c.run_one.new.out) new) same.0 ended in
    let by_out = subst (λ o. IsComplete end workers task (g.F.Files.told c.args.files.now) (g.W.World.turns c.run_one.new.world) (g.S.Sink.written o) new) same.1 by_files in
    let by_world = subst (λ w. IsComplete end workers task (g.F.Files.told c.args.files.now) (g.W.World.turns w) (g.S.Sink.written c.args.out.now) new) same.2 by_out in
    subst (λ x. IfSome x (λ k. IsComplete end k.workers k.task (g.F.Files.told c.args.files.now) (g.W.World.turns c.args.world.now) (g.S.Sink.written c.args.out.now) new)) c.in-Some-command_of.ensures.value by_world
