-- What is written is what answers to the task that it is.
use Rattle.std.proofs.Common.{subst, sym, ap}
use Rattle.site_program.specs.TaskAnswers.{Answers, Remarked}
use Rattle.site_run.specs.Logs.{EndsRun}
use Rattle.site_words.specs.Tasks.{Task, task_view}
use Rattle.site_program.proofs.running.run_task.Goals as goal

pub returns-in-Replay-clause-written : goal.returns-in-Replay-clause-written
returns-in-Replay-clause-written g c =
    subst (λ (t : Task). EndsRun c.replay.result (Answers (g.C.Workers.callers c.args.workers.now) t (g.F.Files.told c.args.files.now) (g.W.World.turns c.args.world.now)) (g.S.Sink.written c.args.out.now) (g.S.Sink.written c.replay.new.out))
    (sym (ap task_view c.in-Replay.is)) c.replay.ensures.written

pub returns-in-Daemon-clause-written : goal.returns-in-Daemon-clause-written
returns-in-Daemon-clause-written g c =
    subst (λ (t : Task). EndsRun c.watch.result (Answers (g.C.Workers.callers c.args.workers.now) t (g.F.Files.told c.args.files.now) (g.W.World.turns c.args.world.now)) (g.S.Sink.written c.args.out.now) (g.S.Sink.written c.watch.new.out))
    (sym (ap task_view c.in-Daemon.is)) c.watch.ensures.written

pub returns-in-Daemon-clause-remarked : goal.returns-in-Daemon-clause-remarked
returns-in-Daemon-clause-remarked g c =
    subst (λ (t : Task). Remarked c.watch.result t (g.F.Files.told c.args.files.now) (g.N.Remarks.remarked c.args.remarks.now) (g.N.Remarks.remarked c.watch.new.remarks))
    (sym (ap task_view c.in-Daemon.is)) c.watch.ensures.remarked

pub returns-in-Check-clause-remarked : goal.returns-in-Check-clause-remarked
returns-in-Check-clause-remarked g c =
    subst (λ (t : Task). Remarked c.count_objects.result t (g.F.Files.told c.args.files.now) (g.N.Remarks.remarked c.args.remarks.now) (g.N.Remarks.remarked c.count_objects.new.remarks))
    (sym (ap task_view c.in-Check.is)) c.count_objects.ensures.remarked

pub returns-in-Query-clause-written : goal.returns-in-Query-clause-written
returns-in-Query-clause-written g c =
    subst (λ (t : Task). EndsRun c.answer_query.result (Answers (g.C.Workers.callers c.args.workers.now) t (g.F.Files.told c.args.files.now) (g.W.World.turns c.args.world.now)) (g.S.Sink.written c.args.out.now) (g.S.Sink.written c.answer_query.new.out))
    (sym (ap task_view c.in-Query.is)) c.answer_query.ensures.written

pub returns-in-Keep-clause-written : goal.returns-in-Keep-clause-written
returns-in-Keep-clause-written g c =
    subst (λ (t : Task). EndsRun c.keep.result (Answers (g.C.Workers.callers c.args.workers.now) t (g.F.Files.told c.args.files.now) (g.W.World.turns c.args.world.now)) (g.S.Sink.written c.args.out.now) (g.S.Sink.written c.keep.new.out))
    (sym (ap task_view c.in-Keep.is)) c.keep.ensures.written

pub returns-in-Audit-clause-written : goal.returns-in-Audit-clause-written
returns-in-Audit-clause-written g c =
    subst (λ (t : Task). EndsRun c.audit_log.result (Answers (g.C.Workers.callers c.args.workers.now) t (g.F.Files.told c.args.files.now) (g.W.World.turns c.args.world.now)) (g.S.Sink.written c.args.out.now) (g.S.Sink.written c.audit_log.new.out))
    (sym (ap task_view c.in-Audit.is)) c.audit_log.ensures.written

pub returns-in-Resume-clause-written : goal.returns-in-Resume-clause-written
returns-in-Resume-clause-written g c =
    subst (λ (t : Task). EndsRun c.replay-in-Resume.result (Answers (g.C.Workers.callers c.args.workers.now) t (g.F.Files.told c.args.files.now) (g.W.World.turns c.args.world.now)) (g.S.Sink.written c.args.out.now) (g.S.Sink.written c.replay-in-Resume.new.out))
    (sym (ap task_view c.in-Resume.is)) c.replay-in-Resume.ensures.written
