use Rattle.site_model.specs.PlainSite.{site_view}
use Rattle.run_replies.specs.Runs.{replied}
use Rattle.site_program.specs.TaskAnswers.{IsCounted}
use Rattle.site_replies.specs.Replies.{reply_view}
use Rattle.site_run.proofs.Wholes.{ended}
use Rattle.site_program.proofs.generate.write_counts.Goals as goal

pub returns-in-Ok-clause-written : goal.returns-in-Ok-clause-written
returns-in-Ok-clause-written g c =
    let reply = reply_view c.in-Ok.reply in
    ended c.write_reply.result (IsCounted c.args.hosts (site_view c.args.site)) (g.S.Sink.written c.args.out.now) (g.S.Sink.written c.write_reply.new.out) (replied reply, c.in-Ok.ensures, c.write_reply.ensures.written)
