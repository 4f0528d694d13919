use Rattle.std.proofs.Common.{◌≡◌, IfOk, Some, refl, rules}
use Rattle.site_model.specs.PlainSite.{site_view}
use Rattle.site_posts.specs.Books.{histories_of}
use Rattle.run_replies.specs.Runs.{replied}
use Rattle.site_answers.specs.SiteAnswers.{AnswersBytes, most_turns}
use Rattle.site_replies.specs.Replies.{bad_script, reply_view}
use Rattle.whole_runs.specs.Logs.{AnswersTurns}
use Rattle.site_text.specs.Scripts.{Has, bad_line, told}
use Rattle.site_answers.proofs.TurnLogs.{script_log}
use Rattle.site_run.proofs.Wholes.{ended, ended_as}
use Rattle.site_answers.proofs.replay.replay_bytes.Goals as goal

pub returns-in-Ok-clause-written : goal.returns-in-Ok-clause-written
returns-in-Ok-clause-written g c =
    let turns = c.in-Ok.turns in
    let s = site_view c.args.site in
    let has : Has c.args.bytes (told turns) = search rules in
    ended_as c.write_site_log.result (AnswersTurns (g.C.Workers.callers c.args.workers.now) c.args.style c.args.recur most_turns (Some turns) s (histories_of c.args.books.items))
    (AnswersBytes (g.C.Workers.callers c.args.workers.now) c.args.style c.args.recur c.args.script.now s (histories_of c.args.books.items) (Some c.args.bytes)) (g.S.Sink.written c.args.out.now) (g.S.Sink.written c.write_site_log.new.out)
    (λ w is. (told turns, has, script_log (g.C.Workers.callers c.args.workers.now) c.args.style c.args.recur s (histories_of c.args.books.items) turns (Some turns) w refl is))
    (search rules)

pub returns-in-Err-BadScript-clause-written : goal.returns-in-Err-BadScript-clause-written
returns-in-Err-BadScript-clause-written g c =
    let line = c.in-Err-BadScript.line in
    let script = c.args.script.now in
    let has : Has c.args.bytes (bad_line line) = search rules in
    let made : IfOk c.bad_script.result (λ x. reply_view x ≡ bad_script script line) = search rules in
    ended c.write_made.result (AnswersBytes (g.C.Workers.callers c.args.workers.now) c.args.style c.args.recur script (site_view c.args.site) (histories_of c.args.books.items) (Some c.args.bytes)) (g.S.Sink.written c.args.out.now) (g.S.Sink.written c.write_made.new.out) (
      replied (bad_script script line),
      (bad_line line, has, refl),
      c.write_made.ensures.written (bad_script script line) made,
    )
