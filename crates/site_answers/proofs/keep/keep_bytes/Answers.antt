-- The script is read, and its turns leave what they leave.
use Rattle.std.proofs.Common.{◌≡◌, IfOk, Some, refl, rules}
use Rattle.site_model.specs.PlainSite.{site_view}
use Rattle.run_replies.specs.Runs.{replied}
use Rattle.site_answers.specs.SiteAnswers.{AnswersKept, answered}
use Rattle.site_replies.specs.Replies.{bad_script, reply_view}
use Rattle.site_text.specs.Scripts.{Has, bad_line, told}
use Rattle.site_run.proofs.Wholes.{ended}
use Rattle.site_answers.proofs.keep.keep_bytes.Goals as goal

pub returns-in-Ok-keep_turns-clause-written : goal.returns-in-Ok-keep_turns-clause-written
returns-in-Ok-keep_turns-clause-written g c =
    let callers = g.C.Workers.callers c.args.workers.now in
    let turns = c.in-Ok.turns in
    let file = c.in-Ok-keep_turns.file in
    let has : Has c.args.bytes (told turns) = search rules in
    ended c.write_file.result (AnswersKept callers c.args.script.now (site_view c.args.site) (Some c.args.bytes)) (g.S.Sink.written c.args.out.now) (g.S.Sink.written c.write_file.new.out)
    (answered file, (told turns, has, (file, c.in-Ok-keep_turns.ensures, refl)), c.write_file.ensures.written)

pub returns-in-Err-BadScript-clause-written : goal.returns-in-Err-BadScript-clause-written
returns-in-Err-BadScript-clause-written g c =
    let line = c.in-Err-BadScript.line in
    let script = c.args.script.now in
    let callers = g.C.Workers.callers c.args.workers.now in
    let has : Has c.args.bytes (bad_line line) = search rules in
    let made : IfOk c.bad_script.result (λ x. reply_view x ≡ bad_script script line) = search rules in
    ended c.write_made.result (AnswersKept callers script (site_view c.args.site) (Some c.args.bytes)) (g.S.Sink.written c.args.out.now) (g.S.Sink.written c.write_made.new.out) (
      replied (bad_script script line),
      (bad_line line, has, refl),
      c.write_made.ensures.written (bad_script script line) made,
    )
