use Rattle.std.proofs.Common.{◌≡◌, IfOk, IfSome, Some, refl, rules}
use Rattle.site_edge.specs.Told.{find_file}
use Rattle.site_model.specs.PlainSite.{site_view}
use Rattle.run_replies.specs.Runs.{replied}
use Rattle.site_answers.specs.SiteAnswers.{AnswersAsked, AnswersQueried}
use Rattle.site_replies.specs.Replies.{bad_script, reply_view}
use Rattle.site_text.specs.Scripts.{Has, bad_line, told}
use Rattle.run_replies.proofs.Finding.{always, on_some}
use Rattle.site_run.proofs.Wholes.{ended, ended_as}
use Rattle.site_answers.proofs.query.after_bytes.Goals as goal

pub returns-in-Ok-clause-written : goal.returns-in-Ok-clause-written
returns-in-Ok-clause-written g c =
    let files = g.F.Files.told c.args.files.now in
    let turns = c.in-Ok.turns in
    let script = c.args.script.now in
    let query = c.args.query.now in
    let s = site_view c.args.site in
    let callers = g.C.Workers.callers c.args.workers.now in
    let has : Has c.args.bytes (told turns) = search rules in
    ended_as c.after_turns.result (λ w. IfSome files (λ all. AnswersAsked callers query (find_file query all) s turns w))
    (λ w. IfSome files (λ all. AnswersQueried callers script query s (Some c.args.bytes) (find_file query all) w)) (g.S.Sink.written c.args.out.now) (g.S.Sink.written c.after_turns.new.out)
    (λ w is. on_some files (λ all. AnswersAsked callers query (find_file query all) s turns w) (λ all. AnswersQueried callers script query s (Some c.args.bytes) (find_file query all) w) (λ all h. (told turns, has, h)) is)
    c.after_turns.ensures.written

pub returns-in-Err-BadScript-clause-written : goal.returns-in-Err-BadScript-clause-written
returns-in-Err-BadScript-clause-written g c =
    let files = g.F.Files.told c.args.files.now in
    let line = c.in-Err-BadScript.line in
    let script = c.args.script.now in
    let query = c.args.query.now in
    let s = site_view c.args.site in
    let callers = g.C.Workers.callers c.args.workers.now in
    let has : Has c.args.bytes (bad_line line) = search rules in
    let made : IfOk c.bad_script.result (λ x. reply_view x ≡ bad_script script line) = search rules in
    ended c.write_made.result (λ w. IfSome files (λ all. AnswersQueried callers script query s (Some c.args.bytes) (find_file query all) w)) (g.S.Sink.written c.args.out.now) (g.S.Sink.written c.write_made.new.out) (
      replied (bad_script script line),
      on_some files (λ all. Unit {0}) (λ all. AnswersQueried callers script query s (Some c.args.bytes) (find_file query all) (replied (bad_script script line))) (λ all h. (bad_line line, has, refl)) (always files _ tt),
      c.write_made.ensures.written (bad_script script line) made,
    )
