use Rattle.std.proofs.Common.{◌≡◌, IfOk, Some, refl, rules}
use Rattle.site_model.specs.PlainSite.{site_view}
use Rattle.run_replies.specs.Runs.{replied}
use Rattle.site_answers.specs.SiteAnswers.{AnswersAsked, answered, most_turns}
use Rattle.site_query.specs.Lines.{Has, bad_line, told}
use Rattle.site_replies.specs.Replies.{bad_query, reply_view}
use Rattle.whole_runs.specs.Queried.{AnswersQuery}
use Rattle.site_run.proofs.Wholes.{ended}
use Rattle.site_answers.proofs.query.answer_bytes.Goals as goal

pub returns-in-Ok-query_turns-clause-written : goal.returns-in-Ok-query_turns-clause-written
returns-in-Ok-query_turns-clause-written g c =
    let s = site_view c.args.site in
    let callers = g.C.Workers.callers c.args.workers.now in
    let q = c.in-Ok.query in
    let answer = c.in-Ok-query_turns.answer in
    let has : Has c.args.bytes.now (told q) = search rules in
    ended c.write_answer.result (AnswersAsked callers c.args.name.now (Some c.args.bytes.now) s c.args.turns) (g.S.Sink.written c.args.out.now) (g.S.Sink.written c.write_answer.new.out)
    (answered answer, (told q, has, (answer, c.in-Ok-query_turns.ensures, refl)), c.write_answer.ensures.written)

pub returns-in-Err-BadQuery-clause-written : goal.returns-in-Err-BadQuery-clause-written
returns-in-Err-BadQuery-clause-written g c =
    let line = c.in-Err-BadQuery.line in
    let name = c.args.name.now in
    let callers = g.C.Workers.callers c.args.workers.now in
    let has : Has c.args.bytes.now (bad_line line) = search rules in
    let made : IfOk c.bad_query.result (λ x. reply_view x ≡ bad_query name line) = search rules in
    ended c.write_made.result (AnswersAsked callers name (Some c.args.bytes.now) (site_view c.args.site) c.args.turns) (g.S.Sink.written c.args.out.now) (g.S.Sink.written c.write_made.new.out) (
      replied (bad_query name line),
      (bad_line line, has, refl),
      c.write_made.ensures.written (bad_query name line) made,
    )
