use Rattle.std.proofs.Common.{◌≡◌, Err, IfSome, ap, option_map, subst}
use Rattle.site_edge.specs.Told.{find_file}
use Rattle.site_model.specs.PlainSite.{site_view}
use Rattle.site_posts.specs.Books.{histories_of}
use Rattle.site_answers.specs.SiteAnswers.{AnswersBytes, AnswersReplayed, OnBefore, before, has}
use Rattle.site_answers.proofs.Losing.{lost_ends, on_before}
use Rattle.site_run.proofs.Wholes.{ended_as}
use Rattle.site_answers.proofs.replay.replay_site.Goals as goal

pub returns-in-Ok-clause-written : goal.returns-in-Ok-clause-written
returns-in-Ok-clause-written g c =
    let told = g.F.Files.told c.args.files.now in
    let callers = g.C.Workers.callers c.args.workers.now in
    let script = c.args.script.now in
    let state = option_map (λ name. name.now) c.args.state in
    let s = site_view c.args.site in
    let histories = histories_of c.in-Ok.books.items in
    ended_as c.replay_over.result (λ w. IfSome (g.F.Files.told c.books_before.new.files) (λ all. AnswersBytes callers c.args.style c.args.recur script s histories (find_file script all) w))
    (λ w. IfSome told (λ all. AnswersReplayed callers c.args.style c.args.recur state script all s w)) (g.S.Sink.written c.args.out.now) (g.S.Sink.written c.replay_over.new.out)
    (λ w is. on_before told (before state s) (has histories) (λ all b. OnBefore (λ hs. AnswersBytes callers c.args.style c.args.recur script s hs (find_file script all)) state b w) (λ files h. c.in-Ok.ensures.has files h)
    (subst (λ t. IfSome t (λ all. AnswersBytes callers c.args.style c.args.recur script s histories (find_file script all) w)) c.books_before.ensures.same is))
    c.replay_over.ensures.written

pub returns-in-Err-clause-written : goal.returns-in-Err-clause-written
returns-in-Err-clause-written g c =
    let told = g.F.Files.told c.args.files.now in
    let callers = g.C.Workers.callers c.args.workers.now in
    let script = c.args.script.now in
    let state = option_map (λ name. name.now) c.args.state in
    let s = site_view c.args.site in
    lost_ends told (before state s) state c.in-Err.lost (λ files h e. c.in-Err.ensures.absent files h (ap Err e)) (λ files h e. c.in-Err.ensures.bad files h (ap Err e)) (λ all histories. AnswersBytes callers c.args.style c.args.recur script s histories (find_file script all)) c.write_lost.result (g.S.Sink.written c.args.out.now) (g.S.Sink.written c.write_lost.new.out)
    c.write_lost.ensures.no_file c.write_lost.ensures.bad_state (λ e. ((c.write_lost.ensures.failed e).0, ap g.S.Sink.written (c.write_lost.ensures.failed e).1)) (λ e. ((c.write_lost.ensures.memory e).0, ap g.S.Sink.written (c.write_lost.ensures.memory e).1))
