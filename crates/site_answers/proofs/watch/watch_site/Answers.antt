use Rattle.std.proofs.Common.{◌≡◌, Err, IfSome, ap, inl, inr, option_map, refl}
use Rattle.site_model.specs.PlainSite.{site_view}
use Rattle.site_posts.specs.Books.{histories_of}
use Rattle.site_answers.specs.SiteAnswers.{AnswersWatched, OnBefore, before, has, most_turns}
use Rattle.run_replies.proofs.Finding.{always}
use Rattle.site_answers.proofs.Losing.{each, lost_ends, none_there, on_before}
use Rattle.whole_runs.specs.Logs.{AnswersTurns}
use Rattle.site_run.proofs.Wholes.{ended_as}
use Rattle.site_answers.proofs.watch.watch_site.Goals as goal

pub returns-in-Ok-clause-written : goal.returns-in-Ok-clause-written
returns-in-Ok-clause-written g c =
    let told = g.F.Files.told c.args.files.now in
    let asked = AnswersTurns (g.C.Workers.callers c.args.workers.now) c.args.style c.args.recur most_turns (g.W.World.turns c.args.world.now) (site_view c.args.site) in
    let state = option_map (λ name. name.now) c.args.state in
    let s = site_view c.args.site in
    let histories = histories_of c.in-Ok.books.items in
    ended_as c.write_site_log.result (asked histories) (λ w. IfSome told (λ all. OnBefore asked state (before state s all) w)) (g.S.Sink.written c.args.out.now) (g.S.Sink.written c.write_site_log.new.out)
    (λ w is. on_before told (before state s) (has histories) (λ all b. OnBefore asked state b w) (λ files h. c.in-Ok.ensures.has files h) (always told (asked histories w) is))
    c.write_site_log.ensures.written

pub returns-in-Ok-clause-came : goal.returns-in-Ok-clause-came
returns-in-Ok-clause-came g c =
    let told = g.F.Files.told c.args.files.now in
    let state = option_map (λ name. name.now) c.args.state in
    let s = site_view c.args.site in
    let histories = histories_of c.in-Ok.books.items in
    inr (inr (record {
      histories = histories;
      are = on_before told (before state s) (has histories) (λ all b. b ≡ has histories) (λ files h. c.in-Ok.ensures.has files h) (each told (λ all. has histories ≡ has histories) (λ files. refl));
      went = c.write_site_log.ensures.went;
    }))

pub returns-in-Err-clause-written : goal.returns-in-Err-clause-written
returns-in-Err-clause-written g c =
    let told = g.F.Files.told c.args.files.now in
    let asked = AnswersTurns (g.C.Workers.callers c.args.workers.now) c.args.style c.args.recur most_turns (g.W.World.turns c.args.world.now) (site_view c.args.site) in
    let state = option_map (λ name. name.now) c.args.state in
    let s = site_view c.args.site in
    lost_ends told (before state s) state c.in-Err.lost (λ files h e. c.in-Err.ensures.absent files h (ap Err e)) (λ files h e. c.in-Err.ensures.bad files h (ap Err e)) (λ all. asked) c.write_lost.result (g.S.Sink.written c.args.out.now) (g.S.Sink.written c.write_lost.new.out)
    c.write_lost.ensures.no_file c.write_lost.ensures.bad_state (λ e. ((c.write_lost.ensures.failed e).0, ap g.S.Sink.written (c.write_lost.ensures.failed e).1)) (λ e. ((c.write_lost.ensures.memory e).0, ap g.S.Sink.written (c.write_lost.ensures.memory e).1))
