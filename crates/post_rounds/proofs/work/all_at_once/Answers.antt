-- Each caller has ended by its own answer.
use Rattle.std.proofs.Common.{rules, ◌≡◌, length, map}
use Rattle.std.specs.Prelude.{Ok}
use Rattle.std.specs.List.{AllZip}
use Rattle.post_rounds.proofs.Joined.{all_gave, if_ok}
use Rattle.post_rounds.proofs.work.all_at_once.Goals as goal

pub returns : goal.returns
returns g c =
    let whole : length c.in_ok-answers.answers.items ≡ length c.args.callers.items = search (rules, c.in_ok-answers.ensures.len) in
    if_ok (λ all. map (λ x. Ok x) all.items ≡ c.in_ok-answers.answers.items) (λ hands. AllZip (g.W.Work.ended c.args.work.now) c.args.callers.items hands.items)
    (λ hands same. all_gave (g.W.Work.ended c.args.work.now) c.args.callers.items c.in_ok-answers.answers.items whole
    (λ i d l. let one = (c.in_ok-answers.ensures.each i d l).1 in (one.job, one.job_is, one.call.met)) hands.items same)
    c.all_or_none.result c.all_or_none.ensures
