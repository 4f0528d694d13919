-- `retain` keeps what has another number, and each of those is told what comes first then.
use Rattle.std.proofs.Common.{◌==◌, not, ap, ◌∙◌, rules, tests, arith}
use Rattle.std.proofs.lemmas.Fn.{filter_same}
use Rattle.downtime_book.specs.declared.downtime.Downtime.{Downtime}
use Rattle.downtime_book.specs.declared.placed.Placed.{Placed}
use Rattle.downtime_book.specs.Firsts.{downtimes_of}
use Rattle.downtime_book.proofs.Order.{downtimes_of-filter}
use Rattle.downtime_book.proofs.keeping.remove.Goals as goal

pub returns-clause-kept : goal.returns-clause-kept
returns-clause-kept c =
    let kept = filter_same _ (λ (p : Placed). not (p.downtime.number == c.args.number)) _ (λ x b f' k. search (rules, tests)) _ _ c.retain.ensures.filtered in
    let whole = c.make_contiguous.ensures.writes_back c.tell.new.placed (omega (arith, c.make_contiguous.ensures.len)) in
    rw whole (c.tell.ensures.same ∙ ap downtimes_of (c.make_contiguous.ensures.value ∙ kept) ∙ downtimes_of-filter (λ (d : Downtime). not (d.number == c.args.number)) c.args.placed.now.items)

pub returns-clause-told : goal.returns-clause-told
returns-clause-told c =
    let whole = c.make_contiguous.ensures.writes_back c.tell.new.placed (omega (arith, c.make_contiguous.ensures.len)) in
    rw whole c.tell.ensures.told
