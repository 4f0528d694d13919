-- What stands from the first one on that isn't past is what is live.
use Rattle.std.proofs.Common.{◌≡◌, drop, ap, sym, subst, ◌∙◌, rules}
use Rattle.downtime_book.specs.Firsts.{AreTold, downtimes_of}
use Rattle.downtime_book.proofs.Order.{AreTold-drop}
use Rattle.downtime_book.proofs.keeping.drop_past.Goals as goal

pub returns-clause-live : goal.returns-clause-live
returns-clause-live c =
    let dropped = c.drop-drain.ensures.items ∙ c.drain.ensures.kept in
    let rest : c.trim.new.placed.items ≡ drop c.first_live-past.result c.args.placed.now.items = search (rules, dropped, c.trim.ensures) in
    ap downtimes_of rest ∙ c.first_live-past.ensures.live

pub returns-clause-told : goal.returns-clause-told
returns-clause-told c = λ told.
    let dropped = c.drop-drain.ensures.items ∙ c.drain.ensures.kept in
    let rest : c.trim.new.placed.items ≡ drop c.first_live-past.result c.args.placed.now.items = search (rules, dropped, c.trim.ensures) in
    subst AreTold (sym rest) (AreTold-drop c.first_live-past.result c.args.placed.now.items told)
