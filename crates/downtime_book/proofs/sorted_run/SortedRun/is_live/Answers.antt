-- A downtime of that number is among those that are live.
use Rattle.std.proofs.Common.{◌==◌, ◌-◌, take, drop, filter, ap, ◌∙◌, rules, tests}
use Rattle.std.specs.List.{list_any}
use Rattle.std.proofs.lemmas.List.{take_rest}
use Rattle.std.proofs.lemmas.Iterator.Consumers.{YieldsList-from_deque}
use Rattle.std.proofs.lemmas.Iterator.Search.{any_from_yields_List}
use Rattle.downtime_book.specs.declared.downtime.Downtime.{Downtime}
use Rattle.downtime_book.specs.declared.placed.Placed.{Placed}
use Rattle.downtime_book.specs.Downtime.{is_live}
use Rattle.downtime_book.proofs.Order.{any_placed}
use Rattle.downtime_book.proofs.sorted_run.SortedRun.is_live.Goals as goal

pub returns : goal.returns
returns c =
    let test : Downtime → _ = λ (d : Downtime). d.number == c.args.number in
    let ps = c.self.inside.placed.items in
    let k = c.first_live-first.result in
    let rest = c.range.ensures.rest ∙ ap (λ n. take (n - k) (drop k ps)) c.self.inside.placed.ok.0 ∙ take_rest ps k in
    any_from_yields_List (λ (p : Placed). p.downtime.number == c.args.number) _ _ c.any.result c.any.ensures.ran (YieldsList-from_deque _ rest) (λ x b q k. search (rules, tests)) ∙ any_placed test (drop k ps) ∙ ap (list_any test) (c.first_live-first.ensures.live ∙ ap (filter (is_live c.args.moment)) c.self.view_is)
