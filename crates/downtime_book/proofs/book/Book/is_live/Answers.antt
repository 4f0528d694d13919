-- A downtime of that number is among those of a run that are live.
use Rattle.std.proofs.Common.{◌==◌, List, filter, ◌∙◌, ap, rules, tests}
use Rattle.std.specs.List.{list_any}
use Rattle.std.proofs.lemmas.Iterator.{YieldsList-from_slice}
use Rattle.std.proofs.lemmas.Iterator.Search.{any_from_yields_List}
use Rattle.downtime_book.specs.declared.downtime.Downtime.{Downtime}
use Rattle.downtime_book.specs.Downtime.{is_live}
use Rattle.downtime_book.specs.Contents.{Contents}
use Rattle.downtime_book.proofs.Together.{any_together}
use Rattle.downtime_book.proofs.Steps.{is_live_in-kept}
use Rattle.downtime_book.proofs.book.Book.is_live.Goals as goal

pub returns : goal.returns
returns c = λ calls s.
    let n = c.args.number in
    let m = c.args.moment in
    let each = any_from_yields_List (λ (run : List Downtime). list_any (λ (d : Downtime). d.number == n) (filter (is_live m) run)) _ _ c.any.result c.any.ensures.ran (YieldsList-from_slice c.self.inside.runs.items (search rules)) (λ x b q k. search (rules, tests)) in
    each ∙ any_together (λ (d : Downtime). d.number == n) (is_live m) c.self.inside.runs.items ∙ ap (λ (b : Contents). list_any (λ (d : Downtime). d.number == n) (filter (is_live m) b.downtimes)) c.self.view_is ∙ is_live_in-kept c.args.self.now calls m s c.requires n
