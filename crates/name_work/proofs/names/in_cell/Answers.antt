use Rattle.std.proofs.Common.{length, sym, ap}
use Rattle.dsl_value.specs.Contents.{plain}
use Rattle.dsl_value.proofs.Searching.{found_in_cell}
use Rattle.name_work.proofs.names.in_cell.Goals as goal

pub returns-in-Dict-clause-found : goal.returns-in-Dict-clause-found
returns-in-Dict-clause-found c =
    found_in_cell (length c.args.store.now.cells) (length c.args.store.now.functions) _ _ _ _ _ c.get.result c.as_str.ensures
    (sym (ap plain c.in-Dict.is))
    c.cell.ensures.cell c.cell.ensures.stands c.get.ensures.found
