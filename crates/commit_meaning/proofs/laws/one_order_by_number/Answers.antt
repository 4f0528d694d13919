use Rattle.commit_meaning.specs.Waves.{item_number, diag_number}
use Rattle.commit_meaning.proofs.OneOrder.{only_by_number}
use Rattle.commit_meaning.proofs.laws.one_order_by_number.Goals as goal

pub returns-clause-items : goal.returns-clause-items
returns-clause-items c = only_by_number item_number

pub returns-clause-diags : goal.returns-clause-diags
returns-clause-diags c = only_by_number diag_number
