use Rattle.std.proofs.Common.{◌≡◌, length, ap, ◌∙◌, arith}
use Rattle.std.proofs.lemmas.Grind.{common_steps}
use Rattle.dsl_value.specs.Rows.{joined}
use Rattle.dsl_value.proofs.Rowed.{changed_sorted, changed_without, changed_count, remove_joined, nothing}
use Rattle.dsl_value.proofs.pair_rows.remove_in_row.Goals as goal

pub remove_counted-taken-requires : goal.remove_counted-taken-requires
remove_counted-taken-requires c = changed_sorted c.args.rows.now.items c.args.key.now c.args.at c.index_mut.result.now c.index_mut.result.now c.requires.at c.index_mut.ensures.value c.requires.sorted

pub returns-then-is_empty-clause-same : goal.returns-then-is_empty-clause-same
returns-then-is_empty-clause-same c =
    let row = c.remove_counted-taken.new.row in
    let none : length row.items ≡ 0 = grind (arith, common_steps) in
    ap joined c.remove.ensures.items
    ∙ remove_joined c.args.rows.now.items c.args.at row (omega (arith, c.requires.at.inside)) (nothing row.items none)
    ∙ changed_without c.args.rows.now.items c.args.key.now c.args.at c.index_mut.result.now row c.requires.at c.index_mut.ensures.value c.remove_counted-taken.ensures.same

pub returns-then-is_empty-clause-taken : goal.returns-then-is_empty-clause-taken
returns-then-is_empty-clause-taken c =
    let row = c.remove_counted-taken.new.row in
    let none : length row.items ≡ 0 = grind (arith, common_steps) in
    let count = changed_count c.args.rows.now.items c.args.key.now c.args.at c.index_mut.result.now row c.requires.at c.index_mut.ensures.value in
    let same = ap length (ap joined c.remove.ensures.items ∙ remove_joined c.args.rows.now.items c.args.at row (omega (arith, c.requires.at.inside)) (nothing row.items none)) in
    omega (arith, count, same, c.remove_counted-taken.ensures.taken)

pub returns-else-is_empty-clause-same : goal.returns-else-is_empty-clause-same
returns-else-is_empty-clause-same c = changed_without c.args.rows.now.items c.args.key.now c.args.at c.index_mut.result.now c.remove_counted-taken.new.row c.requires.at c.index_mut.ensures.value c.remove_counted-taken.ensures.same

pub returns-else-is_empty-clause-taken : goal.returns-else-is_empty-clause-taken
returns-else-is_empty-clause-taken c =
    let count = changed_count c.args.rows.now.items c.args.key.now c.args.at c.index_mut.result.now c.remove_counted-taken.new.row c.requires.at c.index_mut.ensures.value in
    omega (arith, count, c.remove_counted-taken.ensures.taken)
