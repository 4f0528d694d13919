use Rattle.std.proofs.Common.{rules, tests, ap, sym, ◌∙◌, length, ◌≡◌, ◌==◌, true}
use Rattle.std.specs.Prelude.{not, ◌&&◌}
use Rattle.std.specs.List.{list_any}
use Rattle.std.proofs.lemmas.Iterator.{YieldsList-from_slice}
use Rattle.std.proofs.lemmas.Iterator.Search.{any_from_yields_List}
use Rattle.eval_meaning.specs.Registration.{is_barred}
use Rattle.load_work.proofs.registering.is_good_name.Goals as goal

pub returns-then-not-is_empty : goal.returns-then-not-is_empty
returns-then-not-is_empty c =
    let each = any_from_yields_List is_barred _ _ c.any.result c.any.ensures.ran (YieldsList-from_slice c.args.name.now (search rules)) (λ x b q k. search (rules, tests)) in
    let some : not (length c.args.name.now == 0) ≡ true = search (rules, tests) in
    ap not each ∙ sym (ap (λ b. b && not (list_any is_barred c.args.name.now)) some)
