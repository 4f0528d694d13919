use Rattle.std.proofs.Common.{◌≤◌, length, sym, subst, arith}
use Rattle.std.proofs.lemmas.Bool.Decides.{nat_tests}
use Rattle.dsl_value.specs.Whole.{Names}
use Rattle.dsl_lib.proofs.Stand.{third_stands, dict_is}
use Rattle.dsl_lib.proofs.dicts.set.Goals as goal

pub returns-clause-stands : goal.returns-clause-stands
returns-clause-stands c =
    let le : c.args.store.now.base ≤ c.in_ok-cell.cell = grind (arith, nat_tests, c.is_frozen.ensures, c.if-is_frozen.false) in (
      le,
      c.in_ok-cell.ensures.dict.0,
      dict_is c.args.store.now.cells _ c.in_ok-cell.cell c.in_ok-cell.ensures.dict.1,
      subst (Names (length c.args.store.now.cells) (length c.args.store.now.functions)) (sym c.in_ok-copied.ensures) (third_stands (Names (length c.args.store.now.cells) (length c.args.store.now.functions)) c.args.args.now _ _ _ c.in_ok-of.ensures c.requires),
    )
