use Rattle.std.proofs.Common.{length, sym, subst}
use Rattle.std.proofs.lemmas.Result.{MatchResult-weaker}
use Rattle.dsl_value.specs.Whole.{Names}
use Rattle.dsl_lib.proofs.Stand.{find_stands}
use Rattle.dsl_lib.proofs.dicts.get.Goals as goal

pub returns-in-Some-clause-stands : goal.returns-in-Some-clause-stands
returns-in-Some-clause-stands c = MatchResult-weaker c.copied.result c.copied.ensures (λ v e. subst (Names (length c.args.store.now.cells) (length c.args.store.now.functions)) (sym e) (find_stands _ _ _ _ _ c.in_ok-cell.ensures.stands c.in-Some.ensures.found)) (λ e h. tt)
