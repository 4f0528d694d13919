use Rattle.std.proofs.Common.{refl}
use Rattle.dsl_value.proofs.Growing.{grows_same, grows_on}
use Rattle.dsl_value.proofs.laws.growth_adds_up.Goals as goal

pub returns : goal.returns
returns c = record {
  stays = λ store. grows_same 0 store store refl;
  goes_on = grows_on;
}
