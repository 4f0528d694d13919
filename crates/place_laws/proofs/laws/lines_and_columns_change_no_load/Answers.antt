use Rattle.place_laws.proofs.Alike.{loads_alike}
use Rattle.place_laws.proofs.laws.lines_and_columns_change_no_load.Goals as goal

pub returns : goal.returns
returns c = loads_alike
