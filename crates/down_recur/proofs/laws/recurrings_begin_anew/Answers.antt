use Rattle.down_recur.proofs.Anew.{are_new}
use Rattle.down_recur.proofs.laws.recurrings_begin_anew.Goals as goal

pub returns : goal.returns
returns c = are_new
