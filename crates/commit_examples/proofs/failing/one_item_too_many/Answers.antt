use Rattle.std.proofs.Common.{ap}
use Rattle.commit_meaning.specs.Orders.{by_number}
use Rattle.commit_meaning.specs.Waves.{diag_number, limited, wave_diags, wave_faults}
use Rattle.commit_examples.proofs.failing.one_item_too_many.Goals as goal

pub returns : goal.returns
unfolding wave_diags
returns c = λ load before w i e. ap (λ found. limited found (by_number diag_number (wave_faults load before w))) e
