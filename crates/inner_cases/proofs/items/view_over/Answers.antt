-- What a load captured makes its view lawful.
use Rattle.std.proofs.Common.{refl}
use Rattle.inner_cases.proofs.Lawful.{lawful}
use Rattle.inner_cases.proofs.items.view_over.Goals as goal

pub returns-clause-lawful : goal.returns-clause-lawful
returns-clause-lawful c = lawful c.args.parts.now c.requires _ refl refl
