use Rattle.round_check.proofs.ToldLaws.{complete, sound}
use Rattle.round_check.proofs.laws.rounds_are_those_that_are_told.Goals as goal

pub returns-clause-sound : goal.returns-clause-sound
returns-clause-sound c = λ r moment before events order round h. sound r moment before events order round h

pub returns-clause-complete : goal.returns-clause-complete
returns-clause-complete c = λ r moment before events order round first same x. complete r moment before events order round first same x
