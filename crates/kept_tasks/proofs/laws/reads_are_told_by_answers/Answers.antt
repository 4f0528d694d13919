use Rattle.commit_meaning.specs.Groups.{group_members}
use Rattle.commit_meaning.specs.Items.{item_answer}
use Rattle.commit_meaning.specs.Rules.{instances}
use Rattle.kept_tasks.proofs.Reading.{one_reading}
use Rattle.kept_tasks.proofs.laws.reads_are_told_by_answers.Goals as goal

pub returns-clause-item : goal.returns-clause-item
returns-clause-item c = λ load os i rs qs h k. one_reading (λ view. item_answer view i) load os rs qs h k

pub returns-clause-pair : goal.returns-clause-pair
returns-clause-pair c = λ load os r t rs qs h k. one_reading (λ view. instances view r t) load os rs qs h k

pub returns-clause-member : goal.returns-clause-member
returns-clause-member c = λ load os gs o rs qs h k. one_reading (λ view. group_members view gs o) load os rs qs h k
