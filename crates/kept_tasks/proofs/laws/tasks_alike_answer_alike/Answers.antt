use Rattle.kept_tasks.proofs.Items.{item_follows, item_reads}
use Rattle.kept_tasks.proofs.Members.{member_follows, member_reads}
use Rattle.kept_tasks.proofs.Pairs.{pair_follows, pair_reads}
use Rattle.kept_tasks.proofs.laws.tasks_alike_answer_alike.Goals as goal

pub returns-clause-item : goal.returns-clause-item
returns-clause-item c = λ old new os ps agree i j same rs are seen. (item_reads old new os ps agree i j same rs are seen, λ o e. item_follows old new os ps agree i j same rs o are seen e)

pub returns-clause-pair : goal.returns-clause-pair
returns-clause-pair c = λ old new os ps agree r q t u rule target rs are seen. (pair_reads old new os ps agree r q t u rule target rs are seen, λ is e. pair_follows old new os ps agree r q t u rule target rs is are seen e)

pub returns-clause-member : goal.returns-clause-member
returns-clause-member c = λ old new os ps agree gs hs o p groups same rs are seen. (member_reads old new os ps agree gs hs o p groups same rs are seen, λ ns e. member_follows old new os ps agree gs hs o p groups same rs ns are seen e)
