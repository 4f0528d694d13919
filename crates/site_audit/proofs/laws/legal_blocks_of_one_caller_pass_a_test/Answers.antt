use Rattle.site_audit.proofs.OneCaller.{legal, passes}
use Rattle.site_audit.proofs.laws.legal_blocks_of_one_caller_pass_a_test.Goals as goal

pub returns-clause-passes : goal.returns-clause-passes
returns-clause-passes c = λ style b s blocks h. passes style b s blocks h

pub returns-clause-legal : goal.returns-clause-legal
returns-clause-legal c = λ style b s blocks own h. legal style b s blocks own h
