-- What is answered stays over each view that shows more.
use Rattle.std.proofs.Common.{◌≡◌, List, subst}
use Rattle.eval_meaning.specs.Registered.{PlainItem, PlainRule}
use Rattle.eval_meaning.specs.Views.{View, IsPart}
use Rattle.commit_meaning.specs.Answers.{Answer, answered}
use Rattle.commit_meaning.specs.Names.{Target}
use Rattle.commit_meaning.specs.Rules.{instances, pair_number, rule_run}
use Rattle.commit_meaning.specs.Staying.{Stays}
use Rattle.commit_meaning.proofs.ViewAnswers.{answers_stay}

pub rule_lasts : (v world : View) (r : PlainRule) (t : Target) (x : Answer (List PlainItem)) → IsPart v world → answered (pair_number r t) (rule_run v r t) ≡ x → Stays x (instances world r t)
unfolding instances
rule_lasts v world r t x part e = subst (λ y. Stays y (instances world r t)) e ((answers_stay v world part).rules r t)
