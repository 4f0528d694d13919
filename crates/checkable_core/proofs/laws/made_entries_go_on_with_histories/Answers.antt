-- What is made names what is the site's.
use Rattle.checkable_core.proofs.Going.{made_on, made_own}
use Rattle.checkable_core.proofs.laws.made_entries_go_on_with_histories.Goals as goal

pub returns : goal.returns
returns c = record {
  entry = λ s zone k h caller moment v sights sound lawful seen. made_own s zone k h caller moment v sights sound lawful seen;
  history = λ s zone k h caller moment v sights sound lawful seen is late. made_on s zone k h caller moment v sights sound lawful seen is late;
}
