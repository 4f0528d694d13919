use Rattle.std.proofs.Common.{◌≡◌, ◌++◌, drop}
use Rattle.task_keys.specs.Keys.{texts_key}
use Rattle.task_keys.proofs.key.Key.push_texts.Given as goal

abbrev pub invariant-loop-text : goal.invariant-loop-text
invariant-loop-text l = l.self ++ texts_key (drop l.text-index l.texts) ≡ l.fn.self ++ texts_key l.texts
