use Rattle.std.proofs.Common.{◌≡◌, ◌++◌, false, nat_lt, drop}
use Rattle.log_text.specs.LogLines.{words_text}
use Rattle.log_text.proofs.orders.push_words.Given as goal

-- what stands so far and what the rest gives are the whole text
abbrev pub invariant-loop-i : goal.invariant-loop-i
invariant-loop-i l = l.out ++ words_text (nat_lt 0 l.i) (drop l.i l.words) ≡ l.fn.out ++ words_text false l.words
