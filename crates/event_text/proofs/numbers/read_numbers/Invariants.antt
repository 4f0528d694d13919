use Rattle.std.proofs.Common.{◌≡◌, ◌++◌, drop, length, option_map}
use Rattle.event_text.specs.Lent.{texts_view}
use Rattle.event_text.specs.Numbers.{numbers_in}
use Rattle.event_text.proofs.numbers.read_numbers.Given as goal

-- the numbers so far, with those of the rest, are all of them
abbrev pub invariant-loop-i : goal.invariant-loop-i
invariant-loop-i l = (length l.numbers.items ≡ l.i) × (option_map (λ ns. l.numbers.items ++ ns) (numbers_in (drop l.i l.limits) (texts_view (drop l.i l.texts))) ≡ numbers_in l.limits (texts_view l.texts))
