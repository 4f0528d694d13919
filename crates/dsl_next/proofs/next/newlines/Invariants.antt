use Rattle.std.proofs.Common.{◌≡◌, ℕ, ◌-◌, [], ◌∷◌, false}
use Rattle.dsl_rules.specs.Grammar.{always}
use Rattle.dsl_rules.specs.Reading.{turns, one_read}
use Rattle.dsl_grammar.specs.Codes.{sorts, line_sort}
use Rattle.dsl_next.proofs.next.newlines.Given as goal

abbrev pub invariant-loop : goal.invariant-loop
invariant-loop l =
    turns {C = ℕ} sorts false (line_sort ∷ []) always (λ n _. n) (one_read sorts (line_sort ∷ []) (λ t. t.place)) (l.most - l.counter) 0 l.rest
    ≡ turns {C = ℕ} sorts false (line_sort ∷ []) always (λ n _. n) (one_read sorts (line_sort ∷ []) (λ t. t.place)) l.most 0 l.fn.tokens
