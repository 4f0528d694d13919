use Rattle.std.proofs.Common.{rules}
use Rattle.std.specs.Ordering.{is_lt}
use Rattle.std.proofs.lemmas.Bool.{MatchBool-at_true}
use Rattle.std.proofs.lemmas.Fn.{always_returns_same}
use Rattle.dsl_value.specs.Pairs.{key_cmp}
use Rattle.dsl_value.proofs.Rising.{risen}
use Rattle.dsl_value.proofs.pairs.rises.Goals as goal

pub returns : goal.returns
returns c = λ t.
    let compares = always_returns_same _ _ _ (λ a r g called. search rules) in
    risen _ (MatchBool-at_true _ _ t (c.is_sorted_by.ensures.cases (λ p q. is_lt (key_cmp p.0 q.0)) compares))
