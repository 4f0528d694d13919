-- Levels of operators, read in one loop.
use Rattle.std.specs.Prelude.{◌≡◌, ◌<◌, ℕ, zero, suc, ◌+◌, ◌-◌, ◌*◌, List, [], ◌∷◌, false, Option, Some, None}
use Rattle.dsl_syntax.specs.declared.bin_op.BinOp.{BinOp}
use Rattle.dsl_lexer.specs.declared.token.Token.{Token}
use Rattle.dsl_lexer.specs.declared.token_kind.TokenKind.{TokenKind}
use Rattle.dsl_lexer.specs.declared.token_kind.TokenKind.TheVariants as kinds
use Rattle.dsl_lexer.specs.declared.word.Word.TheVariants as words
use Rattle.dsl_lexer.specs.declared.sign.Sign.TheVariants as signs
use Rattle.dsl_rules.specs.Grammar.{made, both, always, Pair, pair, fold_pair}
use Rattle.dsl_rules.specs.Reading.{Read, got, ◌>>=◌, turns}
use Rattle.dsl_grammar.specs.Codes.{sorts}
use Rattle.dsl_grammar.specs.Grammar.{Begun, Level, Operator, joined}
use Rattle.dsl_grammar.specs.Operators.{level_sorts}
use Rattle.dsl_grammar.specs.Reading.{read_by}
use Rattle.dsl_grammar.specs.Terms.{Rule}
use Rattle.dsl_parts.specs.declared.levels.Climb.{Climb}

-- the level of the operator that a token is, and else their number
abbrev pub operator_level : TokenKind → ℕ
operator_level (kinds.Sign signs.Star) = 0
operator_level (kinds.Sign signs.Slash) = 0
operator_level (kinds.Sign signs.Percent) = 0
operator_level (kinds.Sign signs.Plus) = 1
operator_level (kinds.Sign signs.Minus) = 1
operator_level (kinds.Sign signs.ShiftLeft) = 2
operator_level (kinds.Sign signs.ShiftRight) = 2
operator_level (kinds.Sign signs.Less) = 3
operator_level (kinds.Sign signs.Greater) = 3
operator_level (kinds.Sign signs.AtMost) = 3
operator_level (kinds.Sign signs.AtLeast) = 3
operator_level (kinds.Sign signs.NotIn) = 4
operator_level (kinds.Word words.In) = 4
operator_level (kinds.Sign signs.Equal) = 5
operator_level (kinds.Sign signs.NotEqual) = 5
operator_level (kinds.Sign signs.BitAnd) = 6
operator_level (kinds.Sign signs.BitXor) = 7
operator_level (kinds.Sign signs.BitOr) = 8
operator_level (kinds.Sign signs.And) = 9
operator_level (kinds.Sign signs.Or) = 10
operator_level k = 11

abbrev pub next_level : List Token → ℕ
next_level [] = 11
next_level (t ∷ ts) = operator_level t.kind

-- an operator of the level, and the operand behind it
abbrev pub Operated : ℕ → Rule (Pair BinOp Begun)
Operated k = both pair (Operator k) (Level k)

-- so many of them at one level
abbrev pub level_turns : ℕ → ℕ → ℕ → Begun → List Token → Read Token Begun
level_turns n k m b ts = turns sorts false (level_sorts k) always (fold_pair joined) (read_by n (Operated k)) m b ts

-- so many turns at level k, and then d - 1 levels above it
abbrev pub climb : ℕ → ℕ → ℕ → ℕ → Begun → List Token → Read Token Begun
climb n zero m k b ts = got b ts
climb n (suc d) m k b ts = level_turns n k m b ts >>= climb n d n (suc k)

-- what is left to read of a climb to a level
abbrev pub climbs : ℕ → ℕ → Climb → Begun → List Token → Read Token Begun
climbs n l c b ts = climb n (l - c.level) c.turns c.level b ts

-- how many turns it may still take
abbrev pub height : ℕ → ℕ → Climb → ℕ
height n l c = (l - c.level) * (n + 1) + c.turns

-- a climb ends here, or goes on with an operator and its operand
abbrev pub GoesOn : ℕ → ℕ → Climb → List Token → Option Climb → Type 0
GoesOn n l c ts None = (b : Begun) → climbs n l c b ts ≡ got b ts
GoesOn n l c ts (Some d) =
    (d.level < l) × (height n l d < height n l c) × ((b : Begun) → climbs n l c b ts ≡ (read_by n (made (fold_pair joined b) (Operated d.level)) ts >>= climbs n l d))
