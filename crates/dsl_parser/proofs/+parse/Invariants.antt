use Rattle.std.proofs.Common.{◌≡◌, ◌<◌, ◌≤◌, ◌+◌, ◌*◌, [], ◌∷◌, length, false, true}
use Rattle.dsl_syntax.specs.Lists.{add_expression}
use Rattle.dsl_syntax.specs.SyntaxView.{exprs_view, entries_view, uses_view, stmts_view}
use Rattle.dsl_lexer.specs.declared.sign.Sign.TheVariants as signs
use Rattle.dsl_lexer.specs.declared.word.Word.TheVariants as words
use Rattle.dsl_rules.specs.Grammar.{always, one}
use Rattle.dsl_rules.specs.Reading.{turns}
use Rattle.dsl_grammar.specs.Codes.{sorts, sign_sort, word_sort}
use Rattle.dsl_grammar.specs.Grammar.{Expr, Postfix, OneTail, Listed, tail_sorts, with_tail, Level, Elements, CommaSlot, add_slot, may_follow, Pairs, MaybePair, add_pair, UseNames, OneUse, add_captured, AnyHead, ApplyHeads, add_head, may_head, Choices, Else, may_else, add_else}
use Rattle.dsl_grammar.specs.Reading.{read_by}
use Rattle.dsl_grammar.specs.Terms.{behind, sign, bsep, add_turn}
use Rattle.dsl_statements.proofs.Rows.{row_from}
use Rattle.dsl_statements.specs.Leads.{all_in, maybe_in, separators, rank, room}
use Rattle.dsl_parts.specs.ExprParts.{operand_view, slots_view}
use Rattle.dsl_parts.specs.Levels.{climbs, height}
use Rattle.dsl_statements.specs.NamedView.{head_sorts, heads_view}
use Rattle.dsl_statements.specs.Parts.{choice_view}
use Rattle.dsl_parser.proofs.LoopTurns.{Left}
use Rattle.dsl_parser.proofs.+parse.Given as goal

-- How deep each function calls others with the same bound.

abbrev pub decreases-exprs::expr : goal.decreases-exprs::expr
decreases-exprs::expr l = 100 * l.most + 40

abbrev pub decreases-exprs::lambda : goal.decreases-exprs::lambda
decreases-exprs::lambda l = 100 * l.most + 39

abbrev pub decreases-exprs::lambda_body : goal.decreases-exprs::lambda_body
decreases-exprs::lambda_body l = 100 * l.most + 38

abbrev pub decreases-exprs::operation : goal.decreases-exprs::operation
decreases-exprs::operation l = 100 * l.most + 20 + l.level

abbrev pub decreases-exprs::unary : goal.decreases-exprs::unary
decreases-exprs::unary l = 100 * l.most + 19

abbrev pub decreases-tails::postfix : goal.decreases-tails::postfix
decreases-tails::postfix l = 100 * l.most + 18

abbrev pub decreases-tails::primary : goal.decreases-tails::primary
decreases-tails::primary l = 100 * l.most + 17

abbrev pub decreases-tails::with_next_tail : goal.decreases-tails::with_next_tail
decreases-tails::with_next_tail l = 100 * l.most + 16

abbrev pub decreases-tails::arguments : goal.decreases-tails::arguments
decreases-tails::arguments l = 100 * l.most + 15

abbrev pub decreases-collections::array : goal.decreases-collections::array
decreases-collections::array l = 100 * l.most + 16

abbrev pub decreases-collections::elements : goal.decreases-collections::elements
decreases-collections::elements l = 100 * l.most + 15

abbrev pub decreases-collections::slot : goal.decreases-collections::slot
decreases-collections::slot l = 100 * l.most + 10

abbrev pub decreases-collections::dictionary : goal.decreases-collections::dictionary
decreases-collections::dictionary l = 100 * l.most + 16

abbrev pub decreases-collections::pairs : goal.decreases-collections::pairs
decreases-collections::pairs l = 100 * l.most + 15

abbrev pub decreases-collections::with_pair : goal.decreases-collections::with_pair
decreases-collections::with_pair l = 100 * l.most + 14

abbrev pub decreases-functions::func : goal.decreases-functions::func
decreases-functions::func l = 100 * l.most + 14

abbrev pub decreases-functions::captured : goal.decreases-functions::captured
decreases-functions::captured l = 100 * l.most + 13

abbrev pub decreases-functions::use_names : goal.decreases-functions::use_names
decreases-functions::use_names l = 100 * l.most + 12

abbrev pub decreases-functions::with_captured : goal.decreases-functions::with_captured
decreases-functions::with_captured l = 100 * l.most + 11

abbrev pub decreases-blocks::block : goal.decreases-blocks::block
decreases-blocks::block l = 100 * l.most + 40

abbrev pub decreases-blocks::braced : goal.decreases-blocks::braced
decreases-blocks::braced l = 100 * l.most + 20 + 10 * room l.within

abbrev pub decreases-blocks::statements : goal.decreases-blocks::statements
decreases-blocks::statements l = 100 * l.most + 19 + 10 * room l.within

abbrev pub decreases-blocks::with_statement : goal.decreases-blocks::with_statement
decreases-blocks::with_statement l = 100 * l.most + 18 + 10 * room l.within

abbrev pub decreases-statements::statement_kind : goal.decreases-statements::statement_kind
decreases-statements::statement_kind l = 100 * l.most + 17 + 10 * rank l.lead

abbrev pub decreases-objects::named_statement : goal.decreases-objects::named_statement
decreases-objects::named_statement l = 100 * l.most + 26

abbrev pub decreases-applies::apply_statement : goal.decreases-applies::apply_statement
decreases-applies::apply_statement l = 100 * l.most + 26

abbrev pub decreases-applies::apply_name : goal.decreases-applies::apply_name
decreases-applies::apply_name l = 100 * l.most + 25

abbrev pub decreases-applies::apply_heads : goal.decreases-applies::apply_heads
decreases-applies::apply_heads l = 100 * l.most + 25

abbrev pub decreases-applies::more_heads : goal.decreases-applies::more_heads
decreases-applies::more_heads l = 100 * l.most + 24

abbrev pub decreases-statements::const_statement : goal.decreases-statements::const_statement
decreases-statements::const_statement l = 100 * l.most + 16

abbrev pub decreases-statements::var_statement : goal.decreases-statements::var_statement
decreases-statements::var_statement l = 100 * l.most + 16

abbrev pub decreases-statements::worded_statement : goal.decreases-statements::worded_statement
decreases-statements::worded_statement l = 100 * l.most + 16

abbrev pub decreases-statements::define_statement : goal.decreases-statements::define_statement
decreases-statements::define_statement l = 100 * l.most + 16

abbrev pub decreases-assignments::set_or_eval : goal.decreases-assignments::set_or_eval
decreases-assignments::set_or_eval l = 100 * l.most + 16

abbrev pub decreases-choices::choices : goal.decreases-choices::choices
decreases-choices::choices l = 100 * l.most + 16

abbrev pub decreases-choices::more_choice : goal.decreases-choices::more_choice
decreases-choices::more_choice l = 100 * l.most + 15

abbrev pub decreases-choices::guarded : goal.decreases-choices::guarded
decreases-choices::guarded l = 100 * l.most + 14

abbrev pub decreases-loops::for_statement : goal.decreases-loops::for_statement
decreases-loops::for_statement l = 100 * l.most + 16

abbrev pub decreases-loops::loop_head : goal.decreases-loops::loop_head
decreases-loops::loop_head l = 100 * l.most + 10

abbrev pub decreases-exprs::operation-loop-next : goal.decreases-exprs::operation-loop-next
decreases-exprs::operation-loop-next l = height l.most l.level l.climb

-- What is still to be read gives the whole, and it is within the bound.
abbrev pub invariant-exprs::operation-loop-next : goal.invariant-exprs::operation-loop-next
invariant-exprs::operation-loop-next l = record {
  reads : climbs l.most l.level l.climb (operand_view l.left) l.rest ≡ read_by l.most (Level l.level) l.fn.tokens;
  bound : length l.rest ≤ l.most;
}

abbrev pub decreases-tails::postfix-loop-alloc : goal.decreases-tails::postfix-loop-alloc
decreases-tails::postfix-loop-alloc l = length l.rest

abbrev pub invariant-tails::postfix-loop-alloc : goal.invariant-tails::postfix-loop-alloc
invariant-tails::postfix-loop-alloc l =
    Left (λ m. turns sorts false tail_sorts always with_tail (read_by l.most OneTail) m (operand_view l.operand) l.rest ≡ read_by l.most Postfix l.fn.tokens) (length l.rest ≤ l.most) l.rest

abbrev pub decreases-tails::arguments-loop-alloc : goal.decreases-tails::arguments-loop-alloc
decreases-tails::arguments-loop-alloc l = length l.rest

abbrev pub invariant-tails::arguments-loop-alloc : goal.invariant-tails::arguments-loop-alloc
invariant-tails::arguments-loop-alloc l =
    Left (λ m. turns sorts false (sign_sort signs.Comma ∷ []) always add_expression (read_by l.most (behind (sign signs.Comma) Expr)) m (exprs_view l.list.items) l.rest ≡ read_by l.most Listed l.tokens) (length l.rest < l.most) l.rest

abbrev pub decreases-collections::elements-loop-alloc : goal.decreases-collections::elements-loop-alloc
decreases-collections::elements-loop-alloc l = length l.rest

abbrev pub invariant-collections::elements-loop-alloc : goal.invariant-collections::elements-loop-alloc
invariant-collections::elements-loop-alloc l =
    Left (λ m. turns sorts false (sign_sort signs.Comma ∷ []) may_follow add_slot (read_by l.most CommaSlot) m (slots_view l.slots) l.rest ≡ read_by l.most Elements l.fn.tokens) (length l.rest < l.most) l.rest

abbrev pub decreases-collections::pairs-loop-alloc : goal.decreases-collections::pairs-loop-alloc
decreases-collections::pairs-loop-alloc l = length l.rest

abbrev pub invariant-collections::pairs-loop-alloc : goal.invariant-collections::pairs-loop-alloc
invariant-collections::pairs-loop-alloc l =
    Left (λ m. turns sorts false bsep always (add_turn add_pair) (read_by l.most (behind (one bsep (λ t. t.place)) MaybePair)) m (entries_view l.entries.items) l.rest ≡ read_by l.most Pairs l.fn.tokens) (length l.rest < l.most) l.rest

abbrev pub decreases-functions::use_names-loop-alloc : goal.decreases-functions::use_names-loop-alloc
decreases-functions::use_names-loop-alloc l = length l.rest

abbrev pub invariant-functions::use_names-loop-alloc : goal.invariant-functions::use_names-loop-alloc
invariant-functions::use_names-loop-alloc l =
    Left (λ m. turns sorts false (sign_sort signs.Comma ∷ []) always add_captured (read_by l.most (behind (sign signs.Comma) OneUse)) m (uses_view l.uses.items) l.rest ≡ read_by l.most UseNames l.fn.tokens) (length l.rest < l.most) l.rest

abbrev pub decreases-blocks::statements-loop-alloc : goal.decreases-blocks::statements-loop-alloc
decreases-blocks::statements-loop-alloc l = length l.rest

abbrev pub invariant-blocks::statements-loop-alloc : goal.invariant-blocks::statements-loop-alloc
invariant-blocks::statements-loop-alloc l =
    Left (λ m. row_from l.most (separators l.within) (maybe_in l.within) m (stmts_view l.list.items) l.rest ≡ read_by l.most (all_in l.within) l.fn.tokens) (length l.rest < l.most) l.rest

abbrev pub decreases-choices::choices-loop-alloc : goal.decreases-choices::choices-loop-alloc
decreases-choices::choices-loop-alloc l = length l.rest

abbrev pub invariant-choices::choices-loop-alloc : goal.invariant-choices::choices-loop-alloc
invariant-choices::choices-loop-alloc l =
    Left (λ m. turns sorts true (word_sort words.Else ∷ []) may_else add_else (read_by l.most Else) m (choice_view l.choice) l.rest ≡ read_by l.most Choices l.fn.tokens) (length l.rest < l.most) l.rest

abbrev pub decreases-applies::apply_heads-loop-alloc : goal.decreases-applies::apply_heads-loop-alloc
decreases-applies::apply_heads-loop-alloc l = length l.rest

abbrev pub invariant-applies::apply_heads-loop-alloc : goal.invariant-applies::apply_heads-loop-alloc
invariant-applies::apply_heads-loop-alloc l =
    Left (λ m. turns sorts false head_sorts may_head add_head (read_by l.most AnyHead) m (heads_view l.heads) l.rest ≡ read_by l.most ApplyHeads l.fn.tokens) (length l.rest < l.most) l.rest
