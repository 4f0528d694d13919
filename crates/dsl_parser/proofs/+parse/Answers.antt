use Rattle.std.proofs.Common.{rules, ◌≡◌, ◌+◌, ◌-◌, [], ◌∷◌, true, sym, subst, arith, suc, false, ◌∙◌, nat_eq, length, ap, refl, drop, None}
use Rattle.dsl_syntax.specs.Lists.{add_expression, add_statement}
use Rattle.dsl_syntax.specs.SyntaxView.{expr_view, exprs_view, entries_view, uses_view, maybe_expr_view, stmts_view, stmt_kind_view}
use Rattle.dsl_lexer.specs.declared.sign.Sign.TheVariants as signs
use Rattle.dsl_lexer.specs.declared.word.Word.TheVariants as words
use Rattle.dsl_rules.specs.Alphabet.{at, over}
use Rattle.dsl_rules.specs.Grammar.{always, made}
use Rattle.dsl_rules.specs.Reading.{got, ◌>>=◌, one_read, turns}
use Rattle.dsl_rules.specs.Rules.{may}
use Rattle.dsl_grammar.specs.Codes.{sorts, sign_sort, word_sort, ident_sort, string_sort}
use Rattle.dsl_grammar.specs.Operators.{set_sorts, set_of}
use Rattle.dsl_grammar.specs.Grammar.{Choices, Expr, Listed, begun_expression, OneTail, tail_sorts, with_tail, CommaSlot, Slot, add_slot, may_follow, MaybePair, add_pair, OneUse, add_captured, AnyHead, add_head, may_head, Else, may_else, add_else, SetTo, Unary, Postfix, BegunPrim, Prim, ApplyHeads, Pairs, UseNames, Elements, FirstChoice, Guarded, Params, Operator, Prefixes, MaybeUse, Level, LoopHead, Valued, ApplyName, index_tail}
use Rattle.dsl_grammar.specs.Reading.{read_by}
use Rattle.dsl_grammar.specs.Terms.{behind, sign, bsep, add_turn, expr, nl, starts, text}
use Rattle.dsl_grammar.proofs.Turns.{may_at, turns_end}
use Rattle.dsl_next.proofs.Turns.{step_at, step_may, step_behind, turned, made_behind}
use Rattle.dsl_next.specs.Gives.{Gives}
use Rattle.dsl_statements.proofs.Assigning.{eval_alone, set_read}
use Rattle.dsl_parts.proofs.Climbing.{whole, begun_climb, operated_got, climb_got}
use Rattle.dsl_statements.proofs.Rows.{row_step, name_sorts, name_read, name_is, name_absent}
use Rattle.dsl_parts.specs.ExprParts.{operand_view, slots_view}
use Rattle.dsl_statements.specs.NamedView.{head_sorts, heads_view}
use Rattle.dsl_statements.specs.Parts.{choice_view}
use Rattle.dsl_statements.specs.Leads.{heading, maybe_in, separators}
use Rattle.dsl_statements.proofs.Leading.{all_begun, all_from, lead_absent, lead_got, lead_is}
use Rattle.dsl_grammar.proofs.LevelReads.{expr_end}
use Rattle.dsl_grammar.proofs.Shorter.{name_shorter, shorter, one_shorter, sign_shorter, word_shorter, ident_shorter, rest_shorter, lines_shorter}
use Rattle.dsl_parser.proofs.LoopTurns.{one_more, next_shorter, tail_shorter, else_shorter, head_shorter}
use Rattle.dsl_parser.proofs.Readings.{block_is, expr_lambda, index_read, stopped, expr_levels, set_got, may_first, turn_made, arguments_are}
use Rattle.dsl_parser.proofs.+parse.Goals as goal

-- Expressions.
pub exprs::expr-returns-then-is_empty : goal.exprs::expr-returns-then-is_empty
exprs::expr-returns-then-is_empty t c = expr_end c.args.most c.args.tokens.now (sym c.is_empty.ensures ∙ c.if-is_empty.true)

pub exprs::expr-returns-then-begins_lambda : goal.exprs::expr-returns-then-begins_lambda
exprs::expr-returns-then-begins_lambda t c =
    subst (Gives expr_view c.lambda.result) (sym (expr_lambda c.args.most c.args.tokens.now c.requires (sym c.begins_lambda.ensures ∙ c.if-begins_lambda.true))) c.lambda.ensures

pub exprs::expr-returns-in_err-operand : goal.exprs::expr-returns-in_err-operand
exprs::expr-returns-in_err-operand t c =
    subst (Gives expr_view c.from_residual.result) (sym (expr_levels c.args.most c.args.tokens.now c.requires (sym c.begins_lambda.ensures ∙ c.if-begins_lambda.false))) (search rules)

pub exprs::expr-returns : goal.exprs::expr-returns
exprs::expr-returns t c =
    expr_levels c.args.most c.args.tokens.now c.requires (sym c.begins_lambda.ensures ∙ c.if-begins_lambda.false)
    ∙ ap (λ r. r >>= λ x rest. got (begun_expression x) rest) c.in_ok-operand.ensures

-- The climb.
pub exprs::operation-returns-in_err-left : goal.exprs::operation-returns-in_err-left
exprs::operation-returns-in_err-left t c =
    subst (Gives operand_view c.from_residual.result) (sym (whole c.args.most c.args.level c.args.tokens.now)) (search rules)

pub exprs::operation-loop-next-init : goal.exprs::operation-loop-next-init
exprs::operation-loop-next-init t c = record {
  reads = begun_climb c.args.most c.args.level (operand_view c.in_ok-left.left) c.args.tokens.now c.in_ok-left.rest.now c.in_ok-left.ensures;
  bound = (let x = shorter c.args.most Unary _ c.args.tokens.now c.in_ok-left.rest.now c.in_ok-left.ensures in omega (arith, x, c.requires.bound));
}

pub exprs::operation-loop-next-preserved : goal.exprs::operation-loop-next-preserved
exprs::operation-loop-next-preserved t c =
    let left = operand_view c.loop-next.left in
    let right = operand_view c.in_ok-right.right in
    let turn = operated_got c.args.most c.in-Some.next.level left right c.in_ok-op.op c.loop-next.rest.now c.in_ok-op.middle.now c.in_ok-right.after.now c.in_ok-op.ensures c.in_ok-right.ensures ∙ ap (λ z. got z c.in_ok-right.after.now) (sym c.in_ok-longer.ensures) in
    record {
      reads = climb_got c.args.most c.args.level c.loop-next.climb c.in-Some.next left (operand_view c.in_ok-longer.longer) c.loop-next.rest.now c.in_ok-right.after.now _ c.in-Some.ensures turn c.loop-next.invariant.reads;
      bound = (let x = shorter c.args.most (Operator c.in-Some.next.level) _ c.loop-next.rest.now c.in_ok-op.middle.now c.in_ok-op.ensures in
          let y = shorter c.args.most (Level c.in-Some.next.level) _ c.in_ok-op.middle.now c.in_ok-right.after.now c.in_ok-right.ensures in
          omega (arith, x, y, c.loop-next.invariant.bound));
    }

pub tails::postfix-loop-alloc-init : goal.tails::postfix-loop-alloc-init
unfolding Postfix BegunPrim
tails::postfix-loop-alloc-init t c = record {
  reads = search rules;
  turns = c.args.most;
  fits = (let x = shorter c.args.most Prim _ c.args.tokens.now c.in_ok-expr.rest.now c.in_ok-expr.ensures in omega (arith, x, c.requires));
  bound = (let x = shorter c.args.most Prim _ c.args.tokens.now c.in_ok-expr.rest.now c.in_ok-expr.ensures in omega (arith, x, c.requires));
}

pub tails::postfix-loop-alloc-preserved : goal.tails::postfix-loop-alloc-preserved
tails::postfix-loop-alloc-preserved t c =
    let held : at sorts (tail_sorts) c.loop-alloc.rest.now ≡ true = search rules in
    record {
      reads = step_at c.args.most _ (c.loop-alloc.invariant.turns - 1) (tail_sorts) with_tail OneTail (operand_view c.loop-alloc.operand) (operand_view c.in_ok-longer.longer) c.loop-alloc.rest.now c.in_ok-longer.after.now _ (one_more c.loop-alloc.invariant.turns tail_sorts c.loop-alloc.rest.now c.loop-alloc.invariant.fits held) held c.in_ok-longer.ensures c.loop-alloc.invariant.reads;
      turns = c.loop-alloc.invariant.turns - 1;
      fits = (let x = tail_shorter c.args.most tail_sorts (with_tail (operand_view c.loop-alloc.operand)) _ c.loop-alloc.rest.now c.in_ok-longer.after.now held c.in_ok-longer.ensures in omega (arith, x, c.loop-alloc.invariant.fits));
      bound = (let x = shorter c.args.most (made (with_tail (operand_view c.loop-alloc.operand)) OneTail) _ c.loop-alloc.rest.now c.in_ok-longer.after.now c.in_ok-longer.ensures in omega (arith, x, c.loop-alloc.invariant.bound));
    }

pub tails::with_next_tail-returns-in_err-rest : goal.tails::with_next_tail-returns-in_err-rest
tails::with_next_tail-returns-in_err-rest t c =
    let away : at sorts (sign_sort signs.Dot ∷ []) c.args.tokens.now ≡ false = search rules in
    let here : at sorts (sign_sort signs.OpenBracket ∷ []) c.args.tokens.now ≡ true = search rules in
    subst (Gives operand_view _)
    (sym (index_read c.args.most (operand_view c.args.operand) (expr_view c.in_ok-index.index) _ c.args.tokens.now c.in_ok-inner-2.inner.now c.in_ok-index.after.now away here c.in_ok-inner-2.ensures c.in_ok-index.ensures))
    (stopped operand_view (λ p. p) c.from_residual-in_err-rest.result c.in_err-rest.field-0.0 (one_read sorts (sign_sort signs.CloseBracket ∷ []) (λ t. t.place) c.in_ok-index.after.now)
    (λ q rest. got (with_tail (operand_view c.args.operand) (index_tail (expr_view c.in_ok-index.index))) rest) c.from_residual-in_err-rest.ensures.1 c.in_err-rest.ensures)

-- Blocks and bodies.
pub applies::apply_heads-loop-alloc-init : goal.applies::apply_heads-loop-alloc-init
unfolding ApplyHeads
applies::apply_heads-loop-alloc-init t c = record { turns = c.args.most; reads = search rules; fits = omega (arith, c.requires); bound = c.requires }

pub applies::apply_heads-loop-alloc-preserved : goal.applies::apply_heads-loop-alloc-preserved
applies::apply_heads-loop-alloc-preserved t c =
    let held : may sorts head_sorts (may_head (heads_view c.loop-alloc.heads)) c.loop-alloc.rest.now ≡ true = search rules in
    let first = may_first head_sorts (may_head (heads_view c.loop-alloc.heads)) c.loop-alloc.rest.now held in
    let counts = one_more c.loop-alloc.invariant.turns head_sorts c.loop-alloc.rest.now c.loop-alloc.invariant.fits first in
    record {
      reads = sym (turned _ _ false head_sorts may_head add_head (read_by c.args.most AnyHead) (heads_view c.loop-alloc.heads) (heads_view c.in_ok-more.more) c.loop-alloc.rest.now c.in_ok-more.after.now counts held c.in_ok-more.ensures)
          ∙ c.loop-alloc.invariant.reads;
      turns = c.loop-alloc.invariant.turns - 1;
      fits = (let x = head_shorter c.args.most head_sorts (add_head (heads_view c.loop-alloc.heads)) _ c.loop-alloc.rest.now c.in_ok-more.after.now first c.in_ok-more.ensures in omega (arith, x, c.loop-alloc.invariant.fits));
      bound = (let x = shorter c.args.most (made (add_head (heads_view c.loop-alloc.heads)) AnyHead) _ c.loop-alloc.rest.now c.in_ok-more.after.now c.in_ok-more.ensures in omega (arith, x, c.loop-alloc.invariant.bound));
    }

pub applies::apply_name-returns-then-not-at_apply_name : goal.applies::apply_name-returns-then-not-at_apply_name
applies::apply_name-returns-then-not-at_apply_name t c =
    let held : at sorts name_sorts c.args.tokens.now ≡ false = search rules in
    name_absent c.args.most c.args.tokens.now held

pub applies::apply_name-returns-in_err-name : goal.applies::apply_name-returns-in_err-name
applies::apply_name-returns-in_err-name t c =
    let held : at sorts name_sorts c.args.tokens.now ≡ true = search rules in
    subst (Gives maybe_expr_view c.from_residual.result) (sym (name_is c.args.most c.args.tokens.now held)) (search rules)

pub applies::apply_name-returns : goal.applies::apply_name-returns
applies::apply_name-returns t c =
    let held : at sorts name_sorts c.args.tokens.now ≡ true = search rules in
    name_read c.args.most (expr_view c.in_ok-name.name) c.args.tokens.now c.in_ok-name.rest.now held c.in_ok-name.ensures

pub collections::pairs-loop-alloc-init : goal.collections::pairs-loop-alloc-init
unfolding Pairs
collections::pairs-loop-alloc-init t c = record {
  reads = search rules;
  turns = c.args.most;
  fits = (let x = shorter c.args.most (made (add_turn add_pair (entries_view c.new.result.items)) MaybePair) _ c.args.tokens.now c.in_ok-entries.rest.now c.in_ok-entries.ensures in omega (arith, x, c.requires));
  bound = (let x = shorter c.args.most (made (add_turn add_pair (entries_view c.new.result.items)) MaybePair) _ c.args.tokens.now c.in_ok-entries.rest.now c.in_ok-entries.ensures in omega (arith, x, c.requires));
}

pub collections::pairs-loop-alloc-preserved : goal.collections::pairs-loop-alloc-preserved
collections::pairs-loop-alloc-preserved t c =
    let held : at sorts (bsep) c.loop-alloc.rest.now ≡ true = search rules in
    let read = (let q = c.in_ok-longer.ensures in rw c.after_first.ensures at q) in
    record {
      reads = step_behind c.args.most _ (c.loop-alloc.invariant.turns - 1) (bsep) (add_turn add_pair) MaybePair (entries_view c.loop-alloc.entries.items) (entries_view c.in_ok-longer.longer.items) c.loop-alloc.rest.now c.in_ok-longer.after.now _ (one_more c.loop-alloc.invariant.turns bsep c.loop-alloc.rest.now c.loop-alloc.invariant.fits held) held read c.loop-alloc.invariant.reads;
      turns = c.loop-alloc.invariant.turns - 1;
      fits = (let x = shorter c.args.most (made (add_turn add_pair (entries_view c.loop-alloc.entries.items)) MaybePair) _ c.after_first.result.now c.in_ok-longer.after.now c.in_ok-longer.ensures in let y = next_shorter bsep c.loop-alloc.rest.now c.after_first.result.now c.after_first.ensures held in omega (arith, x, y, c.loop-alloc.invariant.fits));
      bound = (let x = shorter c.args.most (made (add_turn add_pair (entries_view c.loop-alloc.entries.items)) MaybePair) _ c.after_first.result.now c.in_ok-longer.after.now c.in_ok-longer.ensures in let y = rest_shorter c.loop-alloc.rest.now c.after_first.result.now c.after_first.ensures in omega (arith, x, y, c.loop-alloc.invariant.bound));
    }

pub functions::use_names-loop-alloc-init : goal.functions::use_names-loop-alloc-init
unfolding UseNames
functions::use_names-loop-alloc-init t c = record {
  reads = search rules;
  turns = c.args.most;
  fits = (let x = shorter c.args.most (made (add_captured (uses_view c.new.result.items)) OneUse) _ c.args.tokens.now c.in_ok-uses.rest.now c.in_ok-uses.ensures in omega (arith, x, c.requires));
  bound = (let x = shorter c.args.most (made (add_captured (uses_view c.new.result.items)) OneUse) _ c.args.tokens.now c.in_ok-uses.rest.now c.in_ok-uses.ensures in omega (arith, x, c.requires));
}

pub functions::use_names-loop-alloc-preserved : goal.functions::use_names-loop-alloc-preserved
functions::use_names-loop-alloc-preserved t c =
    let held : at sorts (sign_sort signs.Comma ∷ []) c.loop-alloc.rest.now ≡ true = search rules in
    let read = (let q = c.in_ok-longer.ensures in rw c.after_first.ensures at q) in
    record {
      reads = step_behind c.args.most _ (c.loop-alloc.invariant.turns - 1) (sign_sort signs.Comma ∷ []) add_captured OneUse (uses_view c.loop-alloc.uses.items) (uses_view c.in_ok-longer.longer.items) c.loop-alloc.rest.now c.in_ok-longer.after.now _ (one_more c.loop-alloc.invariant.turns (sign_sort signs.Comma ∷ []) c.loop-alloc.rest.now c.loop-alloc.invariant.fits held) held read c.loop-alloc.invariant.reads;
      turns = c.loop-alloc.invariant.turns - 1;
      fits = (let x = shorter c.args.most (made (add_captured (uses_view c.loop-alloc.uses.items)) OneUse) _ c.after_first.result.now c.in_ok-longer.after.now c.in_ok-longer.ensures in let y = next_shorter (sign_sort signs.Comma ∷ []) c.loop-alloc.rest.now c.after_first.result.now c.after_first.ensures held in omega (arith, x, y, c.loop-alloc.invariant.fits));
      bound = (let x = shorter c.args.most (made (add_captured (uses_view c.loop-alloc.uses.items)) OneUse) _ c.after_first.result.now c.in_ok-longer.after.now c.in_ok-longer.ensures in let y = rest_shorter c.loop-alloc.rest.now c.after_first.result.now c.after_first.ensures in omega (arith, x, y, c.loop-alloc.invariant.bound));
    }

pub collections::elements-loop-alloc-init : goal.collections::elements-loop-alloc-init
unfolding Elements
collections::elements-loop-alloc-init t c = record {
  reads = search rules;
  turns = c.args.most;
  fits = (let x = shorter c.args.most Slot _ c.args.tokens.now c.in_ok-begin.rest.now c.in_ok-begin.ensures in omega (arith, x, c.requires));
  bound = (let x = shorter c.args.most Slot _ c.args.tokens.now c.in_ok-begin.rest.now c.in_ok-begin.ensures in omega (arith, x, c.requires));
}

pub collections::elements-loop-alloc-preserved : goal.collections::elements-loop-alloc-preserved
unfolding CommaSlot
collections::elements-loop-alloc-preserved t c =
    let held : may sorts (sign_sort signs.Comma ∷ []) (may_follow (slots_view c.loop-alloc.slots)) c.loop-alloc.rest.now ≡ true = search rules in
    let next = (let q = c.in_ok-next.ensures in rw c.after_first.ensures at q) in
    let read : read_by c.args.most (made (add_slot (slots_view c.loop-alloc.slots)) Slot) (drop 1 c.loop-alloc.rest.now) ≡ got (add_slot (slots_view c.loop-alloc.slots) (maybe_expr_view c.in_ok-next.next)) c.in_ok-next.after.now = rw next refl in
    let q = made_behind c.args.most (sign_sort signs.Comma ∷ []) (add_slot (slots_view c.loop-alloc.slots)) Slot c.loop-alloc.rest.now (may_first (sign_sort signs.Comma ∷ []) (may_follow (slots_view c.loop-alloc.slots)) c.loop-alloc.rest.now held) ∙ read ∙ ap (λ z. got z c.in_ok-next.after.now) (sym c.in_ok-longer.ensures) in
    record {
      reads = step_may c.args.most _ (c.loop-alloc.invariant.turns - 1) (sign_sort signs.Comma ∷ []) may_follow add_slot CommaSlot (slots_view c.loop-alloc.slots) (slots_view c.in_ok-longer.longer) c.loop-alloc.rest.now c.in_ok-next.after.now _ (one_more c.loop-alloc.invariant.turns (sign_sort signs.Comma ∷ []) c.loop-alloc.rest.now c.loop-alloc.invariant.fits (may_first (sign_sort signs.Comma ∷ []) (may_follow (slots_view c.loop-alloc.slots)) c.loop-alloc.rest.now held)) held q c.loop-alloc.invariant.reads;
      turns = c.loop-alloc.invariant.turns - 1;
      fits = (let x = shorter c.args.most Slot _ c.after_first.result.now c.in_ok-next.after.now c.in_ok-next.ensures in let y = next_shorter (sign_sort signs.Comma ∷ []) c.loop-alloc.rest.now c.after_first.result.now c.after_first.ensures (may_first (sign_sort signs.Comma ∷ []) (may_follow (slots_view c.loop-alloc.slots)) c.loop-alloc.rest.now held) in omega (arith, x, y, c.loop-alloc.invariant.fits));
      bound = (let x = shorter c.args.most Slot _ c.after_first.result.now c.in_ok-next.after.now c.in_ok-next.ensures in let y = rest_shorter c.loop-alloc.rest.now c.after_first.result.now c.after_first.ensures in omega (arith, x, y, c.loop-alloc.invariant.bound));
    }

pub choices::choices-loop-alloc-init : goal.choices::choices-loop-alloc-init
unfolding Choices FirstChoice
choices::choices-loop-alloc-init t c = record {
  reads = search rules;
  turns = c.args.most;
  fits = (let x = shorter c.args.most Guarded _ c.in_ok-begin.begin.now c.in_ok-arm.rest.now c.in_ok-arm.ensures in
      let y = one_shorter (word_sort words.If ∷ []) (λ t. t.place) _ c.args.tokens.now c.in_ok-begin.begin.now c.in_ok-begin.ensures in
      omega (arith, x, y, c.requires));
  bound = (let x = shorter c.args.most Guarded _ c.in_ok-begin.begin.now c.in_ok-arm.rest.now c.in_ok-arm.ensures in
      let y = one_shorter (word_sort words.If ∷ []) (λ t. t.place) _ c.args.tokens.now c.in_ok-begin.begin.now c.in_ok-begin.ensures in
      omega (arith, x, y, c.requires));
}

pub choices::choices-loop-alloc-preserved : goal.choices::choices-loop-alloc-preserved
choices::choices-loop-alloc-preserved t c =
    let before = choice_view c.loop-alloc.choice in
    let next = choice_view c.in_ok-next.next in
    let held : may sorts (word_sort words.Else ∷ []) (may_else before) (over sorts true c.loop-alloc.rest.now) ≡ true = ap (may sorts (word_sort words.Else ∷ []) (may_else before)) (sym c.skip_lines.ensures) ∙ sym c.goes_on.ensures ∙ c.loop-alloc-test.true in
    let first = may_first (word_sort words.Else ∷ []) (may_else before) (over sorts true c.loop-alloc.rest.now) held in
    let fewer = lines_shorter c.loop-alloc.rest.now (over sorts true c.loop-alloc.rest.now) refl in
    let counts = one_more c.loop-alloc.invariant.turns (word_sort words.Else ∷ []) (over sorts true c.loop-alloc.rest.now) (omega (arith, fewer, c.loop-alloc.invariant.fits)) first in
    let here : (read_by c.args.most Else c.skip_lines-behind.result.now >>= λ x rest. got (add_else before x) rest) ≡ got next c.in_ok-next.after.now = c.in_ok-next.ensures in
    let turn = subst (λ z. (read_by c.args.most Else z >>= λ x rest. got (add_else before x) rest) ≡ got next c.in_ok-next.after.now) c.skip_lines-behind.ensures here in
    record {
      reads = sym
          (turned c.loop-alloc.invariant.turns (c.loop-alloc.invariant.turns - 1) true (word_sort words.Else ∷ []) may_else add_else (read_by c.args.most Else) before next c.loop-alloc.rest.now c.in_ok-next.after.now counts held turn) ∙
          c.loop-alloc.invariant.reads;
      turns = c.loop-alloc.invariant.turns - 1;
      fits = (let x = else_shorter c.args.most (word_sort words.Else ∷ []) (add_else before) _ (over sorts true c.loop-alloc.rest.now) c.in_ok-next.after.now first turn in omega (arith, x, fewer, c.loop-alloc.invariant.fits));
      bound = (let x = shorter c.args.most (made (add_else before) Else) _ c.skip_lines-behind.result.now c.in_ok-next.after.now c.in_ok-next.ensures in let y = lines_shorter c.loop-alloc.rest.now c.skip_lines-behind.result.now c.skip_lines-behind.ensures in omega (arith, x, y, c.loop-alloc.invariant.bound));
    }

-- Assignments.
pub assignments::set_or_eval-returns-then-not-sets : goal.assignments::set_or_eval-returns-then-not-sets
assignments::set_or_eval-returns-then-not-sets t c =
    let some : nat_eq (length c.args.tokens.now) 0 ≡ false = sym c.is_empty.ensures ∙ c.if-is_empty.false in
    eval_alone c.args.most c.args.tokens.now c.in_ok-left.middle.now (expr_view c.in_ok-left.left) some c.in_ok-left.ensures (sym c.sets.ensures ∙ c.if-not-sets.true)

pub assignments::set_or_eval-returns-in_err-op : goal.assignments::set_or_eval-returns-in_err-op
unfolding SetTo
assignments::set_or_eval-returns-in_err-op t c =
    let some : nat_eq (length c.args.tokens.now) 0 ≡ false = sym c.is_empty.ensures ∙ c.if-is_empty.false in
    subst (Gives stmt_kind_view c.from_residual-in_err-op.result) (sym (set_read c.args.most c.args.tokens.now c.in_ok-left.middle.now (expr_view c.in_ok-left.left) (omega arith) some c.in_ok-left.ensures (sym c.sets.ensures ∙ c.if-not-sets.false))) (search rules)

pub assignments::set_or_eval-returns-in_err-expr : goal.assignments::set_or_eval-returns-in_err-expr
unfolding SetTo
assignments::set_or_eval-returns-in_err-expr t c =
    let some : nat_eq (length c.args.tokens.now) 0 ≡ false = sym c.is_empty.ensures ∙ c.if-is_empty.false in
    subst (Gives stmt_kind_view c.from_residual-in_err-expr.result) (sym (set_read c.args.most c.args.tokens.now c.in_ok-left.middle.now (expr_view c.in_ok-left.left) (omega arith) some c.in_ok-left.ensures (sym c.sets.ensures ∙ c.if-not-sets.false))) (search rules)

pub assignments::set_or_eval-returns : goal.assignments::set_or_eval-returns
assignments::set_or_eval-returns t c =
    let some : nat_eq (length c.args.tokens.now) 0 ≡ false = sym c.is_empty.ensures ∙ c.if-is_empty.false in
    set_read c.args.most c.args.tokens.now c.in_ok-left.middle.now (expr_view c.in_ok-left.left) (omega arith) some c.in_ok-left.ensures (sym c.sets.ensures ∙ c.if-not-sets.false)
    ∙ set_got c.args.most (expr_view c.in_ok-left.left) _ _ c.in_ok-left.middle.now _ _ _ c.in_ok-op.ensures c.newlines.ensures c.in_ok-expr.ensures
    ∙ ap (λ k. got k c.in_ok-expr.rest.now) (sym c.in_ok-set_left.ensures)

pub choices::choices-returns-in_err-next : goal.choices::choices-returns-in_err-next
choices::choices-returns-in_err-next t c =
    let before = choice_view c.loop-alloc.choice in
    let held : may sorts (word_sort words.Else ∷ []) (may_else before) (over sorts true c.loop-alloc.rest.now) ≡ true = ap (may sorts (word_sort words.Else ∷ []) (may_else before)) (sym c.skip_lines.ensures) ∙ sym c.goes_on.ensures ∙ c.loop-alloc-test.true in
    let first = may_first (word_sort words.Else ∷ []) (may_else before) (over sorts true c.loop-alloc.rest.now) held in
    let fewer = lines_shorter c.loop-alloc.rest.now (over sorts true c.loop-alloc.rest.now) refl in
    let counts = one_more c.loop-alloc.invariant.turns (word_sort words.Else ∷ []) (over sorts true c.loop-alloc.rest.now) (omega (arith, fewer, c.loop-alloc.invariant.fits)) first in
    let all = sym (turn_made c.loop-alloc.invariant.turns (c.loop-alloc.invariant.turns - 1) true (word_sort words.Else ∷ []) may_else add_else (read_by c.args.most Else) before c.loop-alloc.rest.now counts held) ∙ c.loop-alloc.invariant.reads in
    let there = subst (λ z. ((read_by c.args.most Else z >>= λ x rest. got (add_else before x) rest) >>= turns sorts true (word_sort words.Else ∷ []) may_else add_else (read_by c.args.most Else) (c.loop-alloc.invariant.turns - 1)) ≡ read_by c.args.most Choices c.args.tokens.now) (sym c.skip_lines-behind.ensures) all in
    subst (Gives choice_view c.from_residual-in_err-next.result) there (search rules)

-- The arguments of a call.
pub tails::arguments-returns-in_err-next : goal.tails::arguments-returns-in_err-next
tails::arguments-returns-in_err-next t c =
    let before = exprs_view c.loop-alloc.list.items in
    let held : at sorts (sign_sort signs.Comma ∷ []) c.loop-alloc.rest.now ≡ true = search rules in
    let counts = one_more c.loop-alloc.invariant.turns (sign_sort signs.Comma ∷ []) c.loop-alloc.rest.now c.loop-alloc.invariant.fits held in
    let some : at sorts (starts expr) c.args.tokens.now ≡ true = sym c.at_expr.ensures ∙ c.if-not-at_expr.false in
    let all = sym (turn_made c.loop-alloc.invariant.turns (c.loop-alloc.invariant.turns - 1) false (sign_sort signs.Comma ∷ []) always add_expression (read_by c.args.most (behind (sign signs.Comma) Expr)) before c.loop-alloc.rest.now counts (may_at (sign_sort signs.Comma ∷ []) c.loop-alloc.rest.now ∙ held)) ∙ c.loop-alloc.invariant.reads in
    let next = subst (λ r. (r >>= turns sorts false (sign_sort signs.Comma ∷ []) always add_expression (read_by c.args.most (behind (sign signs.Comma) Expr)) (c.loop-alloc.invariant.turns - 1)) ≡ read_by c.args.most Listed c.args.tokens.now) (made_behind c.args.most (sign_sort signs.Comma ∷ []) (add_expression before) Expr c.loop-alloc.rest.now held) all in
    let there = subst (λ z. (read_by c.args.most (made (add_expression before) Expr) z >>= turns sorts false (sign_sort signs.Comma ∷ []) always add_expression (read_by c.args.most (behind (sign signs.Comma) Expr)) (c.loop-alloc.invariant.turns - 1)) ≡ read_by c.args.most Listed c.args.tokens.now) (sym c.after_first.ensures) next in
    subst (Gives (λ es. exprs_view es.items) c.from_residual-in_err-next.result) (there ∙ sym (arguments_are c.args.most c.args.tokens.now some)) (search rules)

pub tails::arguments-returns : goal.tails::arguments-returns
tails::arguments-returns t c =
    let some : at sorts (starts expr) c.args.tokens.now ≡ true = sym c.at_expr.ensures ∙ c.if-not-at_expr.false in
    let commas = sign_sort signs.Comma ∷ [] in
    let before = exprs_view c.loop-alloc.list.items in
    let ends : turns sorts false commas always add_expression (read_by c.args.most (behind (sign signs.Comma) Expr)) c.loop-alloc.invariant.turns before c.loop-alloc.rest.now ≡ got before c.loop-alloc.rest.now =
    turns_end c.loop-alloc.invariant.turns false commas always add_expression (read_by c.args.most (behind (sign signs.Comma) Expr)) before c.loop-alloc.rest.now (may_at commas c.loop-alloc.rest.now ∙ (sym c.at_sign.ensures ∙ c.loop-alloc-test.false))
    in
    let listed = sym c.loop-alloc.invariant.reads ∙ ends in
    arguments_are c.args.most c.args.tokens.now some ∙ listed

pub tails::arguments-loop-alloc-init : goal.tails::arguments-loop-alloc-init
unfolding Listed
tails::arguments-loop-alloc-init t c = record {
  reads = search rules;
  turns = c.args.most;
  fits = (let x = name_shorter (c.args.most - 1) expr _ c.args.tokens.now c.in_ok-first.rest.now c.in_ok-first.ensures in omega (arith, x, c.requires));
  bound = (let x = name_shorter (c.args.most - 1) expr _ c.args.tokens.now c.in_ok-first.rest.now c.in_ok-first.ensures in omega (arith, x, c.requires));
}

pub tails::arguments-loop-alloc-preserved : goal.tails::arguments-loop-alloc-preserved
tails::arguments-loop-alloc-preserved t c =
    let held : at sorts (sign_sort signs.Comma ∷ []) c.loop-alloc.rest.now ≡ true = search rules in
    let next = (let q = c.in_ok-next.ensures in rw c.after_first.ensures at q) in
    let read : read_by c.args.most (made (add_expression (exprs_view c.loop-alloc.list.items)) Expr) (drop 1 c.loop-alloc.rest.now) ≡ got (exprs_view c.in_ok-longer.longer.items) c.in_ok-next.after.now = rw (next, c.in_ok-longer.ensures) refl in
    record {
      reads = step_behind c.args.most _ (c.loop-alloc.invariant.turns - 1) (sign_sort signs.Comma ∷ []) add_expression Expr (exprs_view c.loop-alloc.list.items) (exprs_view c.in_ok-longer.longer.items) c.loop-alloc.rest.now c.in_ok-next.after.now _ (one_more c.loop-alloc.invariant.turns (sign_sort signs.Comma ∷ []) c.loop-alloc.rest.now c.loop-alloc.invariant.fits held) held read c.loop-alloc.invariant.reads;
      turns = c.loop-alloc.invariant.turns - 1;
      fits = (let x = name_shorter (c.args.most - 1) expr _ c.after_first.result.now c.in_ok-next.after.now c.in_ok-next.ensures in let y = next_shorter (sign_sort signs.Comma ∷ []) c.loop-alloc.rest.now c.after_first.result.now c.after_first.ensures held in omega (arith, x, y, c.loop-alloc.invariant.fits));
      bound = (let x = name_shorter (c.args.most - 1) expr _ c.after_first.result.now c.in_ok-next.after.now c.in_ok-next.ensures in let y = rest_shorter c.loop-alloc.rest.now c.after_first.result.now c.after_first.ensures in omega (arith, x, y, c.loop-alloc.invariant.bound));
    }

-- Blocks and bodies.
pub blocks::block-returns : goal.blocks::block-returns
blocks::block-returns t c = subst (Gives (λ b. stmts_view b.items) c.braced.result) (sym (block_is c.args.most c.args.tokens.now c.requires)) c.braced.ensures

pub blocks::statements-loop-alloc-init : goal.blocks::statements-loop-alloc-init
blocks::statements-loop-alloc-init t c =
    let read = (let q = c.in_ok-list.ensures in rw c.new.ensures.items at q) in
    record {
      reads = all_begun c.args.most c.args.within (stmts_view c.in_ok-list.list.items) c.args.tokens.now c.in_ok-list.rest.now read;
      turns = c.args.most - 0;
      fits = (let x = shorter c.args.most (made (add_turn add_statement (stmts_view c.new.result.items)) (maybe_in c.args.within)) _ c.args.tokens.now c.in_ok-list.rest.now c.in_ok-list.ensures in omega (arith, x, c.requires));
      bound = (let x = shorter c.args.most (made (add_turn add_statement (stmts_view c.new.result.items)) (maybe_in c.args.within)) _ c.args.tokens.now c.in_ok-list.rest.now c.in_ok-list.ensures in omega (arith, x, c.requires));
    }

pub blocks::statements-loop-alloc-preserved : goal.blocks::statements-loop-alloc-preserved
blocks::statements-loop-alloc-preserved t c =
    let held : at sorts (separators c.args.within) c.loop-alloc.rest.now ≡ true = search rules in
    let counts = one_more c.loop-alloc.invariant.turns (separators c.args.within) c.loop-alloc.rest.now c.loop-alloc.invariant.fits held in
    record {
      reads = sym (row_step c.args.most _ _ (separators c.args.within) (maybe_in c.args.within) (stmts_view c.loop-alloc.list.items) (stmts_view c.in_ok-more.more.items) c.loop-alloc.rest.now c.in_ok-more.after.now counts held (let q = c.in_ok-more.ensures in rw c.after_first.ensures at q))
          ∙ c.loop-alloc.invariant.reads;
      turns = c.loop-alloc.invariant.turns - 1;
      fits = (let x = shorter c.args.most (made (add_turn add_statement (stmts_view c.loop-alloc.list.items)) (maybe_in c.args.within)) _ c.after_first.result.now c.in_ok-more.after.now c.in_ok-more.ensures in let y = next_shorter (separators c.args.within) c.loop-alloc.rest.now c.after_first.result.now c.after_first.ensures held in omega (arith, x, y, c.loop-alloc.invariant.fits));
      bound = (let x = shorter c.args.most (made (add_turn add_statement (stmts_view c.loop-alloc.list.items)) (maybe_in c.args.within)) _ c.after_first.result.now c.in_ok-more.after.now c.in_ok-more.ensures in let y = rest_shorter c.loop-alloc.rest.now c.after_first.result.now c.after_first.ensures in omega (arith, x, y, c.loop-alloc.invariant.bound));
    }

pub blocks::statements-returns-in_err-list : goal.blocks::statements-returns-in_err-list
blocks::statements-returns-in_err-list t c =
    subst (Gives (λ b. stmts_view b.items) c.from_residual.result) (sym (all_from c.args.most c.args.within (stmts_view c.new.result.items) c.args.tokens.now (ap stmts_view c.new.ensures.items))) (search rules)

pub blocks::with_statement-returns-in_default : goal.blocks::with_statement-returns-in_default
blocks::with_statement-returns-in_default t c =
    let none : c.next_lead.result ≡ None = search rules in
    lead_absent c.args.most c.args.within (stmts_view c.args.list.items) c.args.tokens.now c.next_lead.result none c.next_lead.ensures.reads

pub blocks::with_statement-returns-in_err-kind : goal.blocks::with_statement-returns-in_err-kind
blocks::with_statement-returns-in_err-kind t c =
    subst (Gives (λ b. stmts_view b.items) c.from_residual.result) (sym (lead_is c.args.most c.args.within (stmts_view c.args.list.items) c.args.tokens.now c.next_lead.result _ c.in-Some.is c.next_lead.ensures.reads)) (search rules)

pub blocks::with_statement-returns : goal.blocks::with_statement-returns
blocks::with_statement-returns t c =
    lead_got c.args.most c.args.within (stmts_view c.args.list.items) _ c.args.tokens.now _ c.next_lead.result _ _ c.in-Some.is c.next_lead.ensures.reads c.in_ok-kind.ensures c.in_ok-added.ensures

-- Each turn of a loop leaves fewer tokens.

pub tails::postfix-loop-alloc-smaller : goal.tails::postfix-loop-alloc-smaller
tails::postfix-loop-alloc-smaller t c =
    let held : at sorts (tail_sorts) c.loop-alloc.rest.now ≡ true = search rules in
    (let x = tail_shorter c.args.most tail_sorts (with_tail (operand_view c.loop-alloc.operand)) _ c.loop-alloc.rest.now c.in_ok-longer.after.now held c.in_ok-longer.ensures in omega (arith, x))

pub applies::apply_heads-loop-alloc-smaller : goal.applies::apply_heads-loop-alloc-smaller
applies::apply_heads-loop-alloc-smaller t c =
    let held : may sorts head_sorts (may_head (heads_view c.loop-alloc.heads)) c.loop-alloc.rest.now ≡ true = search rules in
    let first = may_first head_sorts (may_head (heads_view c.loop-alloc.heads)) c.loop-alloc.rest.now held in
    (let x = head_shorter c.args.most head_sorts (add_head (heads_view c.loop-alloc.heads)) _ c.loop-alloc.rest.now c.in_ok-more.after.now first c.in_ok-more.ensures in omega (arith, x))

pub tails::arguments-loop-alloc-smaller : goal.tails::arguments-loop-alloc-smaller
tails::arguments-loop-alloc-smaller t c =
    let held : at sorts (sign_sort signs.Comma ∷ []) c.loop-alloc.rest.now ≡ true = search rules in
    (let x = name_shorter (c.args.most - 1) expr _ c.after_first.result.now c.in_ok-next.after.now c.in_ok-next.ensures in let y = next_shorter (sign_sort signs.Comma ∷ []) c.loop-alloc.rest.now c.after_first.result.now c.after_first.ensures held in omega (arith, x, y))

pub collections::pairs-loop-alloc-smaller : goal.collections::pairs-loop-alloc-smaller
collections::pairs-loop-alloc-smaller t c =
    let held : at sorts (bsep) c.loop-alloc.rest.now ≡ true = search rules in
    (let x = shorter c.args.most (made (add_turn add_pair (entries_view c.loop-alloc.entries.items)) MaybePair) _ c.after_first.result.now c.in_ok-longer.after.now c.in_ok-longer.ensures in let y = next_shorter bsep c.loop-alloc.rest.now c.after_first.result.now c.after_first.ensures held in omega (arith, x, y))

pub functions::use_names-loop-alloc-smaller : goal.functions::use_names-loop-alloc-smaller
functions::use_names-loop-alloc-smaller t c =
    let held : at sorts (sign_sort signs.Comma ∷ []) c.loop-alloc.rest.now ≡ true = search rules in
    (let x = shorter c.args.most (made (add_captured (uses_view c.loop-alloc.uses.items)) OneUse) _ c.after_first.result.now c.in_ok-longer.after.now c.in_ok-longer.ensures in let y = next_shorter (sign_sort signs.Comma ∷ []) c.loop-alloc.rest.now c.after_first.result.now c.after_first.ensures held in omega (arith, x, y))

pub blocks::statements-loop-alloc-smaller : goal.blocks::statements-loop-alloc-smaller
blocks::statements-loop-alloc-smaller t c =
    let held : at sorts (separators c.args.within) c.loop-alloc.rest.now ≡ true = search rules in
    (let x = shorter c.args.most (made (add_turn add_statement (stmts_view c.loop-alloc.list.items)) (maybe_in c.args.within)) _ c.after_first.result.now c.in_ok-more.after.now c.in_ok-more.ensures in let y = next_shorter (separators c.args.within) c.loop-alloc.rest.now c.after_first.result.now c.after_first.ensures held in omega (arith, x, y))

pub collections::elements-loop-alloc-smaller : goal.collections::elements-loop-alloc-smaller
collections::elements-loop-alloc-smaller t c =
    let held : may sorts (sign_sort signs.Comma ∷ []) (may_follow (slots_view c.loop-alloc.slots)) c.loop-alloc.rest.now ≡ true = search rules in
    (let x = shorter c.args.most Slot _ c.after_first.result.now c.in_ok-next.after.now c.in_ok-next.ensures in let y = next_shorter (sign_sort signs.Comma ∷ []) c.loop-alloc.rest.now c.after_first.result.now c.after_first.ensures (may_first (sign_sort signs.Comma ∷ []) (may_follow (slots_view c.loop-alloc.slots)) c.loop-alloc.rest.now held) in omega (arith, x, y))

pub choices::choices-loop-alloc-smaller : goal.choices::choices-loop-alloc-smaller
choices::choices-loop-alloc-smaller t c =
    let before = choice_view c.loop-alloc.choice in
    let next = choice_view c.in_ok-next.next in
    let held : may sorts (word_sort words.Else ∷ []) (may_else before) (over sorts true c.loop-alloc.rest.now) ≡ true = ap (may sorts (word_sort words.Else ∷ []) (may_else before)) (sym c.skip_lines.ensures) ∙ sym c.goes_on.ensures ∙ c.loop-alloc-test.true in
    let first = may_first (word_sort words.Else ∷ []) (may_else before) (over sorts true c.loop-alloc.rest.now) held in
    let fewer = lines_shorter c.loop-alloc.rest.now (over sorts true c.loop-alloc.rest.now) refl in
    let counts = one_more c.loop-alloc.invariant.turns (word_sort words.Else ∷ []) (over sorts true c.loop-alloc.rest.now) (omega (arith, fewer, c.loop-alloc.invariant.fits)) first in
    let here : (read_by c.args.most Else c.skip_lines-behind.result.now >>= λ x rest. got (add_else before x) rest) ≡ got next c.in_ok-next.after.now = c.in_ok-next.ensures in
    let turn = subst (λ z. (read_by c.args.most Else z >>= λ x rest. got (add_else before x) rest) ≡ got next c.in_ok-next.after.now) c.skip_lines-behind.ensures here in
    (let x = else_shorter c.args.most (word_sort words.Else ∷ []) (add_else before) _ (over sorts true c.loop-alloc.rest.now) c.in_ok-next.after.now first turn in omega (arith, x, fewer))

-- What is handed on is within the bound.

pub exprs::lambda-lambda_body-requires : goal.exprs::lambda-lambda_body-requires
exprs::lambda-lambda_body-requires t c =
    let x0 = shorter c.args.most Params _ c.args.tokens.now c.in_ok-names.middle.now c.in_ok-names.ensures in
    let x1 = sign_shorter signs.Arrow _ c.in_ok-names.middle.now c.in_ok-inner.inner.now c.in_ok-inner.ensures in
    (omega arith, omega (arith, x0, x1, c.requires))

pub exprs::operation-operation-requires : goal.exprs::operation-operation-requires
exprs::operation-operation-requires t c =
    let x0 = shorter c.args.most (Operator c.in-Some.next.level) _ c.loop-next.rest.now c.in_ok-op.middle.now c.in_ok-op.ensures in
    (omega (arith, c.in-Some.ensures.0), (c.requires.some, (omega (arith, x0, c.loop-next.invariant.bound), omega (arith, c.in-Some.ensures.0, c.requires.within))))

pub exprs::unary-postfix-requires : goal.exprs::unary-postfix-requires
exprs::unary-postfix-requires t c =
    let x0 = shorter c.args.most Prefixes _ c.args.tokens.now c.in_ok-signs.middle.now c.in_ok-signs.ensures in
    (omega arith, omega (arith, x0, c.requires))

pub tails::primary-expr-requires : goal.tails::primary-expr-requires
tails::primary-expr-requires t c =
    let x0 = sign_shorter signs.OpenParen _ c.args.tokens.now c.in_ok-inner.inner.now c.in_ok-inner.ensures in
    (omega arith, omega (arith, x0, c.requires))

pub tails::primary-func-requires : goal.tails::primary-func-requires
tails::primary-func-requires t c =
    let x0 = word_shorter words.Function _ c.args.tokens.now c.in_ok-inner-2.inner.now c.in_ok-inner-2.ensures in
    (omega arith, omega (arith, x0, c.requires))

pub tails::with_next_tail-expr-requires : goal.tails::with_next_tail-expr-requires
tails::with_next_tail-expr-requires t c =
    let x0 = sign_shorter signs.OpenBracket _ c.args.tokens.now c.in_ok-inner-2.inner.now c.in_ok-inner-2.ensures in
    (omega arith, omega (arith, x0, c.requires))

pub tails::with_next_tail-arguments-requires : goal.tails::with_next_tail-arguments-requires
tails::with_next_tail-arguments-requires t c =
    let x0 = sign_shorter signs.OpenParen _ c.args.tokens.now c.in_ok-inner-3.inner.now c.in_ok-inner-3.ensures in
    (omega arith, omega (arith, x0, c.requires))

pub tails::arguments-expr-requires-in-loop-alloc : goal.tails::arguments-expr-requires-in-loop-alloc
tails::arguments-expr-requires-in-loop-alloc t c =
    let x0 = rest_shorter c.loop-alloc.rest.now c.after_first.result.now c.after_first.ensures in
    (omega arith, omega (arith, x0, c.loop-alloc.invariant.bound))

pub collections::array-elements-requires : goal.collections::array-elements-requires
collections::array-elements-requires t c =
    let x0 = sign_shorter signs.OpenBracket _ c.args.tokens.now c.in_ok-inner.inner.now c.in_ok-inner.ensures in
    (omega arith, omega (arith, x0, c.requires))

pub collections::elements-slot-requires-in-loop-alloc : goal.collections::elements-slot-requires-in-loop-alloc
collections::elements-slot-requires-in-loop-alloc t c =
    let x0 = rest_shorter c.loop-alloc.rest.now c.after_first.result.now c.after_first.ensures in
    (omega arith, omega (arith, x0, c.loop-alloc.invariant.bound))

pub collections::dictionary-pairs-requires : goal.collections::dictionary-pairs-requires
collections::dictionary-pairs-requires t c =
    let x0 = sign_shorter signs.OpenBrace _ c.args.tokens.now c.in_ok-inner.inner.now c.in_ok-inner.ensures in
    (omega arith, omega (arith, x0, c.requires))

pub collections::pairs-with_pair-requires-in-loop-alloc : goal.collections::pairs-with_pair-requires-in-loop-alloc
collections::pairs-with_pair-requires-in-loop-alloc t c =
    let x0 = rest_shorter c.loop-alloc.rest.now c.after_first.result.now c.after_first.ensures in
    (omega arith, omega (arith, x0, c.loop-alloc.invariant.bound))

pub collections::with_pair-newlines-requires : goal.collections::with_pair-newlines-requires
collections::with_pair-newlines-requires t c =
    let x0 = one_shorter (ident_sort ∷ string_sort ∷ []) text _ c.args.tokens.now c.in_ok-name.middle.now c.in_ok-name.ensures in
    let x1 = sign_shorter signs.Set _ c.in_ok-name.middle.now c.in_ok-inner.inner.now c.in_ok-inner.ensures in
    omega (arith, x0, x1, c.requires)

pub collections::with_pair-expr-requires : goal.collections::with_pair-expr-requires
collections::with_pair-expr-requires t c =
    let x0 = one_shorter (ident_sort ∷ string_sort ∷ []) text _ c.args.tokens.now c.in_ok-name.middle.now c.in_ok-name.ensures in
    let x1 = sign_shorter signs.Set _ c.in_ok-name.middle.now c.in_ok-inner.inner.now c.in_ok-inner.ensures in
    let x2 = shorter c.args.most nl _ c.in_ok-inner.inner.now c.newlines.result.now c.newlines.ensures in
    (omega arith, omega (arith, x0, x1, x2, c.requires))

pub functions::func-captured-requires : goal.functions::func-captured-requires
functions::func-captured-requires t c =
    let x0 = shorter c.args.most Params _ c.args.tokens.now c.in_ok-names.after.now c.in_ok-names.ensures in
    (omega arith, omega (arith, x0, c.requires))

pub functions::func-block-requires : goal.functions::func-block-requires
functions::func-block-requires t c =
    let x0 = shorter c.args.most Params _ c.args.tokens.now c.in_ok-names.after.now c.in_ok-names.ensures in
    let x1 = shorter c.args.most MaybeUse _ c.in_ok-names.after.now c.in_ok-uses.middle.now c.in_ok-uses.ensures in
    (omega arith, omega (arith, x0, x1, c.requires))

pub functions::captured-use_names-requires : goal.functions::captured-use_names-requires
functions::captured-use_names-requires t c =
    let x0 = word_shorter words.Use _ c.args.tokens.now c.in_ok-begin.begin.now c.in_ok-begin.ensures in
    let x1 = sign_shorter signs.OpenParen _ c.in_ok-begin.begin.now c.in_ok-inner.inner.now c.in_ok-inner.ensures in
    (omega arith, omega (arith, x0, x1, c.requires))

pub functions::use_names-with_captured-requires-in-loop-alloc : goal.functions::use_names-with_captured-requires-in-loop-alloc
functions::use_names-with_captured-requires-in-loop-alloc t c =
    let x0 = rest_shorter c.loop-alloc.rest.now c.after_first.result.now c.after_first.ensures in
    (omega arith, omega (arith, x0, c.loop-alloc.invariant.bound))

pub functions::with_captured-expr-requires : goal.functions::with_captured-expr-requires
functions::with_captured-expr-requires t c =
    let x0 = ident_shorter _ c.args.tokens.now c.in_ok-name.middle.now c.in_ok-name.ensures in
    let x1 = sign_shorter signs.Set _ c.in_ok-name.middle.now c.in_ok-inner.inner.now c.in_ok-inner.ensures in
    (omega arith, omega (arith, x0, x1, c.requires))

pub blocks::braced-statements-requires : goal.blocks::braced-statements-requires
blocks::braced-statements-requires t c =
    let x0 = sign_shorter signs.OpenBrace _ c.args.tokens.now c.in_ok-inner.inner.now c.in_ok-inner.ensures in
    (omega arith, omega (arith, x0, c.requires))

pub blocks::statements-with_statement-requires-in-loop-alloc : goal.blocks::statements-with_statement-requires-in-loop-alloc
blocks::statements-with_statement-requires-in-loop-alloc t c =
    let x0 = rest_shorter c.loop-alloc.rest.now c.after_first.result.now c.after_first.ensures in
    (omega arith, omega (arith, x0, c.loop-alloc.invariant.bound))

pub statements::statement_kind-guarded-requires : goal.statements::statement_kind-guarded-requires
statements::statement_kind-guarded-requires t c =
    let x0 = word_shorter words.While _ c.args.tokens.now c.in_ok-begin-in-While.begin.now c.in_ok-begin-in-While.ensures in
    (omega arith, omega (arith, x0, c.requires))

pub statements::statement_kind-slot-requires : goal.statements::statement_kind-slot-requires
statements::statement_kind-slot-requires t c =
    let x0 = word_shorter words.Return _ c.args.tokens.now c.in_ok-begin-in-Return.begin.now c.in_ok-begin-in-Return.ensures in
    (omega arith, omega (arith, x0, c.requires))

pub statements::var_statement-newlines-requires : goal.statements::var_statement-newlines-requires
statements::var_statement-newlines-requires t c =
    let x0 = word_shorter words.Var _ c.args.tokens.now c.in_ok-begin.begin.now c.in_ok-begin.ensures in
    let x1 = ident_shorter _ c.in_ok-begin.begin.now c.in_ok-name.middle.now c.in_ok-name.ensures in
    let x2 = sign_shorter signs.Set _ c.in_ok-name.middle.now c.in_ok-inner.inner.now c.in_ok-inner.ensures in
    omega (arith, x0, x1, x2, c.requires)

pub statements::var_statement-expr-requires : goal.statements::var_statement-expr-requires
statements::var_statement-expr-requires t c =
    let x0 = word_shorter words.Var _ c.args.tokens.now c.in_ok-begin.begin.now c.in_ok-begin.ensures in
    let x1 = ident_shorter _ c.in_ok-begin.begin.now c.in_ok-name.middle.now c.in_ok-name.ensures in
    let x2 = sign_shorter signs.Set _ c.in_ok-name.middle.now c.in_ok-inner.inner.now c.in_ok-inner.ensures in
    let x3 = shorter c.args.most nl _ c.in_ok-inner.inner.now c.newlines.result.now c.newlines.ensures in
    (omega arith, omega (arith, x0, x1, x2, x3, c.requires))

pub statements::const_statement-newlines-requires : goal.statements::const_statement-newlines-requires
statements::const_statement-newlines-requires t c =
    let x0 = word_shorter words.Const _ c.args.tokens.now c.in_ok-begin.begin.now c.in_ok-begin.ensures in
    let x1 = ident_shorter _ c.in_ok-begin.begin.now c.in_ok-name.middle.now c.in_ok-name.ensures in
    let x2 = sign_shorter signs.Set _ c.in_ok-name.middle.now c.in_ok-inner.inner.now c.in_ok-inner.ensures in
    omega (arith, x0, x1, x2, c.requires)

pub statements::const_statement-expr-requires : goal.statements::const_statement-expr-requires
statements::const_statement-expr-requires t c =
    let x0 = word_shorter words.Const _ c.args.tokens.now c.in_ok-begin.begin.now c.in_ok-begin.ensures in
    let x1 = ident_shorter _ c.in_ok-begin.begin.now c.in_ok-name.middle.now c.in_ok-name.ensures in
    let x2 = sign_shorter signs.Set _ c.in_ok-name.middle.now c.in_ok-inner.inner.now c.in_ok-inner.ensures in
    let x3 = shorter c.args.most nl _ c.in_ok-inner.inner.now c.newlines.result.now c.newlines.ensures in
    (omega arith, omega (arith, x0, x1, x2, x3, c.requires))

pub statements::worded_statement-expr-requires : goal.statements::worded_statement-expr-requires
statements::worded_statement-expr-requires t c =
    let x0 = shorter c.args.most (heading c.args.first) _ c.args.tokens.now c.in_ok-begin.begin.now (c.in_ok-begin.ensures c.args.most) in
    (omega arith, omega (arith, x0, c.requires))

pub statements::define_statement-func-requires : goal.statements::define_statement-func-requires
statements::define_statement-func-requires t c =
    let x0 = word_shorter words.Function _ c.args.tokens.now c.in_ok-begin.begin.now c.in_ok-begin.ensures in
    let x1 = ident_shorter _ c.in_ok-begin.begin.now c.in_ok-name.middle.now c.in_ok-name.ensures in
    (omega arith, omega (arith, x0, x1, c.requires))

pub assignments::set_or_eval-newlines-requires : goal.assignments::set_or_eval-newlines-requires
assignments::set_or_eval-newlines-requires t c =
    let x0 = name_shorter (c.args.most - 1) expr _ c.args.tokens.now c.in_ok-left.middle.now c.in_ok-left.ensures in
    let x1 = one_shorter set_sorts (λ t. set_of t.kind) _ c.in_ok-left.middle.now c.in_ok-op.inner.now c.in_ok-op.ensures in
    omega (arith, x0, x1, c.requires)

pub assignments::set_or_eval-expr-requires-2 : goal.assignments::set_or_eval-expr-requires-2
assignments::set_or_eval-expr-requires-2 t c =
    let x0 = name_shorter (c.args.most - 1) expr _ c.args.tokens.now c.in_ok-left.middle.now c.in_ok-left.ensures in
    let x1 = one_shorter set_sorts (λ t. set_of t.kind) _ c.in_ok-left.middle.now c.in_ok-op.inner.now c.in_ok-op.ensures in
    let x2 = shorter c.args.most nl _ c.in_ok-op.inner.now c.newlines.result.now c.newlines.ensures in
    (omega arith, omega (arith, x0, x1, x2, c.requires))

pub choices::choices-guarded-requires : goal.choices::choices-guarded-requires
choices::choices-guarded-requires t c =
    let x0 = word_shorter words.If _ c.args.tokens.now c.in_ok-begin.begin.now c.in_ok-begin.ensures in
    (omega arith, omega (arith, x0, c.requires))

pub choices::choices-more_choice-requires : goal.choices::choices-more_choice-requires
choices::choices-more_choice-requires t c =
    let x0 = lines_shorter c.loop-alloc.rest.now c.skip_lines-behind.result.now c.skip_lines-behind.ensures in
    (omega arith, omega (arith, x0, c.loop-alloc.invariant.bound))

pub choices::more_choice-guarded-requires : goal.choices::more_choice-guarded-requires
choices::more_choice-guarded-requires t c =
    let x0 = word_shorter words.Else _ c.args.tokens.now c.in_ok-begin.begin.now c.in_ok-begin.ensures in
    let x1 = word_shorter words.If _ c.in_ok-begin.begin.now c.in_ok-begin-2.begin.now c.in_ok-begin-2.ensures in
    (omega arith, omega (arith, x0, x1, c.requires))

pub choices::more_choice-block-requires : goal.choices::more_choice-block-requires
choices::more_choice-block-requires t c =
    let x0 = word_shorter words.Else _ c.args.tokens.now c.in_ok-begin.begin.now c.in_ok-begin.ensures in
    (omega arith, omega (arith, x0, c.requires))

pub choices::guarded-expr-requires : goal.choices::guarded-expr-requires
choices::guarded-expr-requires t c =
    let x0 = sign_shorter signs.OpenParen _ c.args.tokens.now c.in_ok-inner.inner.now c.in_ok-inner.ensures in
    (omega arith, omega (arith, x0, c.requires))

pub choices::guarded-block-requires : goal.choices::guarded-block-requires
choices::guarded-block-requires t c =
    let x0 = sign_shorter signs.OpenParen _ c.args.tokens.now c.in_ok-inner.inner.now c.in_ok-inner.ensures in
    let x1 = name_shorter (c.args.most - 1) expr _ c.in_ok-inner.inner.now c.in_ok-cond.after.now c.in_ok-cond.ensures in
    let x2 = sign_shorter signs.CloseParen _ c.in_ok-cond.after.now c.in_ok-begin.begin.now c.in_ok-begin.ensures in
    (omega arith, omega (arith, x0, x1, x2, c.requires))

pub loops::for_statement-loop_head-requires : goal.loops::for_statement-loop_head-requires
loops::for_statement-loop_head-requires t c =
    let x0 = word_shorter words.For _ c.args.tokens.now c.in_ok-begin.begin.now c.in_ok-begin.ensures in
    (omega arith, omega (arith, x0, c.requires))

pub loops::for_statement-block-requires : goal.loops::for_statement-block-requires
loops::for_statement-block-requires t c =
    let x0 = word_shorter words.For _ c.args.tokens.now c.in_ok-begin.begin.now c.in_ok-begin.ensures in
    let x1 = shorter c.args.most LoopHead _ c.in_ok-begin.begin.now c.in_ok-each.middle.now c.in_ok-each.ensures in
    (omega arith, omega (arith, x0, x1, c.requires))

pub loops::loop_head-expr-requires : goal.loops::loop_head-expr-requires
loops::loop_head-expr-requires t c =
    let x0 = sign_shorter signs.OpenParen _ c.args.tokens.now c.in_ok-rest.rest.now c.in_ok-rest.ensures in
    let x1 = ident_shorter _ c.in_ok-rest.rest.now c.in_ok-key.rest.now c.in_ok-key.ensures in
    let x2 = shorter c.args.most Valued _ c.in_ok-key.rest.now c.in_ok-value.rest.now (c.in_ok-value.ensures c.args.most) in
    let x3 = word_shorter words.In _ c.in_ok-value.rest.now c.in_ok-rest-2.rest.now c.in_ok-rest-2.ensures in
    (omega arith, omega (arith, x0, x1, x2, x3, c.requires))

pub objects::named_statement-expr-requires : goal.objects::named_statement-expr-requires
objects::named_statement-expr-requires t c =
    let x0 = word_shorter c.args.first _ c.args.tokens.now c.in_ok-begin.begin.now c.in_ok-begin.ensures in
    let x1 = ident_shorter _ c.in_ok-begin.begin.now c.in_ok-kind.begin.now c.in_ok-kind.ensures in
    (omega arith, omega (arith, x0, x1, c.requires))

pub objects::named_statement-captured-requires : goal.objects::named_statement-captured-requires
objects::named_statement-captured-requires t c =
    let x0 = word_shorter c.args.first _ c.args.tokens.now c.in_ok-begin.begin.now c.in_ok-begin.ensures in
    let x1 = ident_shorter _ c.in_ok-begin.begin.now c.in_ok-kind.begin.now c.in_ok-kind.ensures in
    let x2 = name_shorter (c.args.most - 1) expr _ c.in_ok-kind.begin.now c.in_ok-name.begin.now c.in_ok-name.ensures in
    (omega arith, omega (arith, x0, x1, x2, c.requires))

pub objects::named_statement-braced-requires : goal.objects::named_statement-braced-requires
objects::named_statement-braced-requires t c =
    let x0 = word_shorter c.args.first _ c.args.tokens.now c.in_ok-begin.begin.now c.in_ok-begin.ensures in
    let x1 = ident_shorter _ c.in_ok-begin.begin.now c.in_ok-kind.begin.now c.in_ok-kind.ensures in
    let x2 = name_shorter (c.args.most - 1) expr _ c.in_ok-kind.begin.now c.in_ok-name.begin.now c.in_ok-name.ensures in
    let x3 = shorter c.args.most MaybeUse _ c.in_ok-name.begin.now c.in_ok-uses.begin.now c.in_ok-uses.ensures in
    (omega arith, omega (arith, x0, x1, x2, x3, c.requires))

pub applies::apply_statement-apply_name-requires : goal.applies::apply_statement-apply_name-requires
applies::apply_statement-apply_name-requires t c =
    let x0 = word_shorter words.Apply _ c.args.tokens.now c.in_ok-begin.begin.now c.in_ok-begin.ensures in
    let x1 = ident_shorter _ c.in_ok-begin.begin.now c.in_ok-kind.begin.now c.in_ok-kind.ensures in
    (omega arith, omega (arith, x0, x1, c.requires))

pub applies::apply_statement-apply_heads-requires : goal.applies::apply_statement-apply_heads-requires
applies::apply_statement-apply_heads-requires t c =
    let x0 = word_shorter words.Apply _ c.args.tokens.now c.in_ok-begin.begin.now c.in_ok-begin.ensures in
    let x1 = ident_shorter _ c.in_ok-begin.begin.now c.in_ok-kind.begin.now c.in_ok-kind.ensures in
    let x2 = shorter c.args.most ApplyName _ c.in_ok-kind.begin.now c.in_ok-name.begin.now c.in_ok-name.ensures in
    (omega arith, omega (arith, x0, x1, x2, c.requires))

pub applies::apply_statement-captured-requires : goal.applies::apply_statement-captured-requires
applies::apply_statement-captured-requires t c =
    let x0 = word_shorter words.Apply _ c.args.tokens.now c.in_ok-begin.begin.now c.in_ok-begin.ensures in
    let x1 = ident_shorter _ c.in_ok-begin.begin.now c.in_ok-kind.begin.now c.in_ok-kind.ensures in
    let x2 = shorter c.args.most ApplyName _ c.in_ok-kind.begin.now c.in_ok-name.begin.now c.in_ok-name.ensures in
    let x3 = shorter c.args.most ApplyHeads _ c.in_ok-name.begin.now c.in_ok-heads.begin.now c.in_ok-heads.ensures in
    (omega arith, omega (arith, x0, x1, x2, x3, c.requires))

pub applies::apply_statement-braced-requires : goal.applies::apply_statement-braced-requires
applies::apply_statement-braced-requires t c =
    let x0 = word_shorter words.Apply _ c.args.tokens.now c.in_ok-begin.begin.now c.in_ok-begin.ensures in
    let x1 = ident_shorter _ c.in_ok-begin.begin.now c.in_ok-kind.begin.now c.in_ok-kind.ensures in
    let x2 = shorter c.args.most ApplyName _ c.in_ok-kind.begin.now c.in_ok-name.begin.now c.in_ok-name.ensures in
    let x3 = shorter c.args.most ApplyHeads _ c.in_ok-name.begin.now c.in_ok-heads.begin.now c.in_ok-heads.ensures in
    let x4 = shorter c.args.most MaybeUse _ c.in_ok-heads.begin.now c.in_ok-uses.begin.now c.in_ok-uses.ensures in
    (omega arith, omega (arith, x0, x1, x2, x3, x4, c.requires))

pub applies::more_heads-loop_head-requires : goal.applies::more_heads-loop_head-requires
applies::more_heads-loop_head-requires t c =
    let x0 = word_shorter words.For _ c.args.tokens.now c.in_ok-begin-2.begin.now c.in_ok-begin-2.ensures in
    (omega arith, omega (arith, x0, c.requires))
