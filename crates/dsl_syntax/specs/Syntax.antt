-- The syntax tree as plain values: what clauses speak of in place of `File`, `Stmt` and `Expr`.
use Rattle.std.specs.Prelude.{ℕ, ℤ, List, Bool, Option}
use Rattle.site_base.specs.declared.place.Place.{Place}
use Rattle.dsl_syntax.specs.declared.set_op.SetOp.{SetOp}
use Rattle.dsl_syntax.specs.declared.un_op.UnOp.{UnOp}
use Rattle.dsl_syntax.specs.declared.bin_op.BinOp.{BinOp}

-- where the target of an assignment begins
pub data Root : Type 0 where
  at_name : List ℕ → Root
  at_this at_globals : Root

mutual
  -- an expression at its place
  pub data Expression : Type 0 where
    expression : Place → ExpressionKind → Expression

  pub data ExpressionKind : Type 0 where
    null this globals : ExpressionKind
    boolean : Bool → ExpressionKind
    number : ℤ → ExpressionKind
    string name : List ℕ → ExpressionKind
    array : Expressions → ExpressionKind
    dictionary : Entries → ExpressionKind
    member : Expression → List ℕ → ExpressionKind
    index : Expression → Expression → ExpressionKind
    call : Expression → Expressions → ExpressionKind
    unary : UnOp → Expression → ExpressionKind
    binary : BinOp → Expression → Expression → ExpressionKind
    function_value : Function → ExpressionKind

  pub data Expressions : Type 0 where
    no_expressions : Expressions
    more_expressions : Expression → Expressions → Expressions

  -- the keys and values of a dictionary, as written
  pub data Entries : Type 0 where
    no_entries : Entries
    more_entries : List ℕ → Expression → Entries → Entries

  pub data MaybeExpression : Type 0 where
    no_expression : MaybeExpression
    some_expression : Expression → MaybeExpression

  -- the head of a `for`: the key's name, the value's, and what is gone over
  pub data Loop : Type 0 where
    loop : List ℕ → Option (List ℕ) → Expression → Loop

  pub data MaybeLoop : Type 0 where
    no_loop : MaybeLoop
    some_loop : Loop → MaybeLoop

  -- parameters, captured names and body
  pub data Function : Type 0 where
    function : List (List ℕ) → Uses → Statements → Function

  -- a `use` list: each name, with the expression of its value if it has one
  pub data Uses : Type 0 where
    no_uses : Uses
    more_uses : List ℕ → MaybeExpression → Uses → Uses

  -- the way from a value to a value inside it
  pub data Steps : Type 0 where
    no_steps : Steps
    member_step : List ℕ → Steps → Steps
    index_step : Expression → Steps → Steps

  -- the arms of an `if`
  pub data Arms : Type 0 where
    no_arms : Arms
    more_arms : Expression → Statements → Arms → Arms

  -- a statement at its place
  pub data Statement : Type 0 where
    statement : Place → StatementKind → Statement

  pub data Statements : Type 0 where
    no_statements : Statements
    more_statements : Statement → Statements → Statements

  pub data StatementKind : Type 0 where
    object template : List ℕ → Expression → Uses → Statements → StatementKind
    -- the type, the name, the target's type, the loop, the `use` list and the body
    apply : List ℕ → MaybeExpression → Option (List ℕ) → MaybeLoop → Uses → Statements → StatementKind
    assign ignore import throw eval : Expression → StatementKind
    include include_library : List ℕ → Place → StatementKind
    include_all : List ℕ → List ℕ → Place → StatementKind
    const : List ℕ → Expression → StatementKind
    var : List ℕ → MaybeExpression → StatementKind
    set : Root → Steps → SetOp → Expression → StatementKind
    choose : Arms → Statements → StatementKind
    while : Expression → Statements → StatementKind
    for : Loop → Statements → StatementKind
    define : List ℕ → Function → StatementKind
    return : MaybeExpression → StatementKind
    break continue : StatementKind
