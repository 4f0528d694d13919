-- What an answer over a view says of one over a view of which it is part.
use Rattle.std.specs.Prelude.{◌≡◌, List}
use Rattle.site_model.specs.PlainSite.{PlainObject}
use Rattle.dsl_syntax.specs.Syntax.{Expression, Statements}
use Rattle.eval_meaning.specs.Registered.{PlainItem, PlainRule}
use Rattle.eval_meaning.specs.Views.{View}
use Rattle.eval_meaning.specs.States.{State, Outcome, gives, faults, blocked}
use Rattle.eval_meaning.specs.Evaluation.{value_of, body_of}
use Rattle.eval_meaning.specs.Load.{most_open}
use Rattle.commit_meaning.specs.Answers as answer
use Rattle.commit_meaning.specs.Answers.{Answer}
use Rattle.commit_meaning.specs.Names.{Target}
use Rattle.commit_meaning.specs.Items.{item_answer}
use Rattle.commit_meaning.specs.Rules.{instances}
use Rattle.commit_meaning.specs.Groups.{group_members}

-- an answer that isn't blocked is the other one
abbrev pub Stays : {A : Type 0} → Answer A → Answer A → Type 0
Stays (answer.made a) y = y ≡ answer.made a
Stays (answer.diagnosed ds) y = y ≡ answer.diagnosed ds
Stays (answer.blocked r) y = Unit {0}

-- what is answered over a view is answered over another one
pub record AnswersStay (view world : View) : Type 0 where
  pub items : (i : PlainItem) → Stays (item_answer view i) (item_answer world i)
  pub rules : (r : PlainRule) (t : Target) → Stays (instances view r t) (instances world r t)
  pub members : (gs : List PlainItem) (o : PlainObject) → Stays (group_members view gs o) (group_members world gs o)

-- the same of one evaluation
abbrev pub Remains : {A : Type 0} → Outcome A → Outcome A → Type 0
Remains (gives a s) y = y ≡ gives a s
Remains (faults l k t rs) y = y ≡ faults l k t rs
Remains (blocked r rs) y = Unit {0}

-- and of all of them
pub record EvaluationsRemain (view world : View) : Type 0 where
  pub value : (e : Expression) (s : State) → Remains (value_of view most_open e s) (value_of world most_open e s)
  pub body : (b : Statements) (s : State) → Remains (body_of view most_open b s) (body_of world most_open b s)
