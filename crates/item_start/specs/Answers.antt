-- What was returned, as an answer.
use Rattle.std.specs.Prelude.{◌≡◌, [], ◌∷◌, Result, Ok, Err}
use Rattle.site_base.specs.declared.item_no.ItemNo.{ItemNo}
use Rattle.eval_work.specs.declared.stop.Stop.{Stop}
use Rattle.eval_work.specs.declared.stop.Stop.TheVariants as stops
use Rattle.commit_meaning.specs.Answers as answer
use Rattle.commit_meaning.specs.Answers.{Answer, diag}

-- What a function returned is this answer, where a fault is told under a number, unless memory ran out.
abbrev pub Answers : {X Y : Type 0} → (X → Y) → ItemNo → Result X Stop → Answer Y → Type 0
Answers view n (Ok x) a = a ≡ answer.made (view x)
Answers view n (Err stops.Memory) a = Unit {0}
Answers view n (Err (stops.Fault l k t)) a = a ≡ answer.diagnosed (diag n l k t ∷ [])
Answers view n (Err (stops.Blocked r)) a = a ≡ answer.blocked r
