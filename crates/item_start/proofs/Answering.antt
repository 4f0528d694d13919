-- What was returned by an evaluation, as an answer.
use Rattle.std.proofs.Common.{Result, Ok, Err, ap}
use Rattle.site_base.specs.declared.item_no.ItemNo.{ItemNo}
use Rattle.eval_meaning.specs.States.{State, Outcome}
use Rattle.eval_work.specs.Works.{Gives}
use Rattle.eval_work.specs.declared.stop.Stop.{Stop}
use Rattle.eval_work.specs.declared.stop.Stop.TheVariants as stops
use Rattle.commit_meaning.specs.Answers.{answered}
use Rattle.item_start.specs.Answers.{Answers}

pub gives_answers : {X Y : Type 0} (view : X → Y) (n : ItemNo) (r : Result X Stop) (new : State) (o : Outcome Y) → Gives view r new o → Answers view n r (answered n o)
gives_answers view n (Ok x) new o h = ap (answered n) h
gives_answers view n (Err stops.Memory) new o h = tt
gives_answers view n (Err (stops.Fault l k t)) new o h = ap (answered n) h
gives_answers view n (Err (stops.Blocked q)) new o h = ap (answered n) h
