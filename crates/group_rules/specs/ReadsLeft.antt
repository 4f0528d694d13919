-- What a function returned of an evaluation of which only the reads are left.
use Rattle.std.specs.Prelude.{◌≡◌, List, Result, Ok, Err}
use Rattle.eval_meaning.specs.States.{State, Outcome, gives, faults, blocked}
use Rattle.eval_meaning.specs.declared.read.Read.{Read}
use Rattle.eval_work.specs.declared.stop.Stop.{Stop}
use Rattle.eval_work.specs.declared.stop.Stop.TheVariants as stops

-- it is what the definition gives, with these reads, unless memory ran out
abbrev pub GivesReads : {X Y : Type 0} → (X → Y) → Result X Stop → List Read → Outcome Y → Type 0
GivesReads view (Ok x) rs o = (s : State) × (o ≡ gives (view x) s) × (s.reads ≡ rs)
GivesReads view (Err stops.Memory) rs o = Unit {0}
GivesReads view (Err (stops.Fault l k t)) rs o = o ≡ faults l k t rs
GivesReads view (Err (stops.Blocked q)) rs o = o ≡ blocked q rs
