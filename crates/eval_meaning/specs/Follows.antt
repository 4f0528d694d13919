-- What an evaluation over a view says of the one over a world of which the view is part.
use Rattle.std.specs.Prelude.{◌≡◌, List, ◌∷◌, ◌++◌}
use Rattle.std.specs.List.{AllByRecursion}
use Rattle.eval_meaning.specs.Views.{View, undecided, sight, IsDecided}
use Rattle.eval_meaning.specs.States.{Outcome, gives, faults, blocked}
use Rattle.eval_meaning.specs.declared.read.Read.{Read}

-- all reads of an evaluation
abbrev pub reads_of : {A : Type 0} → Outcome A → List Read
reads_of (gives a s) = s.reads
reads_of (faults l k t rs) = rs
reads_of (blocked r rs) = rs

-- a view decides each of these reads
abbrev pub AreDecided : View → List Read → Type 0
AreDecided view rs = AllByRecursion (λ r. IsDecided (sight view r)) rs

-- Where it isn't blocked, it is what the world gives. Where it is, the world's reads begin with the same ones, all of which the view decides, and
-- the next one is the read that it doesn't.
abbrev pub Follows : {A : Type 0} → View → Outcome A → Outcome A → Type 0
Follows view (gives a s) y = y ≡ gives a s
Follows view (faults l k t rs) y = y ≡ faults l k t rs
Follows view (blocked r rs) y = (sight view r ≡ undecided) × AreDecided view rs × (rest : List Read) × (reads_of y ≡ rs ++ r ∷ rest)

-- what isn't blocked
abbrev pub IsOpen : {A : Type 0} → Outcome A → Type 0
IsOpen (gives a s) = Unit {0}
IsOpen (faults l k t rs) = Unit {0}
IsOpen (blocked r rs) = ⊥
