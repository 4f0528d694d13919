-- Runs that write one of some wholes.
use Rattle.std.proofs.Common.{◌≡◌, ◌⊎◌, inl, inr, ℕ, List, Option}
use Rattle.site_run.specs.Logs.{EndsOne, EndsRun, Output}
use Rattle.site_run.specs.declared.status.Status.{Status}
use Rattle.site_run.specs.declared.status.Status.TheVariants as status

-- a run of one of these
pub ended : (end : Status) (Is : Output → Type 0) (old new : Option (List ℕ)) → EndsOne end Is old new → EndsRun end Is old new
ended status.Done Is old new h = h
ended status.Diagnosed Is old new h = h
ended status.Usage Is old new h = h
ended status.ReadFault Is old new h = h.2
ended status.WriteFault Is old new h = h
ended status.WorldFault Is old new h = h
ended status.OutOfMemory Is old new h = inr h
ended status.TurnsSpent Is old new h = h
ended status.NotLegal Is old new h = h

one_as : (end : Status) (P Q : Output → Type 0) (old new : Option (List ℕ)) → ((w : Output) → P w → Q w) → EndsOne end P old new → EndsOne end Q old new
one_as end P Q old new f h = (h.0, f h.0 h.1, h.2)

either_as : (P Q : Output → Type 0) (old new : Option (List ℕ)) → ((w : Output) → P w → Q w) → (new ≡ old) ⊎ EndsOne status.OutOfMemory P old new → (new ≡ old) ⊎ EndsOne status.OutOfMemory Q old new
either_as P Q old new f (inl h) = inl h
either_as P Q old new f (inr h) = inr (one_as status.OutOfMemory P Q old new f h)

-- what is one of these is one of those
pub ended_as : (end : Status) (P Q : Output → Type 0) (old new : Option (List ℕ)) → ((w : Output) → P w → Q w) → EndsRun end P old new → EndsRun end Q old new
ended_as status.Done P Q old new f h = one_as status.Done P Q old new f h
ended_as status.Diagnosed P Q old new f h = one_as status.Diagnosed P Q old new f h
ended_as status.Usage P Q old new f h = one_as status.Usage P Q old new f h
ended_as status.ReadFault P Q old new f h = h
ended_as status.WriteFault P Q old new f h = one_as status.WriteFault P Q old new f h
ended_as status.WorldFault P Q old new f h = one_as status.WorldFault P Q old new f h
ended_as status.OutOfMemory P Q old new f h = either_as P Q old new f h
ended_as status.TurnsSpent P Q old new f h = one_as status.TurnsSpent P Q old new f h
ended_as status.NotLegal P Q old new f h = one_as status.NotLegal P Q old new f h
