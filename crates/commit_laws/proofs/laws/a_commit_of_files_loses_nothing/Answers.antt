-- What a load of files registers is registered by types.
use Rattle.std.proofs.Common.{◌≡◌, ℕ, List, subst}
use Rattle.dsl_value.specs.declared.value.Value.{Value}
use Rattle.eval_meaning.specs.Load.{load_run, loaded}
use Rattle.eval_meaning.specs.Registered.{PlainFile}
use Rattle.eval_meaning.specs.States.{State, gives}
use Rattle.commit_laws.specs.Registered.{GivesRegistered, IsRegistered}
use Rattle.commit_laws.proofs.Commits.{commit_loses_nothing}
use Rattle.commit_laws.proofs.Loads.{load_registers}
use Rattle.commit_laws.proofs.Numbers.{rises_throughout}
use Rattle.commit_laws.proofs.laws.a_commit_of_files_loses_nothing.Goals as goal

is_registered : (files : List PlainFile) (order : List ℕ) (v : Value) (s : State) → load_run files order ≡ gives v s → IsRegistered (loaded s)
is_registered files order v s e = subst GivesRegistered e (load_registers files order)

pub returns-clause-loses_nothing : goal.returns-clause-loses_nothing
returns-clause-loses_nothing c = λ phases last files order v s e. commit_loses_nothing phases last (loaded s) (is_registered files order v s e)

pub returns-clause-rises : goal.returns-clause-rises
returns-clause-rises c = λ files order v s e. rises_throughout (loaded s) (is_registered files order v s e)
