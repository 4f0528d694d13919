-- Over a world nothing is blocked.
use Rattle.std.proofs.Common.{ℕ, List, Bool, true, false, cond}
use Rattle.std.specs.Prelude.{nat_lt, ◌-◌}
use Rattle.site_base.specs.Data.{Data}
use Rattle.site_base.specs.declared.place.Place.{Place}
use Rattle.site_base.specs.declared.diag_kind.DiagKind.TheVariants.{SpaceLimit}
use Rattle.dsl_syntax.specs.Syntax.{Expression, Statements}
use Rattle.dsl_value.specs.Loads.{cost}
use Rattle.eval_meaning.specs.Registered.{PlainFile}
use Rattle.eval_meaning.specs.Views.{View, host, service, Sight, shown, absent, undecided, sight, IsDecided, IsWorld}
use Rattle.eval_meaning.specs.States.{State, Outcome, gives, faults, blocked, ◌>>=◌, done, fault}
use Rattle.eval_meaning.specs.Objects.{read, seen, with_read, with_tree, loaded}
use Rattle.eval_meaning.specs.Follows.{IsOpen}
use Rattle.eval_meaning.specs.Evaluation.{evaluated, value_of, body_of}
use Rattle.eval_meaning.specs.Load.{load_view}
use Rattle.eval_meaning.specs.declared.read.Read.{Read}
use Rattle.eval_meaning.proofs.Every.{IsRule, P, AreEvery, every, every_result}

binds : {A B : Type 0} (x : Outcome A) (f : A → State → Outcome B) → IsOpen x → ((a : A) (t : State) → IsOpen (f a t)) → IsOpen (x >>= f)
binds (gives a t) f h k = k a t
binds (faults l j t rs) f h k = tt
binds (blocked r rs) f h k = absurd h

loaded_open : (l : Place) (d : Data) (s : State) → IsOpen (loaded l d s)
loaded_open l d s = by (nat_lt s.space (cost d))
  where
    by : (b : Bool) → IsOpen (cond b (fault l SpaceLimit s) (done (record s { space = s.space - cost d })) >>= λ u s1. with_tree d s1)
    by true = tt
    by false = tt

seen_open : (l : Place) (r : Read) (o : Sight) (s : State) → IsDecided o → IsOpen (seen l r o s)
seen_open l r (shown d) s h = loaded_open l d (with_read r s)
seen_open l r absent s h = tt
seen_open l r undecided s h = absurd h

read_open : (view : View) (l : Place) (r : Read) (s : State) → IsDecided (sight view r) → IsOpen (read view l r s)
unfolding read
read_open view l r s h = seen_open l r (sight view r) s h

pub rule : (world : View) → IsWorld world → IsRule world world
rule world whole = record {
  P = λ s x y. IsOpen x;
  here = λ a s. tt;
  stops = λ A l k t s. tt;
  binds = λ s x y f g h k. binds x f h k;
  steps = λ s t x y m h. h;
  hosts = λ l n s. read_open world l (host n) s (whole.hosts n);
  services = λ l h n s. read_open world l (service h n) s (whole.services h n);
}

parts : (world : View) (whole : IsWorld world) (depth : ℕ) → AreEvery world world.objects world.absent world.whole (rule world whole) (evaluated world depth) (evaluated world depth)
parts world whole depth = every world world.objects world.absent world.whole (rule world whole) depth

pub value_open : (world : View) → IsWorld world → (depth : ℕ) (e : Expression) (s : State) → IsOpen (value_of world depth e s)
unfolding P rule
value_open world whole depth e s = (parts world whole depth).value e s

pub body_open : (world : View) → IsWorld world → (depth : ℕ) (b : Statements) (s : State) → IsOpen (body_of world depth b s)
unfolding P rule
body_open world whole depth b s = every_result world world.objects world.absent world.whole (rule world whole) depth b s

-- ---- a load

pub load_world : (files : List PlainFile) → IsWorld (load_view files)
unfolding sight
load_world files = record { hosts = λ n. tt; services = λ h n. tt }
