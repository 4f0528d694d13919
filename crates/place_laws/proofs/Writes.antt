-- Frames and assignments at other places.
use Rattle.std.proofs.Common.{ℕ, List, [], ◌∷◌, Bool, refl}
use Rattle.site_base.specs.declared.place.Place.{Place}
use Rattle.dsl_syntax.specs.declared.set_op.SetOp.{SetOp}
use Rattle.dsl_syntax.specs.declared.set_op.SetOp.TheVariants as set
use Rattle.dsl_syntax.specs.declared.bin_op.BinOp.{BinOp}
use Rattle.dsl_syntax.specs.declared.bin_op.BinOp.TheVariants as bin
use Rattle.dsl_value.specs.Pairs.{Pairs}
use Rattle.dsl_value.specs.Outcomes.{made_units}
use Rattle.dsl_value.specs.declared.value.Value.{Value}
use Rattle.dsl_value.specs.declared.value.Value.TheVariants as value
use Rattle.dsl_ops.specs.Members.{set_outcome}
use Rattle.eval_meaning.specs.States.{State, Outcome, gives, ◌>>=◌, globals_cell}
use Rattle.eval_meaning.specs.Settled.{contents, settled}
use Rattle.eval_meaning.specs.Literals.{new_dict}
use Rattle.eval_meaning.specs.Members.{part_value}
use Rattle.eval_meaning.specs.Frames.{set_local, ended, entered, back_in, in_frame}
use Rattle.eval_meaning.specs.Flow.{thrown}
use Rattle.eval_meaning.specs.Targets.{Target, to_local, into, member_kind, put_member, is_constant, put_in, made_inside, inside_by, inside, written, made_local, write_local, followed, operated_on, set_value, assigned}
use Rattle.eval_meaning.specs.Functions.{defined}
use Rattle.eval_meaning.specs.declared.flow.Flow.{Flow}
use Rattle.eval_meaning.specs.declared.flow.Flow.TheVariants.{On, Returned, Broken, Continued}
use Rattle.place_laws.specs.MovedStates.{moved_task}
use Rattle.place_laws.specs.MovedOutcomes.{moved_flow}
use Rattle.place_laws.proofs.Moving.{Moving, P, same, moved, here, stops, binds, gives_after, steps, choice, choice_by}
use Rattle.place_laws.proofs.Lookups.{constant_moved}
use Rattle.place_laws.proofs.Values.{settles, dicts, parts, operates}

module _ (m : Moving) where
  abbrev pub flow : Flow → Flow
  flow f = moved_flow m.move f

  pub goes_on : (s : State) → P m flow s (gives On s) (gives On (moved m s))
  goes_on s = here m flow On s

  pub sets : (n : List ℕ) (v : Value) (s : State) → P m flow s (gives On (set_local n v s)) (gives On (set_local n v (moved m s)))
  sets n v s = gives_after m flow On s (set_local n v s) refl

  -- ---- frames

  pub ends : (f : Flow) (s : State) → P m same s (ended f s) (ended (flow f) (moved m s))
  ends On s = here m same value.Null s
  ends (Returned v) s = here m same v s
  ends (Broken l) s = stops m _ same l _ _ s
  ends (Continued l) s = stops m _ same l _ _ s

  pub frames : (this : Value) (locals : Pairs) (in_file : Bool) (f g : State → Outcome Flow) (s : State) → ((t : State) → P m flow t (f t) (g (moved m t))) → P m same s (in_frame this locals in_file f s) (in_frame this locals in_file g (moved m s))
  frames this locals in_file f g s c =
      let t : State = entered this locals in_file s in
      steps m same s t _ _ refl
      (binds m flow same t (f t) (g (moved m t)) _ _ (c t)
      (λ fl s1. binds m same same s1 (ended fl s1) (ended (flow fl) (moved m s1)) _ _ (ends fl s1) (λ v s2. gives_after m same v s2 (back_in s s2) refl)))

  -- ---- writes into cells

  pub puts_member : (l : Place) (container k v : Value) (s : State) → P m flow s (put_member l container k v s) (put_member (m.move l) container k v (moved m s))
  puts_member l container k v s =
      let o = set_outcome (contents s) container k v in
      binds m same flow s (settled member_kind l (made_units o) o s) (settled member_kind (m.move l) (made_units o) o (moved m s)) _ _ (settles m member_kind l (made_units o) o s) (λ _ s1. goes_on s1)

  pub puts_in : (l : Place) (container k v : Value) (s : State) → P m flow s (put_in l container k v s) (put_in (m.move l) container k v (moved m s))
  unfolding put_in
  puts_in l container k v s = choice_by m flow (is_constant s.task container k) (is_constant (moved_task m.move s.task) container k) s _ _ _ _ (constant_moved m.move s.task container k) (stops m _ flow l _ _ s) (puts_member l container k v s)

  makes_inside : (l : Place) (container k : Value) (s : State) → P m same s (made_inside l container k s) (made_inside (m.move l) container k (moved m s))
  makes_inside l container k s =
      binds m same same s (new_dict l [] s) (new_dict (m.move l) [] (moved m s)) _ _ (dicts m l [] s)
      (λ d s1. binds m flow same s1 (put_in l container k d s1) (put_in (m.move l) container k d (moved m s1)) _ _ (puts_in l container k d s1) (λ _ s2. here m same d s2))

  insides_by : (l : Place) (container k v : Value) (s : State) → P m same s (inside_by l container k v s) (inside_by (m.move l) container k v (moved m s))
  insides_by l container k value.Null s = makes_inside l container k s
  insides_by l container k v s = here m same v s

  inside_next : (l : Place) (container k : Value) (s : State) → P m same s (part_value l container k s >>= λ v s1. inside_by l container k v s1) (part_value (m.move l) container k (moved m s) >>= λ v s1. inside_by (m.move l) container k v s1)
  inside_next l container k s = binds m same same s (part_value l container k s) (part_value (m.move l) container k (moved m s)) _ _ (parts m l container k s) (λ v s1. insides_by l container k v s1)

  insides : (l : Place) (container k : Value) (s : State) → P m same s (inside l container k s) (inside (m.move l) container k (moved m s))
  insides l value.Null k s = stops m _ same l _ _ s
  insides l container k s = inside_next l container k s

  pub writes : (l : Place) (container : Value) (ks : List Value) (v : Value) (s : State) → P m flow s (written l container ks v s) (written (m.move l) container ks v (moved m s))
  writes l container [] v s = stops m _ flow l _ _ s
  writes l container (k ∷ []) v s = puts_in l container k v s
  writes l container (k ∷ j ∷ ks) v s = binds m same flow s (inside l container k s) (inside (m.move l) container k (moved m s)) _ _ (insides l container k s) (λ d s1. writes l d (j ∷ ks) v s1)

  -- ---- writes to locals

  makes_local : (l : Place) (n : List ℕ) (s : State) → P m same s (made_local l n s) (made_local (m.move l) n (moved m s))
  makes_local l n s = binds m same same s (new_dict l [] s) (new_dict (m.move l) [] (moved m s)) _ _ (dicts m l [] s) (λ d s1. gives_after m same d s1 (set_local n d s1) refl)

  writes_local : (l : Place) (n : List ℕ) (container : Value) (ks : List Value) (v : Value) (s : State) → P m flow s (write_local l n container ks v s) (write_local (m.move l) n container ks v (moved m s))
  writes_local l n container [] v s = sets n v s
  writes_local l n value.Null (k ∷ ks) v s = binds m same flow s (made_local l n s) (made_local (m.move l) n (moved m s)) _ _ (makes_local l n s) (λ d s1. writes l d (k ∷ ks) v s1)
  writes_local l n container (k ∷ ks) v s = writes l container (k ∷ ks) v s

  -- ---- what is assigned

  follows : (l : Place) (v : Value) (ks : List Value) (s : State) → P m same s (followed l v ks s) (followed (m.move l) v ks (moved m s))
  follows l v [] s = here m same v s
  follows l v (k ∷ ks) s = binds m same same s (part_value l v k s) (part_value (m.move l) v k (moved m s)) _ _ (parts m l v k s) (λ w s1. follows l w ks s1)

  operates_on : (l : Place) (o : BinOp) (container : Value) (ks : List Value) (v : Value) (s : State) → P m same s (operated_on l o container ks v s) (operated_on (m.move l) o container ks v (moved m s))
  operates_on l o container ks v s = binds m same same s (followed l container ks s) (followed (m.move l) container ks (moved m s)) _ _ (follows l container ks s) (λ old s1. operates m l o old v s1)

  set_values : (l : Place) (o : SetOp) (container : Value) (ks : List Value) (v : Value) (s : State) → P m same s (set_value l o container ks v s) (set_value (m.move l) o container ks v (moved m s))
  set_values l set.Plain container ks v s = here m same v s
  set_values l set.Add container ks v s = operates_on l bin.Add container ks v s
  set_values l set.Sub container ks v s = operates_on l bin.Sub container ks v s
  set_values l set.Mul container ks v s = operates_on l bin.Mul container ks v s
  set_values l set.Div container ks v s = operates_on l bin.Div container ks v s

  pub assigns : (l : Place) (o : SetOp) (t : Target) (v : Value) (s : State) → P m flow s (assigned l o t v s) (assigned (m.move l) o t v (moved m s))
  unfolding assigned
  assigns l o (to_local n container ks) v s = binds m same flow s (set_value l o container ks v s) (set_value (m.move l) o container ks v (moved m s)) _ _ (set_values l o container ks v s) (λ w s1. writes_local l n container ks w s1)
  assigns l o (into container ks) v s = binds m same flow s (set_value l o container ks v s) (set_value (m.move l) o container ks v (moved m s)) _ _ (set_values l o container ks v s) (λ w s1. writes l container ks w s1)

  pub defines : (l : Place) (n : List ℕ) (f : Value) (s : State) → P m flow s (defined l n f s) (defined (m.move l) n f (moved m s))
  defines l n f s = choice m flow s.in_file s _ _ _ _ (puts_in l (value.Ref globals_cell) (value.Str n) f s) (sets n f s)

  pub throws : (l : Place) (v : Value) (s : State) → P m flow s (thrown l v s) (thrown (m.move l) v (moved m s))
  throws l (value.Str t) s = stops m _ flow l _ _ s
  throws l v s = stops m _ flow l _ _ s
