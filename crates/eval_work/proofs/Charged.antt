-- What operators and calls of the library gave is what the definition says, where their cost is charged.
use Rattle.std.proofs.Common.{◌≡◌, ◌≤◌, ◌<◌, ◌-◌, ℕ, [], Bool, true, false, cond, Ok, Err, length, refl, subst, ap, ◌∙◌, arith}
use Rattle.std.specs.Prelude.{nat_lt}
use Rattle.std.proofs.lemmas.Bool.Decides.{nat_tests}
use Rattle.site_base.specs.declared.place.Place.{Place}
use Rattle.site_base.specs.declared.diag_kind.DiagKind.{DiagKind}
use Rattle.site_base.specs.declared.diag_kind.DiagKind.TheVariants.{SpaceLimit}
use Rattle.dsl_value.specs.Contents.{Contents}
use Rattle.dsl_value.specs.Grows.{Grows}
use Rattle.dsl_value.specs.Outcomes as comes
use Rattle.dsl_value.specs.declared.refusal.Refusal.{Refusal}
use Rattle.dsl_value.specs.declared.refusal.Refusal.TheVariants.{SpaceLimit as SpaceRefused}
use Rattle.dsl_value.specs.declared.value.Value.{Value}
use Rattle.dsl_value.specs.declared.value.Value.TheVariants as value
use Rattle.dsl_lib.specs.Units.{units}
use Rattle.dsl_lib.specs.declared.lib_fault.LibFault.{LibFault}
use Rattle.dsl_lib.specs.declared.plain.Plain.{Plain}
use Rattle.dsl_lib.specs.declared.plain.Plain.TheVariants as call
use Rattle.eval_meaning.specs.States.{State, gives, faults, done, fault, charge}
use Rattle.eval_meaning.specs.Settled.{settled}
use Rattle.eval_work.specs.Works.{state_of}
use Rattle.eval_work.specs.Kept.{Named, IsFit, IsStill, IsKept}
use Rattle.eval_work.specs.declared.work.Work.{Work}
use Rattle.eval_work.proofs.Later.{still_grown}

charge_is : (l : Place) (n : ℕ) (s : State) → n ≤ s.space → charge l n s ≡ done (record s { space = s.space - n })
charge_is l n s le = by (nat_lt s.space n) refl
  where
    by : (b : Bool) → nat_lt s.space n ≡ b → cond b (fault l SpaceLimit s) (done (record s { space = s.space - n })) ≡ done (record s { space = s.space - n })
    by true e = absurd (grind (arith, nat_tests))
    by false e = refl

charge_over : (l : Place) (n : ℕ) (s : State) → s.space < n → charge l n s ≡ faults l SpaceLimit [] s.reads
charge_over l n s lt = by (nat_lt s.space n) refl
  where
    by : (b : Bool) → nat_lt s.space n ≡ b → cond b (fault l SpaceLimit s) (done (record s { space = s.space - n })) ≡ faults l SpaceLimit [] s.reads
    by true e = refl
    by false e = absurd (grind (arith, nat_tests))

ok_value : {F : Type 0} (n : ℕ) (v w : Value) → comes.answer {F = F} n (comes.gives v) ≡ Ok w → v ≡ w
ok_value n v w e = cc

err_is_no_ok : {F : Type 0} (n : ℕ) (x : F) (v : Value) → comes.answer n (comes.refuses x) ≡ Ok v → ⊥
err_is_no_ok n x v e = absurd cc

pub settled_is : {F : Type 0} (kind : F → DiagKind) (l : Place) (w : Work) (o : comes.Outcome F) (n : ℕ) (v : Value) (u : ℕ) (new : Contents) → comes.answer (length w.store.cells) o ≡ Ok v → u ≡ n → n ≤ w.space → new ≡ comes.after w.store o → settled kind l n o (state_of w) ≡ gives v (state_of (record w { store = new; space = w.space - u }))
settled_is kind l w (comes.gives x) n v u new a e le is = rw (is, e, ← ok_value (length w.store.cells) x v a, charge_is l n (state_of w) le) refl
settled_is kind l w (comes.makes c) n v u new a e le is = rw (is, e, ← ok_value (length w.store.cells) (value.Ref (length w.store.cells)) v a, charge_is l n (state_of w) le) refl
settled_is kind l w (comes.writes k c) n v u new a e le is = rw (is, e, ← ok_value (length w.store.cells) value.Null v a, charge_is l n (state_of w) le) refl
settled_is kind l w (comes.refuses x) n v u new a e le is = absurd (err_is_no_ok (length w.store.cells) x v a)

pub settled_over : {F : Type 0} (kind : F → DiagKind) (l : Place) (w : Work) (o : comes.Outcome F) (n : ℕ) → w.space < n → ((x : F) → o ≡ comes.refuses x → n ≡ 0) → settled kind l n o (state_of w) ≡ faults l SpaceLimit [] w.reads.items
settled_over kind l w (comes.gives x) n lt free = rw (charge_over l n (state_of w) lt) refl
settled_over kind l w (comes.makes c) n lt free = rw (charge_over l n (state_of w) lt) refl
settled_over kind l w (comes.writes k c) n lt free = rw (charge_over l n (state_of w) lt) refl
settled_over kind l w (comes.refuses x) n lt free = absurd (omega (arith, lt, free x refl))

-- less is left than it costs
pub left_over : {F : Type 0} (refused : comes.Outcome F → F → Type 0) (left count : ℕ) (o : comes.Outcome F) (units : ℕ) (e : Refusal F) → e ≡ SpaceRefused → comes.Answered refused left count o units (Err e) → left < units
left_over refused left count o units e is h = subst (λ x. comes.Answered refused left count o units (Err x)) is h

pub write_free : {F : Type 0} (o : comes.Outcome F) (x : F) → o ≡ comes.refuses x → comes.made_units o ≡ 0
write_free o x e = ap comes.made_units e

-- a call that is refused costs nothing
pub refused_free : (p : Plain) (x : LibFault) → units p (comes.refuses x) ≡ 0
refused_free call.Keys x = refl
refused_free call.DictKeys x = refl
refused_free call.TextSplit x = refl
refused_free call.ArrayGet x = refl
refused_free call.DictGet x = refl
refused_free call.DictRemove x = refl
refused_free p x = refl

pub call_free : (p : Plain) (o : comes.Outcome LibFault) (x : LibFault) → o ≡ comes.refuses x → units p o ≡ 0
call_free p o x e = ap (units p) e ∙ refused_free p x

-- the work behind it
pub settled_still : (w : Work) (n u : ℕ) (new : Contents) → IsFit w → Grows n w.store new → IsStill w (record w { store = new; space = w.space - u })
settled_still w n u new fit g = still_grown n w (record w { store = new; space = w.space - u }) fit g refl refl refl

pub settled_kept : (w : Work) (n u : ℕ) (new : Contents) (v : Value) → IsFit w → Grows n w.store new → Named new v → IsKept w (record w { store = new; space = w.space - u }) v
settled_kept w n u new v fit g named = let s = settled_still w n u new fit g in record { fit = s.fit; later = s.later; named = named }
