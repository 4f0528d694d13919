-- What calls do and answer.
use Rattle.std.proofs.Common.{◌≡◌, List, [], ◌∷◌, length, Result, Ok, Err, IfOk, refl, sym, ap, subst, ◌∙◌, arith, length-append, length-set}
use Rattle.std.specs.List.{AllByRecursion}
use Rattle.dsl_value.specs.Outcomes.{made_units, texts_units, act_outcome, act_value, act_store, answer, after, StandsAct}
use Rattle.dsl_value.specs.Whole.{Names}
use Rattle.dsl_value.specs.declared.acting.Act.{Act}
use Rattle.dsl_value.specs.declared.acting.Act.TheVariants as act
use Rattle.dsl_value.specs.declared.making.Made.TheVariants as made
use Rattle.dsl_value.specs.declared.value.Value.TheVariants as value
use Rattle.dsl_value.proofs.Settled.{answer_act, after_act}
use Rattle.dsl_value.specs.Contents.{Contents}
use Rattle.dsl_value.specs.declared.value.Value.{Value}
use Rattle.dsl_lib.specs.Answers.{Answer, gives, makes, writes, refuses, Gave, Returns, ReturnsArray, Acts, Answers, Keeps, made_by, kept_by, array_by, texts_by}
use Rattle.dsl_lib.specs.declared.lib_fault.LibFault.{LibFault}

-- ---- what was returned, as what is to be done

pub made_acts : (s : Contents) (a : Answer) (r : Result Value LibFault) → Returns a r → Acts s a (made_units a) (made_by r)
made_acts s a (Ok value.Null) h = (h, sym (ap made_units h))
made_acts s a (Ok (value.Bool b)) h = (h, sym (ap made_units h))
made_acts s a (Ok (value.Number n)) h = (h, sym (ap made_units h))
made_acts s a (Ok (value.Str t)) h = (h, sym (ap made_units h))
made_acts s a (Ok (value.Ref k)) h = (h, sym (ap made_units h))
made_acts s a (Ok (value.Func k)) h = (h, sym (ap made_units h))
made_acts s a (Err e) h = h

pub kept_acts : (s : Contents) (a : Answer) (r : Result Value LibFault) → Returns a r → Acts s a 0 (kept_by r)
kept_acts s a (Ok v) h = (h, refl)
kept_acts s a (Err e) h = h

pub array_acts : (s : Contents) (a : Answer) (r : Result (List Value) LibFault) → ReturnsArray a r → Acts s a (made_units a) (array_by r)
array_acts s a (Ok vs) h = (h, sym (ap made_units h))
array_acts s a (Err e) h = h

pub texts_acts : (s : Contents) (a : Answer) (r : Result (List Value) LibFault) → ReturnsArray a r → Acts s a (texts_units a) (texts_by r)
texts_acts s a (Ok vs) h = (h, sym (ap texts_units h))
texts_acts s a (Err e) h = h

pub made_stand : (s : Contents) (r : Result Value LibFault) → IfOk r (Names (length s.cells) (length s.functions)) → IfOk (made_by r) (StandsAct s)
made_stand s (Ok value.Null) h = h
made_stand s (Ok (value.Bool b)) h = h
made_stand s (Ok (value.Number n)) h = h
made_stand s (Ok (value.Str t)) h = h
made_stand s (Ok (value.Ref k)) h = h
made_stand s (Ok (value.Func k)) h = h
made_stand s (Err e) h = tt

pub kept_stand : (s : Contents) (r : Result Value LibFault) → IfOk r (Names (length s.cells) (length s.functions)) → IfOk (kept_by r) (StandsAct s)
kept_stand s (Ok v) h = h
kept_stand s (Err e) h = tt

pub array_stand : (s : Contents) (r : Result (List Value) LibFault) → IfOk r (AllByRecursion (Names (length s.cells) (length s.functions))) → IfOk (array_by r) (StandsAct s)
array_stand s (Ok vs) h = h
array_stand s (Err e) h = tt

pub texts_stand : (s : Contents) (r : Result (List Value) LibFault) → IfOk r (AllByRecursion (Names (length s.cells) (length s.functions))) → IfOk (texts_by r) (StandsAct s)
texts_stand s (Ok vs) h = h
texts_stand s (Err e) h = tt

-- ---- what is done, as what is answered

gave_act : (s : Contents) (x : Act) → Gave s (act_outcome s x) (act_value (length s.cells) x) (act_store s x)
gave_act s (act.Make (made.Value v)) = (refl, refl)
gave_act s (act.Make (made.Text t)) = (refl, refl)
gave_act s (act.Make (made.Array vs)) = (refl, refl)
gave_act s (act.Make (made.Texts vs)) = (refl, refl)
gave_act s (act.Make (made.Dict ps)) = (refl, refl)
gave_act s (act.Write k x) = (refl, refl)

pub acts_answer : (s new : Contents) (a : Answer) (x : Act) (v : Value) → a ≡ act_outcome s x → v ≡ act_value (length s.cells) x → new ≡ act_store s x → Gave s a v new
acts_answer s new a x v e is to = subst (λ b. Gave s b v new) (sym e) (subst (λ w. Gave s (act_outcome s x) w new) (sym is) (subst (Gave s (act_outcome s x) (act_value (length s.cells) x)) (sym to) (gave_act s x)))

pub act_answers : (s : Contents) (a : Answer) (x : Act) → a ≡ act_outcome s x → answer (length s.cells) a ≡ Ok (act_value (length s.cells) x)
act_answers s a x e = ap (answer (length s.cells)) e ∙ answer_act LibFault (length s.cells) s x

pub act_after : (s : Contents) (a : Answer) (x : Act) → a ≡ act_outcome s x → after s a ≡ act_store s x
act_after s a x e = ap (after s) e ∙ after_act LibFault s x

-- ---- what a call keeps

keeps_same : (old new : Contents) → new ≡ old → Keeps old new
keeps_same old new e = (omega (arith, ap length (ap (λ s. s.cells) e)), ap (λ s. s.base) e, ap (λ s. s.functions) e)

-- no call loses a cell
gave_keeps : (old new : Contents) (a : Answer) (v : Value) → Gave old a v new → Keeps old new
gave_keeps old new (gives w) v h = keeps_same old new h.1
gave_keeps old new (makes c) v h = (omega (arith, ap length (ap (λ s. s.cells) h.1), length-append old.cells (c ∷ [])), ap (λ s. s.base) h.1, ap (λ s. s.functions) h.1)
gave_keeps old new (writes k c) v h = (omega (arith, ap length (ap (λ s. s.cells) h.1), length-set old.cells k c), ap (λ s. s.base) h.1, ap (λ s. s.functions) h.1)
gave_keeps old new (refuses e) v h = absurd h

pub answers_keep : (old new : Contents) (a : Answer) (r : Result Value LibFault) → Answers old a r new → Keeps old new
answers_keep old new a (Ok v) h = gave_keeps old new a v h
answers_keep old new a (Err e) h = keeps_same old new h.1
