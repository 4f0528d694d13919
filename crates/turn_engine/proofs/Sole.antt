-- A turn of one caller has one log.
use Rattle.std.proofs.Common.{◌≡◌, ℕ, [], ◌∷◌, Result, Ok, Err, IfOk, OnOk, refl, sym, ap, ◌∙◌, subst, arith}
use Rattle.run_meaning.specs.Alone.{turn_alone}
use Rattle.run_meaning.specs.Runs.{Basis, IsTurn, Stage, TurnLog, stage_after}
use Rattle.run_meaning.specs.Turns.{ReadTurn}
use Rattle.run_meaning.proofs.OneLog.{only_log}
use Rattle.turn_engine.specs.Stages.{TellsTurn, Tells}
use Rattle.turn_engine.specs.declared.turn_out.TurnOut.{TurnOut}

pub log_is : (b : Basis) (st : Stage) (t : ReadTurn) (l : TurnLog) → IsTurn b 1 st t l → l ≡ turn_alone b st t
log_is b st t l is = let e = only_log b st (t ∷ []) (l ∷ []) (record { someone = omega arith; turns = (is, refl) }) in cc

module _ {b : Basis} {st : Stage} {t : ReadTurn} {next : Stage} where
  pub tells_alone : {out : TurnOut} → TellsTurn b 1 st t out next → Tells out (turn_alone b st t)
  tells_alone {out = out} h = subst (Tells out) (log_is b st t h.log h.is) h.tells

  pub turns_alone : {out : TurnOut} → TellsTurn b 1 st t out next → IsTurn b 1 st t (turn_alone b st t)
  turns_alone h = subst (IsTurn b 1 st t) (log_is b st t h.log h.is) h.is

  pub goes_alone : {out : TurnOut} → TellsTurn b 1 st t out next → next ≡ stage_after b st t (turn_alone b st t)
  goes_alone h = h.after ∙ ap (stage_after b st t) (log_is b st t h.log h.is)

-- that log, where there is one worker
pub takes_alone : {E : Type 0} (b : Basis) (st : Stage) (t : ReadTurn) (next : Stage) (workers : ℕ) (r : Result TurnOut E) → workers ≡ 1 → IfOk r (λ out. Tells out (turn_alone b st t)) → OnOk r (IsTurn b 1 st t (turn_alone b st t)) → OnOk r (next ≡ stage_after b st t (turn_alone b st t))
    → IfOk r (λ out. TellsTurn b workers st t out next)
takes_alone b st t next workers (Ok out) one tells is after = subst (λ n. TellsTurn b n st t out next) (sym one) (record { log = turn_alone b st t; tells = tells; is = is; after = after })
takes_alone b st t next workers (Err e) one tells is after = tt
