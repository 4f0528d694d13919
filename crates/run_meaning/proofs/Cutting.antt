-- A run over two lists of turns is a run over the first, and then one over the second.
use Rattle.std.proofs.Common.{◌≡◌, ℕ, List, [], ◌∷◌, ◌++◌, refl, sym, ap, subst}
use Rattle.run_meaning.specs.Alone.{run_alone, turn_alone}
use Rattle.run_meaning.specs.Runs.{Basis, IsRunFrom, IsRunInTwo, Stage, TurnLog, stage_after, stage_by}
use Rattle.run_meaning.specs.Turns.{ReadTurn}

pub is_cut : (b : Basis) (callers : ℕ) (st : Stage) (ts us : List ReadTurn) (ls : List TurnLog) → IsRunFrom b callers st (ts ++ us) ls → IsRunInTwo b callers st ts us ls
is_cut b callers st [] us ls run = record { first = []; second = ls; both = refl; over_first = refl; over_second = run }
is_cut b callers st (t ∷ ts) us [] run = absurd run
is_cut b callers st (t ∷ ts) us (l ∷ ls) run =
    let cut = is_cut b callers (stage_after b st t l) ts us ls run.1 in
    record {
      first = l ∷ cut.first;
      second = cut.second;
      both = ap (λ z. l ∷ z) cut.both;
      over_first = (run.0, cut.over_first);
      over_second = cut.over_second;
    }

pub is_joined : (b : Basis) (callers : ℕ) (st : Stage) (ts us : List ReadTurn) (ms ns : List TurnLog) → IsRunFrom b callers st ts ms → IsRunFrom b callers (stage_by b st ts ms) us ns → IsRunFrom b callers st (ts ++ us) (ms ++ ns)
is_joined b callers st [] us ms ns first second = subst (λ z. IsRunFrom b callers st us (z ++ ns)) (sym first) (subst (λ z. IsRunFrom b callers (stage_by b st [] z) us ns) first second)
is_joined b callers st (t ∷ ts) us [] ns first second = absurd first
is_joined b callers st (t ∷ ts) us (l ∷ ms) ns first second = (first.0, is_joined b callers (stage_after b st t l) ts us ms ns first.1 second)

-- a run has a log for each turn, so what follows stands behind all of them
pub stage_joined : (b : Basis) (callers : ℕ) (st : Stage) (ts us : List ReadTurn) (ms ns : List TurnLog) → IsRunFrom b callers st ts ms → stage_by b st (ts ++ us) (ms ++ ns) ≡ stage_by b (stage_by b st ts ms) us ns
stage_joined b callers st [] us ms ns first = ap (λ z. stage_by b st us (z ++ ns)) first
stage_joined b callers st (t ∷ ts) us [] ns first = absurd first
stage_joined b callers st (t ∷ ts) us (l ∷ ms) ns first = stage_joined b callers (stage_after b st t l) ts us ms ns first.1

-- The same of one caller's.

pub alone_joined : (b : Basis) (st : Stage) (ts us : List ReadTurn) → run_alone b st (ts ++ us) ≡ run_alone b st ts ++ run_alone b (stage_by b st ts (run_alone b st ts)) us
alone_joined b st [] us = refl
alone_joined b st (t ∷ ts) us = let l = turn_alone b st t in ap (λ z. l ∷ z) (alone_joined b (stage_after b st t l) ts us)

pub alone_stage : (b : Basis) (st : Stage) (ts us : List ReadTurn) →
    stage_by b st (ts ++ us) (run_alone b st (ts ++ us)) ≡ (let middle = stage_by b st ts (run_alone b st ts) in stage_by b middle us (run_alone b middle us))
alone_stage b st [] us = refl
alone_stage b st (t ∷ ts) us = alone_stage b (stage_after b st t (turn_alone b st t)) ts us
