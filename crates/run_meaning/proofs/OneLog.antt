-- With one caller a run has one log.
use Rattle.std.proofs.Common.{◌≡◌, ℕ, List, [], ◌∷◌, max, refl, sym, ap, ◌∙◌, subst, arith}
use Rattle.run_meaning.specs.Turns.{ReadTurn}
use Rattle.run_meaning.specs.Rounds.{IsRound}
use Rattle.run_meaning.specs.Dealing.{line_events, taken_reports, ticks}
use Rattle.run_meaning.specs.Runs.{Basis, TurnLog, Stage, lines_of, reports_of, refusals_of, events_of, planned_of, stage_after, IsTurn, IsRunFrom, IsRun}
use Rattle.run_meaning.specs.Alone.{all_events, alone, turn_alone, run_alone, AreOnSite, IsOnSite}
use Rattle.run_meaning.proofs.OneCaller.{only_alone, is_alone}
use Rattle.run_meaning.proofs.Dealt.{dealt_to_one}

all_dealt : (b : Basis) (st : Stage) (t : ReadTurn) (moment : ℕ) → events_of b 1 st t moment ≡ all_events b st t moment ∷ []
all_dealt b st t moment = dealt_to_one (line_events (lines_of b st t moment)) (taken_reports st.plans.outstanding (reports_of st t)) (ticks b.rules.site st.histories moment)

-- a turn's log
turn_is : (b : Basis) (st : Stage) (t : ReadTurn) (l : TurnLog) → IsTurn b 1 st t l → l ≡ turn_alone b st t
turn_is b st t l x =
    let moment = max st.moment t.moment in
    let round : l.round ≡ alone b.rules moment st.histories (all_events b st t moment) =
    only_alone b.rules l.moment st.histories (all_events b st t l.moment) l.round (subst (λ z. IsRound b.rules l.moment st.histories z l.round) (all_dealt b st t l.moment) x.round)
    ∙ ap (λ m. alone b.rules m st.histories (all_events b st t m)) x.moment in
    let refusals = x.refusals ∙ ap (refusals_of b st t) x.moment in
    let orders = x.orders ∙ ap (λ m. (planned_of b st m l.round).orders) x.moment ∙ ap (λ z. (planned_of b st moment z).orders) round in
    λ i. record { number = x.number i; moment = x.moment i; refusals = refusals i; round = round i; orders = orders i }

is_turn : (b : Basis) (st : Stage) (t : ReadTurn) → AreOnSite b.rules.site (all_events b st t (max st.moment t.moment)) → IsTurn b 1 st t (turn_alone b st t)
is_turn b st t h =
    let moment = max st.moment t.moment in
    record {
      number = refl;
      moment = refl;
      refusals = refl;
      round = subst (λ z. IsRound b.rules moment st.histories z (alone b.rules moment st.histories (all_events b st t moment))) (sym (all_dealt b st t moment)) (is_alone b.rules moment st.histories (all_events b st t moment) h);
      orders = refl;
    }

-- the logs of turns
turns_are : (b : Basis) (ts : List ReadTurn) (ls : List TurnLog) (st : Stage) → IsRunFrom b 1 st ts ls → ls ≡ run_alone b st ts
turns_are b [] ls st x = x
turns_are b (t ∷ ts) [] st x = absurd x
turns_are b (t ∷ ts) (l ∷ ls) st x =
    let same = turn_is b st t l x.0 in
    let l' = turn_alone b st t in
    ap (λ z. z ∷ ls) same
    ∙ ap (λ z. l' ∷ z) (turns_are b ts ls (stage_after b st t l') (subst (λ z. IsRunFrom b 1 (stage_after b st t z) ts ls) same x.1))

are_turns : (b : Basis) (ts : List ReadTurn) (st : Stage) → IsOnSite b st ts → IsRunFrom b 1 st ts (run_alone b st ts)
are_turns b [] st h = refl
are_turns b (t ∷ ts) st h = let l = turn_alone b st t in (is_turn b st t h.0, are_turns b ts (stage_after b st t l) h.1)

pub only_log : (b : Basis) (st : Stage) (ts : List ReadTurn) (ls : List TurnLog) → IsRun b 1 st ts ls → ls ≡ run_alone b st ts
only_log b st ts ls x = turns_are b ts ls st x.turns

pub is_log : (b : Basis) (st : Stage) (ts : List ReadTurn) → IsOnSite b st ts → IsRun b 1 st ts (run_alone b st ts)
is_log b st ts h = record { someone = omega arith; turns = are_turns b ts st h }
