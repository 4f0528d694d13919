-- A line and a report on one service: the two logs, and nothing else.
use Rattle.std.proofs.Common.{◌≡◌, ◌<◌, ◌≤◌, ◌++◌, ℕ, zero, suc, List, [], ◌∷◌, length, take, map, max, slice_get, cond, Some, inl, inr, ◌⊎◌, refl, sym, ap, ap₂, ◌∙◌, subst, arith}
use Rattle.std.proofs.lemmas.List.Sorted.{IsPermutation-sym}
use Rattle.site_model.specs.declared.entry.Entry.{Entry}
use Rattle.site_model.specs.declared.sight.Sight.{Sight}
use Rattle.run_meaning.specs.Turns.{Asked, Histories, ReadTurn, of_index}
use Rattle.run_meaning.specs.Rounds.{IsRound}
use Rattle.run_meaning.specs.Runs.{IsRun, IsRunFrom, IsTurn, Stage, TurnLog, events_of, planned_of, refusals_of, stage_after}
use Rattle.run_meaning.specs.Alone.{Move, round_of}
use Rattle.run_meaning.specs.Shares.{done_in}
use Rattle.run_meaning.proofs.Lists.{moves_on, of_index_past}
use Rattle.run_meaning.proofs.Parts.{apart}
use Rattle.run_meaning.proofs.Shares.{entries_are_dealt}
use Rattle.run_meaning.proofs.Sole.{done_by, front}
use Rattle.caller_examples.specs.Callers.{b, first, line, line_first, report_first, reported, run_by, turn_by, turns}
use Rattle.run_examples.specs.Turns.{empty, ended, on, report, of_status, turn}
use Rattle.caller_examples.proofs.Orders.{none, two}
use Rattle.caller_examples.proofs.Moves.{AllSeen, round_is}

-- Turns.

-- what callers that take nothing make is the round of no moves
nothing_taken : (moment : ℕ) (before round : Histories) → IsRound b.rules moment before ([] ∷ [] ∷ []) round → round ≡ round_of b.rules moment before []
nothing_taken moment before round x =
    round_is b.rules moment before ([] ∷ [] ∷ []) round x [] (λ c. none _ (IsPermutation-sym _ _ (entries_are_dealt b.rules moment before ([] ∷ [] ∷ []) round x c))) (λ i m e h. absurd cc)

-- a log by its round
turn_is : (st : Stage) (t : ReadTurn) (l : TurnLog) (moves : List Move) → IsTurn b 2 st t l → l.round ≡ round_of b.rules (max st.moment t.moment) st.histories moves → l ≡ turn_by b st t moves
turn_is st t l moves x e =
    let m = max st.moment t.moment in
    let refusals : l.refusals ≡ refusals_of b st t m = x.refusals ∙ ap (refusals_of b st t) x.moment in
    let orders : l.orders ≡ (planned_of b st m (round_of b.rules m st.histories moves)).orders = x.orders ∙ ap₂ (λ k r. (planned_of b st k r).orders) x.moment e in
    λ i. record { number = x.number i; moment = x.moment i; refusals = refusals i; round = e i; orders = orders i }

-- its round at the moment that it has
round_at : (st : Stage) (t : ReadTurn) (l : TurnLog) → IsTurn b 2 st t l → IsRound b.rules (max st.moment t.moment) st.histories (events_of b 2 st t (max st.moment t.moment)) l.round
round_at st t l x = subst (λ m. IsRound b.rules m st.histories (events_of b 2 st t m) l.round) x.moment x.round

-- The turn with both.

abbrev before : Histories
before = [] ∷ [] ∷ []

abbrev both : List (List Asked)
both = (line.asked ∷ []) ∷ (reported.asked ∷ []) ∷ []

-- nothing stands further on
past : (c : ℕ) (a d : Move) → a.asked.checkable < 2 → d.asked.checkable < 2 → moves_on (suc (suc c)) (a ∷ d ∷ []) ≡ []
past c a d p q =
    let k = suc (suc c) in
    let one = apart a.asked.checkable k (λ e. omega (arith, e)) in
    let other = apart d.asked.checkable k (λ e. omega (arith, e)) in
    ap₂ (λ s t. cond s (a ∷ cond t (d ∷ []) []) (cond t (d ∷ []) [])) one other

-- a sight of the host, of which nothing stands
only_host : (ys : List Sight) (j : ℕ) (y : Sight) → map (λ (s : Sight). s.checkable) ys ≡ 0 ∷ [] → slice_get ys j ≡ Some y → y.checkable ≡ 0
only_host [] j y e h = absurd cc
only_host (a ∷ []) zero y e h = cc
only_host (a ∷ []) (suc j) y e h = absurd cc
only_host (a ∷ d ∷ ys) j y e h = absurd (let n = ap length e in omega (arith, n))

module _ (round : Histories) (x : IsRound b.rules 20 before both round) where
  on_host : of_index 0 round ≡ []
  on_host = nothing_in (of_index 0 round) (none _ (IsPermutation-sym _ _ (entries_are_dealt b.rules 20 before both round x 0)))
    where
      nothing_in : (es : List Entry) → map done_in es ≡ [] → es ≡ []
      nothing_in [] e = refl
      nothing_in (f ∷ es) e = absurd (let n = ap length e in omega (arith, n))

  on_service : (map done_in (of_index 1 round) ≡ done_by line ∷ done_by reported ∷ []) ⊎ (map done_in (of_index 1 round) ≡ done_by reported ∷ done_by line ∷ [])
  on_service = two (done_by line) (done_by reported) _ (IsPermutation-sym _ _ (entries_are_dealt b.rules 20 before both round x 1))

  taken : (m o : Move) → m.asked.checkable ≡ 1 → o.asked.checkable ≡ 1 → map done_in (of_index 1 round) ≡ done_by m ∷ done_by o ∷ [] → (c : ℕ) → moves_on 0 (m ∷ o ∷ []) ≡ [] → moves_on 1 (m ∷ o ∷ []) ≡ m ∷ o ∷ [] → map done_in (of_index c round) ≡ map done_by (moves_on c (m ∷ o ∷ []))
  taken m o p q e zero n w = ap (map done_in) on_host ∙ ap (map done_by) (sym n)
  taken m o p q e (suc zero) n w = e ∙ ap (map done_by) (sym w)
  taken m o p q e (suc (suc c)) n w =
      ap (map done_in) (of_index_past round (suc (suc c)) (let z : length round ≡ 2 = x.whole in omega (arith, z))) ∙ ap (map done_by) (sym (past c m o (omega (arith, p)) (omega (arith, q))))

  -- an entry of the service has seen nothing of the host
  seen : (moves : List Move) → ((i : ℕ) (m : Move) → slice_get moves i ≡ Some m → m.asked.checkable ≡ 1) → AllSeen before moves round
  seen moves on i m e h at j y k =
      let n = length (moves_on m.asked.checkable (take i moves)) in
      let there : slice_get (of_index 1 round) n ≡ Some e = subst (λ c. slice_get (of_index c round) n ≡ Some e) (on i m h) at in
      let host : y.checkable ≡ 0 = only_host e.sights j y (x.ancestors 1 n e there) k in
      let most : y.count ≤ length (of_index 0 before ++ of_index 0 round) = subst (λ c. y.count ≤ length (of_index c before ++ of_index c round)) host (x.seen 1 n j e y there k).1 in
      let few : y.count ≤ length (of_index 0 round) = most in
      let least : y.count ≡ 0 = (let z = ap length on_host in omega (arith, few, z)) in
      let none_there : length (front before moves round i 0) ≡ 0 = ap (λ es. length (take (length (moves_on 0 (take i moves))) es)) on_host ∙ none_of (length (moves_on 0 (take i moves))) in
      least ∙ sym none_there ∙ ap (λ c. length (front before moves round i c)) (sym host)
    where
      none_of : (n : ℕ) → length {A = Entry} (take n []) ≡ 0
      none_of zero = refl
      none_of (suc n) = refl

  on_it : (m o : Move) → m.asked.checkable ≡ 1 → o.asked.checkable ≡ 1 → (i : ℕ) (n : Move) → slice_get (m ∷ o ∷ []) i ≡ Some n → n.asked.checkable ≡ 1
  on_it m o p q zero n h = let e : m ≡ n = cc in subst (λ (z : Move). z.asked.checkable ≡ 1) e p
  on_it m o p q (suc zero) n h = let e : o ≡ n = cc in subst (λ (z : Move). z.asked.checkable ≡ 1) e q
  on_it m o p q (suc (suc i)) n h = absurd cc

  pub either : (round ≡ round_of b.rules 20 before (line ∷ reported ∷ [])) ⊎ (round ≡ round_of b.rules 20 before (reported ∷ line ∷ []))
  either = by on_service
    where
      by : (map done_in (of_index 1 round) ≡ done_by line ∷ done_by reported ∷ []) ⊎ (map done_in (of_index 1 round) ≡ done_by reported ∷ done_by line ∷ []) → (round ≡ round_of b.rules 20 before (line ∷ reported ∷ [])) ⊎ (round ≡ round_of b.rules 20 before (reported ∷ line ∷ []))
      by (inl e) = inl (round_is b.rules 20 before both round x (line ∷ reported ∷ []) (λ c. taken line reported refl refl e c refl refl) (seen (line ∷ reported ∷ []) (on_it line reported refl refl)))
      by (inr e) = inr (round_is b.rules 20 before both round x (reported ∷ line ∷ []) (λ c. taken reported line refl refl e c refl refl) (seen (reported ∷ line ∷ []) (on_it reported line refl refl)))

-- The run.

abbrev second_turn : ReadTurn
second_turn = record (turn 20 (on 1 (of_status 2) ∷ [])) { reports = ended 1 0 ∷ [] }

abbrev first_log : TurnLog
first_log = turn_by b first (empty 10) []

abbrev second : Stage
second = stage_after b first (empty 10) first_log

abbrev second_log : List Move → TurnLog
second_log moves = turn_by b second second_turn moves

abbrev third : List Move → Stage
third moves = stage_after b second second_turn (second_log moves)

abbrev run_with : List Move → List TurnLog
run_with moves = run_by b first turns ([] ∷ moves ∷ [] ∷ [])

-- the last turn, where the second was made so
ended_so : (moves : List Move) (l : TurnLog) (rest : List TurnLog) → IsTurn b 2 (third moves) (report 30 1) l → events_of b 2 (third moves) (report 30 1) 30 ≡ [] ∷ [] ∷ [] → (max (third moves).moment 30 ≡ 30) → rest ≡ [] → first_log ∷ second_log moves ∷ l ∷ rest ≡ run_with moves
ended_so moves l rest x none_left at e =
    let round = subst (λ ev. IsRound b.rules (max (third moves).moment 30) (third moves).histories ev l.round) (ap (events_of b 2 (third moves) (report 30 1)) at ∙ none_left) (round_at (third moves) (report 30 1) l x) in
    let is : l ≡ turn_by b (third moves) (report 30 1) [] = turn_is (third moves) (report 30 1) l [] x (nothing_taken (max (third moves).moment 30) (third moves).histories l.round round) in
    ap₂ (λ z r. first_log ∷ second_log moves ∷ z ∷ r) is e

second_is : (l k : TurnLog) (rest : List TurnLog) → IsTurn b 2 second second_turn l → IsRunFrom b 2 (stage_after b second second_turn l) (report 30 1 ∷ []) (k ∷ rest) → (first_log ∷ l ∷ k ∷ rest ≡ line_first) ⊎ (first_log ∷ l ∷ k ∷ rest ≡ report_first)
second_is l k rest x y = by (either l.round (round_at second second_turn l x))
  where
    follows : (moves : List Move) → l.round ≡ round_of b.rules 20 before moves → events_of b 2 (third moves) (report 30 1) 30 ≡ [] ∷ [] ∷ [] → (max (third moves).moment 30 ≡ 30) → first_log ∷ l ∷ k ∷ rest ≡ run_with moves
    follows moves e none_left at =
        let is : l ≡ second_log moves = turn_is second second_turn l moves x e in
        let last : IsTurn b 2 (third moves) (report 30 1) k = subst (λ z. IsTurn b 2 (stage_after b second second_turn z) (report 30 1) k) is y.0 in
        ap (λ z. first_log ∷ z ∷ k ∷ rest) is ∙ ended_so moves k rest last none_left at y.1

    by : (l.round ≡ round_of b.rules 20 before (line ∷ reported ∷ [])) ⊎ (l.round ≡ round_of b.rules 20 before (reported ∷ line ∷ [])) → (first_log ∷ l ∷ k ∷ rest ≡ line_first) ⊎ (first_log ∷ l ∷ k ∷ rest ≡ report_first)
    by (inl e) = inl (follows (line ∷ reported ∷ []) e refl refl)
    by (inr e) = inr (follows (reported ∷ line ∷ []) e refl refl)

pub run_is : (ls : List TurnLog) → IsRun b 2 first turns ls → (ls ≡ line_first) ⊎ (ls ≡ report_first)
run_is [] x = absurd x.turns
run_is (j ∷ []) x = absurd x.turns.1
run_is (j ∷ l ∷ []) x = absurd x.turns.1.1
run_is (j ∷ l ∷ k ∷ rest) x =
    let begun : j ≡ first_log = turn_is first (empty 10) j [] x.turns.0 (nothing_taken 10 first.histories j.round (round_at first (empty 10) j x.turns.0)) in
    let more : IsRunFrom b 2 second (second_turn ∷ report 30 1 ∷ []) (l ∷ k ∷ rest) = subst (λ z. IsRunFrom b 2 (stage_after b first (empty 10) z) (second_turn ∷ report 30 1 ∷ []) (l ∷ k ∷ rest)) begun x.turns.1 in
    subst (λ z. (z ∷ l ∷ k ∷ rest ≡ line_first) ⊎ (z ∷ l ∷ k ∷ rest ≡ report_first)) (sym begun) (second_is l k rest more.0 more.1)
