-- Where a turn stops.
use Rattle.std.proofs.Common.{◌≡◌, ◌≢◌, ◌≤◌, ℕ, List, [], ◌∷◌, ◌++◌, length, Option, Some, None, Result, Ok, Err, IfErr, OnErr, OnOk, inl, inr, refl, sym, ap, ◌∙◌, subst}
use Rattle.std.specs.Prelude.{IsErrAnd}
use Rattle.run_meaning.specs.Runs.{Stage, TurnLog}
use Rattle.site_edge.specs.Lists.{Adds, AddsPart}
use Rattle.site_edge.specs.declared.order.Order.{Order}
use Rattle.site_edge.specs.declared.sink_fault.SinkFault.{SinkFault}
use Rattle.site_edge.specs.declared.sink_fault.SinkFault.TheVariants as sink
use Rattle.site_edge.specs.declared.turn.Turn.{Turn}
use Rattle.site_run.specs.Courses.{Course, IsNextLog, behind_over, text_of}
use Rattle.site_run.specs.Ends.{Ends, IsAt, IsGone, IsPartStarted, IsPartWritten, Outside, StopsIn, StopsTurn, Takes, ended, outside}
use Rattle.site_run.specs.Starts.{calls_with, started_of}
use Rattle.site_run.specs.Stops.{status_of, stop_of_sink}
use Rattle.site_run.specs.declared.status.Status.{Status}
use Rattle.site_run.specs.declared.stop.Stop.{Stop}
use Rattle.site_run.specs.declared.stop.Stop.TheVariants as stop
use Rattle.site_run.proofs.Adding.{adds_none, part_of, takes_none}

-- with what a call stops that hands on why
pub stops_by : (r : Result (Unit {0}) Stop) (why : Stop) (callers : ℕ) (c : Course) (t : Turn) (o n : Outside) → IsErrAnd r (λ x. x ≡ why) → StopsTurn callers c t why o n → IfErr r (λ x. StopsTurn callers c t x o n)
stops_by (Ok x) why callers c t o n e p = tt
stops_by (Err x) why callers c t o n e p = subst (λ y. StopsTurn callers c t y o n) (sym e) p

pub ended_by : (r : Result Status Stop) (why : Stop) (callers : ℕ) (c : Course) (limit : ℕ) (stands : List Turn → List TurnLog → Type 0) (o n : Outside) → IsErrAnd r (λ x. x ≡ why) → Ends (status_of why) callers c limit stands o n
    → Ends (ended r) callers c limit stands o n
ended_by (Ok x) why callers c limit stands o n e p = absurd e
ended_by (Err x) why callers c limit stands o n e p = subst (λ y. Ends (status_of y) callers c limit stands o n) (sym e) p

-- in its lines
pub lines_stopped : (fault : SinkFault) (text text' : List ℕ) (os : List Order) (t : Option (List Turn)) (s : Option (List Order)) (k : Option (List (List Order))) (w w' : Option (List ℕ)) (b b' : ℕ) → text' ≡ text → AddsPart text' w w'
    → StopsIn (stop_of_sink fault) text os (outside t s k w b) (outside t s k w' b')
lines_stopped fault text text' os t s k w w' b b' same p = by fault
  where
    part : IsPartWritten [] [] text [] [] (outside t s k w b) (outside t s k w' b')
    part =
        let q = part_of text' w w' p in
        record { part = q.0; rest = q.1; are = sym same ∙ q.2; at = record { turns = takes_none t; written = q.3; started = adds_none s; calls = adds_none k } }

    by : (fault : SinkFault) → StopsIn (stop_of_sink fault) text os (outside t s k w b) (outside t s k w' b')
    by sink.Failed = part
    by sink.OutOfMemory = inl part

-- in its orders
pub orders_stopped : (r : Result (Unit {0}) Stop) (text text' : List ℕ) (os os' : List Order) (t t' : Option (List Turn)) (s s' : Option (List Order)) (k k' : Option (List (List Order))) (w w' : Option (List ℕ)) (b b' : ℕ) → r ≢ Err stop.Sink
    → text' ≡ text → os' ≡ os → t' ≡ t → Adds text' w w' → b' ≡ 0 → OnErr r (AddsPart os' s s') → OnErr r (AddsPart (os' ∷ []) k k') → OnErr r (1 ≤ length os')
    → IfErr r (λ x. StopsIn x text os (outside t s k w b) (outside t' s' k' w' b'))
orders_stopped (Ok x) text text' os os' t t' s s' k k' w w' b b' never same these kept written through p called some = tt
orders_stopped (Err x) text text' os os' t t' s s' k k' w w' b b' never same these kept written through p called some = by x (λ e. never (ap (λ (y : Stop). Err y) e))
  where
    part : IsPartStarted [] text [] os [] (outside t s k w b) (outside t' s' k' w' b')
    part =
        let q = part_of os' s s' p in
        let call = part_of (os' ∷ []) k k' called in
        record {
          part = q.0;
          rest = q.1;
          are = sym these ∙ q.2;
          some = subst (λ (xs : List Order). 1 ≤ length xs) these some;
          tried = call.0;
          untold = call.1;
          one = ap (λ (xs : List Order). xs ∷ []) (sym these) ∙ call.2;
          at = record { turns = subst (Takes [] t) (sym kept) (takes_none t); written = subst (λ v. Adds v w w') same written; started = q.3; calls = call.3 };
          through = through;
        }

    by : (x : Stop) → (x ≡ stop.Sink → ⊥) → StopsIn x text os (outside t s k w b) (outside t' s' k' w' b')
    by stop.Sink h = absurd (h refl)
    by stop.World h = part
    by stop.OutOfMemory h = inr part

-- so a turn with this log stops
pub stopped_so : (r : Result (Unit {0}) Stop) (callers : ℕ) (c : Course) (t : Turn) (l : TurnLog) (o n : Outside) → IsNextLog callers c [] [] t l → IfErr r (λ x. StopsIn x (text_of c l) (started_of l.orders) o n)
    → IfErr r (λ x. StopsTurn callers c t x o n)
stopped_so (Ok x) callers c t l o n is p = tt
stopped_so (Err x) callers c t l o n is p = inr (l, is, p)

-- or goes through
pub gone_through : (r : Result (Unit {0}) Stop) (callers : ℕ) (c : Course) (turn : Turn) (l : TurnLog) (next : Stage) (text' : List ℕ) (os' : List Order) (t t' : Option (List Turn)) (s s' : Option (List Order)) (k k' : Option (List (List Order))) (w w' : Option (List ℕ)) (b b' : ℕ)
    → IsNextLog callers c [] [] turn l → next ≡ (behind_over c (turn ∷ []) (l ∷ [])).stage → text' ≡ text_of c l → os' ≡ started_of l.orders → t' ≡ t → Adds text' w w' → b' ≡ 0 → OnOk r (Adds os' s s') → OnOk r (Adds (calls_with os') k k')
    → OnOk r (IsGone callers c turn next (outside t s k w b) (outside t' s' k' w' b'))
gone_through (Ok x) callers c turn l next text' os' t t' s s' k k' w w' b b' is after text these kept written through started called = record {
  log = l;
  is = is;
  at = record {
    turns = subst (Takes [] t) (sym kept) (takes_none t);
    written = subst (λ v. Adds v w w') text written;
    started = subst (λ os. Adds os s s') these started;
    calls = subst (λ os. Adds (calls_with os) k k') these called;
  };
  through = through;
  after = after;
}
gone_through (Err x) callers c turn l next text' os' t t' s s' k k' w w' b b' is after text these kept written through started called = tt
