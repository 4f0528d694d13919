-- How far a run came, from turn to turn.
use Rattle.std.proofs.Common.{◌≡◌, ◌+◌, ◌<◌, ◌≤◌, ℕ, false, Option, Some, None, List, [], ◌∷◌, ◌++◌, length, ◌⊎◌, inl, inr, refl, sym, ap, ◌∙◌, subst, arith, length-append}
use Rattle.std.proofs.lemmas.List.{append-nil}
use Rattle.run_meaning.specs.Runs.{Stage, TurnLog, begun_by}
use Rattle.run_meaning.specs.Turns.{Begun}
use Rattle.run_text.specs.declared.style.Style.{Style}
use Rattle.site_edge.specs.Lists.{Adds, TakesFirst}
use Rattle.site_edge.specs.declared.order.Order.{Order}
use Rattle.site_edge.specs.declared.turn.Turn.{Turn}
use Rattle.site_edge.specs.declared.world_error.WorldError.{WorldError}
use Rattle.site_edge.specs.declared.world_error.WorldError.TheVariants as world
use Rattle.site_model.specs.PlainSite.{site_view}
use Rattle.turn_engine.specs.Ready.{EngineView}
use Rattle.turn_engine.specs.Stages.{Running, stage_of}
use Rattle.site_run.specs.Courses.{AreLogsOf, Course, IsNextLog, behind_over, calls_over, course_of, orders_over, text_of, text_over}
use Rattle.site_run.specs.Ends.{Ends, EndsBehind, HandsOn, IsAt, IsBefore, IsBetween, IsGone, IsInLines, IsInOrders, IsPartStarted, IsPartWritten, Outside, Stands, StopsIn, StopsTurn, Takes}
use Rattle.site_run.specs.Feeds.{Changing, Giving, basis_fed, feed_after}
use Rattle.site_run.specs.Starts.{calls_with, started_of}
use Rattle.site_run.specs.Stops.{status_of, stop_of_world}
use Rattle.site_run.specs.declared.status.Status.{Status}
use Rattle.site_run.specs.declared.status.Status.TheVariants as status
use Rattle.site_run.specs.declared.stop.Stop.{Stop}
use Rattle.site_run.specs.declared.stop.Stop.TheVariants as stop
use Rattle.site_run.proofs.Adding.{adds_same, at_more, at_within, none_left, started_within, takes_first, takes_nothing, written_within}
use Rattle.site_run.proofs.Fed.{feed_more}
use Rattle.site_run.proofs.Going.{behind_joined, calls_then, logs_then, orders_then, text_then}

-- so many turns are done, and engine and feed stand behind them
pub record IsOnWay {F : Type 0} (callers : ℕ) (c : Course) (after : Changing F) (first : F) (count : ℕ) (engine : EngineView) (feed : F) (old new : Outside) : Type 0 where
  pub done : List Turn
  pub logs : List TurnLog
  pub many : length done ≡ count
  pub are : AreLogsOf callers c done logs
  pub stands : Stands c after first done logs engine feed
  pub at : IsBetween c done logs old new

-- the course of an engine that stands behind some turns is the run behind them
pub course_is : {F : Type 0} (r r0 : Running) (begun : List Begun) (style : Style) (gives : Giving F) (after : Changing F) (first : F) (st : Stage) → r.site ≡ r0.site → r.zone ≡ r0.zone → stage_of r begun ≡ st
    → course_of r begun style gives after first ≡ record { basis = basis_fed (site_view r0.site) r0.zone gives after first; stage = st; style = style }
course_is r r0 begun style gives after first st site zone stage =
    λ i. record { basis = basis_fed (site_view (site i)) (zone i) gives after first; stage = stage i; style = style }

-- nothing was written, handed on or started
pub record IsStill (m n : Outside) : Type 0 where
  pub started : n.started ≡ m.started
  pub calls : n.calls ≡ m.calls
  pub written : n.written ≡ m.written
  pub kept_back : n.kept_back ≡ m.kept_back

-- and nothing was taken
unchanged : (c : Course) (done : List Turn) (ls : List TurnLog) (o m n : Outside) → n.turns ≡ m.turns → IsStill m n → IsBetween c done ls o m → IsBetween c done ls o n
unchanged c done ls o m n t still p = (
  record {
    turns = subst (Takes done o.turns) (sym t) p.0.turns;
    written = subst (Adds (text_over c ls) o.written) (sym still.written) p.0.written;
    started = subst (Adds (orders_over ls) o.started) (sym still.started) p.0.started;
    calls = subst (Adds (calls_over ls) o.calls) (sym still.calls) p.0.calls;
  },
  λ h. still.kept_back ∙ p.1 h,
)

-- one turn more was taken
pub before_turn : (c : Course) (done : List Turn) (ls : List TurnLog) (t : Turn) (o m n : Outside) → TakesFirst m.turns n.turns (Some t) → IsStill m n → IsBetween c done ls o m → IsBefore c done ls t o n
before_turn c done ls t o m n first still p = (by, λ h. still.kept_back ∙ p.1 h)
  where
    taken : IsAt (t ∷ []) [] [] [] m n
    taken = record {
      turns = takes_first t m.turns n.turns first;
      written = adds_same m.written n.written still.written;
      started = adds_same m.started n.started still.started;
      calls = adds_same m.calls n.calls still.calls;
    }

    by : IsAt (done ++ t ∷ []) (text_over c ls) (orders_over ls) (calls_over ls) o n
    by =
        subst (λ w. IsAt (done ++ t ∷ []) w (orders_over ls) (calls_over ls) o n) (append-nil (text_over c ls))
        (subst (λ os. IsAt (done ++ t ∷ []) (text_over c ls ++ []) os (calls_over ls) o n) (append-nil (orders_over ls))
        (subst (λ ks. IsAt (done ++ t ∷ []) (text_over c ls ++ []) (orders_over ls ++ []) ks o n) (append-nil (calls_over ls))
        (at_more done (t ∷ []) (text_over c ls) [] (orders_over ls) [] (calls_over ls) [] o m n p.0 taken)))

-- a turn with this log was gone through
pub one_done : (c : Course) (done : List Turn) (ls : List TurnLog) (t : Turn) (l : TurnLog) (o m n : Outside) → IsBefore c done ls t o m
    → IsAt [] (text_of c l) (started_of l.orders) (calls_with (started_of l.orders)) m n → n.kept_back ≡ 0 → IsBetween c (done ++ t ∷ []) (ls ++ l ∷ []) o n
one_done c done ls t l o m n p q through = (
  subst (λ w. IsAt (done ++ t ∷ []) w (orders_over (ls ++ l ∷ [])) (calls_over (ls ++ l ∷ [])) o n) (sym (text_then c ls l))
      (subst (λ os. IsAt (done ++ t ∷ []) (text_over c ls ++ text_of c l) os (calls_over (ls ++ l ∷ [])) o n) (sym (orders_then ls l))
      (subst (λ ks. IsAt (done ++ t ∷ []) (text_over c ls ++ text_of c l) (orders_over ls ++ started_of l.orders) ks o n) (sym (calls_then ls l))
      (at_within (done ++ t ∷ []) (text_over c ls) _ (orders_over ls) _ (calls_over ls) _ o m n p.0 q))),
  λ h. through,
)

in_lines : (c : Course) (done : List Turn) (ls : List TurnLog) (t : Turn) (l : TurnLog) (o m n : Outside) → IsBefore c done ls t o m → IsPartWritten [] [] (text_of c l) [] [] m n → IsInLines c done ls t l o n
in_lines c done ls t l o m n p q = written_within (done ++ t ∷ []) (text_over c ls) _ (orders_over ls) (calls_over ls) o m n p.0 q

in_orders : (c : Course) (done : List Turn) (ls : List TurnLog) (t : Turn) (l : TurnLog) (o m n : Outside) → IsBefore c done ls t o m → IsPartStarted [] (text_of c l) [] (started_of l.orders) [] m n → IsInOrders c done ls t l o n
in_orders c done ls t l o m n p q = started_within (done ++ t ∷ []) (text_over c ls) _ (orders_over ls) _ (calls_over ls) o m n p.0 q

-- or it wasn't
pub stopped : (callers : ℕ) (s : Stop) (c : Course) (limit : ℕ) (stands : List Turn → List TurnLog → Type 0) (done : List Turn) (ls : List TurnLog) (t : Turn) (o m n : Outside) → length done < limit → AreLogsOf callers c done ls → IsBefore c done ls t o m
    → StopsTurn callers (behind_over c done ls) t s m n → Ends (status_of s) callers c limit stands o n
stopped callers s c limit stands done ls t o m n few are p q = record { done = done; logs = ls; few = omega (arith, few); are = are; ends = by s q }
  where
    in_log : (s : Stop) (l : TurnLog) → IsNextLog callers c done ls t l → StopsIn s (text_of c l) (started_of l.orders) m n → EndsBehind (status_of s) callers c limit stands done ls o n
    in_log stop.Sink l is q = (few, (t, (l, is, in_lines c done ls t l o m n p q)))
    in_log stop.World l is q = inr (few, (t, (l, is, in_orders c done ls t l o m n p q)))
    in_log stop.OutOfMemory l is (inl q) = inr (few, (t, inr (l, is, inl (in_lines c done ls t l o m n p q))))
    in_log stop.OutOfMemory l is (inr q) = inr (few, (t, inr (l, is, inr (in_orders c done ls t l o m n p q))))

    by : (s : Stop) → StopsTurn callers (behind_over c done ls) t s m n → EndsBehind (status_of s) callers c limit stands done ls o n
    by s (inl (none, same)) =
        subst (λ x. EndsBehind (status_of x) callers c limit stands done ls o n) (sym none) (inr (few, (t, inl (subst (IsBefore c done ls t o) (sym same) p))))
    by s (inr (l, is, q)) = in_log s l is q

-- what is asked of where engine and feed stand may be less
pub less_asked : (s : Status) (callers : ℕ) (c : Course) (limit : ℕ) (P Q : List Turn → List TurnLog → Type 0) (o n : Outside) → ((done : List Turn) (ls : List TurnLog) → P done ls → Q done ls) → Ends s callers c limit P o n → Ends s callers c limit Q o n
less_asked s callers c limit P Q o n h e = record { done = e.done; logs = e.logs; few = e.few; are = e.are; ends = by s e.ends }
  where
    by : (s : Status) → EndsBehind s callers c limit P e.done e.logs o n → EndsBehind s callers c limit Q e.done e.logs o n
    by status.Done x = (h e.done e.logs x.0, x.1, x.2)
    by status.TurnsSpent x = x
    by status.WriteFault x = x
    by status.WorldFault x = x
    by status.OutOfMemory x = x
    by status.Diagnosed x = absurd x
    by status.Usage x = absurd x
    by status.ReadFault x = absurd x
    by status.NotLegal x = absurd x

-- what is kept back when it ends
pub hands_on : (s : Status) (callers : ℕ) (c : Course) (limit : ℕ) (stands : List Turn → List TurnLog → Type 0) (o n : Outside) → Ends s callers c limit stands o n → o.kept_back ≡ 0 → HandsOn s n.kept_back
hands_on s callers c limit stands o n e h = by s e.ends
  where
    by : (s : Status) → EndsBehind s callers c limit stands e.done e.logs o n → HandsOn s n.kept_back
    by status.Done x = x.1.1 h
    by status.TurnsSpent x = x.1.1.1 h
    by status.WorldFault (inl x) = x.1 h
    by status.WorldFault (inr (less, (t, x))) = x.2.through
    by status.WriteFault x = tt
    by status.OutOfMemory x = tt
    by status.Diagnosed x = absurd x
    by status.Usage x = absurd x
    by status.ReadFault x = absurd x
    by status.NotLegal x = absurd x

-- From turn to turn.

module _ {F : Type 0} (callers : ℕ) (r : Running) (style : Style) (gives : Giving F) (after : Changing F) (first : F) (count limit : ℕ) (engine : EngineView) (feed : F) (o m : Outside) where
  abbrev c : Course
  c = course_of r [] style gives after first

  module _ (few : count ≤ limit) (way : IsOnWay callers c after first count engine feed o m) where
    few_done : length way.done ≤ limit
    few_done = let n = way.many in omega (arith, few, n)

    -- the world gave no turn since it failed
    pub failed : (e : WorldError) (stands : List Turn → List TurnLog → Type 0) (n : Outside) → n.turns ≡ m.turns → IsStill m n → Ends (status_of (stop_of_world e)) callers c limit stands o n
    failed e stands n t still = by e (unchanged c way.done way.logs o m n t still way.at)
      where
        by : (e : WorldError) → IsBetween c way.done way.logs o n → Ends (status_of (stop_of_world e)) callers c limit stands o n
        by world.Failed p = record { done = way.done; logs = way.logs; few = few_done; are = way.are; ends = inl p }
        by world.OutOfMemory p = record { done = way.done; logs = way.logs; few = few_done; are = way.are; ends = inl p }

    -- it had no more
    pub all_done : (n : Outside) → TakesFirst m.turns n.turns None → IsStill m n → Ends status.Done callers c limit (λ done ls. Stands c after first done ls engine feed) o n
    all_done n none still = record {
      done = way.done;
      logs = way.logs;
      few = few_done;
      are = way.are;
      ends = (way.stands, unchanged c way.done way.logs o m n (takes_nothing m.turns n.turns none) still way.at, none_left m.turns n.turns none);
    }

    -- it gave one more than may be taken
    pub spent : (t : Turn) (stands : List Turn → List TurnLog → Type 0) (n : Outside) → count ≡ limit → TakesFirst m.turns n.turns (Some t) → IsStill m n → Ends status.TurnsSpent callers c limit stands o n
    spent t stands n all one still = record { done = way.done; logs = way.logs; few = few_done; are = way.are; ends = (way.many ∙ all, (t, before_turn c way.done way.logs t o m n one still way.at)) }

    -- it gave one

    abbrev pub begun : List Begun
    begun = (behind_over c way.done way.logs).stage.begun

    abbrev pub next : Course
    next = course_of engine.run begun style gives after first

    module _ (t : Turn) (n : Outside) (site : engine.run.site ≡ r.site) (zone : engine.run.zone ≡ r.zone) (more : count < limit) (one : TakesFirst m.turns n.turns (Some t)) (still : IsStill m n) where
      next_is : next ≡ behind_over c way.done way.logs
      next_is = course_is engine.run r begun style gives after first (behind_over c way.done way.logs).stage site zone way.stands.stage

      before : IsBefore c way.done way.logs t o n
      before = before_turn c way.done way.logs t o m n one still way.at

      -- in which the run stops
      pub stops : (why : Stop) (stands : List Turn → List TurnLog → Type 0) (x : Outside) → StopsTurn callers next t why n x → Ends (status_of why) callers c limit stands o x
      stops why stands x p =
          let k = way.many in
          stopped callers why c limit stands way.done way.logs t o n x (omega (arith, k, more)) way.are before (subst (λ (d : Course). StopsTurn callers d t why n x) next_is p)

      -- or behind which it goes on
      pub goes_on : (x : Outside) (moved : EngineView) (fed : F) → IsGone callers next t (stage_of moved.run (begun_by (stage_of engine.run begun) moved.run.moment)) n x → moved.spent ≡ false
          → fed ≡ after feed engine.run.histories moved.run.moment → IsOnWay callers c after first (count + 1) moved fed o x
      goes_on x moved fed gone fresh fed_is =
          let reached_by = stage_of moved.run (begun_by (stage_of engine.run begun) moved.run.moment) in
          let g : IsGone callers (behind_over c way.done way.logs) t reached_by n x = subst (λ (d : Course). IsGone callers d t reached_by n x) next_is gone in
          let now : Begun = record { histories = engine.run.histories; moment = moved.run.moment } in
          let reached : reached_by ≡ (behind_over c (way.done ++ t ∷ []) (way.logs ++ g.log ∷ [])).stage = g.after ∙ sym (behind_joined callers c way.done (t ∷ []) way.logs (g.log ∷ []) way.are) in
          let so : begun ++ now ∷ [] ≡ (behind_over c (way.done ++ t ∷ []) (way.logs ++ g.log ∷ [])).stage.begun = ap (λ (st : Stage). st.begun) reached in
          record {
            done = way.done ++ t ∷ [];
            logs = way.logs ++ g.log ∷ [];
            many = (let l = length-append way.done (t ∷ []) in let k = way.many in omega (arith, l, k));
            are = logs_then callers c way.done way.logs t g.log way.are g.is;
            stands = record {
              fresh = fresh;
              stage = ap (stage_of moved.run) (sym so) ∙ reached;
              feed = fed_is ∙ ap (λ f. after f engine.run.histories moved.run.moment) way.stands.feed ∙ sym (feed_more after first begun now) ∙ ap (feed_after after first) so;
            };
            at = one_done c way.done way.logs t g.log o n x before g.at g.through;
          }
