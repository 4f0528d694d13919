-- More turns of a run.
use Rattle.std.proofs.Common.{◌≡◌, ◌≤◌, ℕ, List, [], ◌∷◌, ◌++◌, length, map, refl, sym, ap, ◌∙◌, subst, arith}
use Rattle.std.proofs.lemmas.Grind.{flat_map-append}
use Rattle.std.proofs.lemmas.List.{append-nil, map-append}
use Rattle.std.proofs.lemmas.List.Folds.{concat-append}
use Rattle.std.specs.List.{concat, flat_map}
use Rattle.run_meaning.specs.Alone.{run_alone, turn_alone}
use Rattle.run_meaning.specs.Runs.{Basis, IsRunFrom, IsTurn, Stage, TurnLog, stage_by}
use Rattle.run_meaning.specs.Turns.{ReadTurn}
use Rattle.run_meaning.proofs.Cutting.{alone_joined, is_joined, stage_joined}
use Rattle.run_meaning.proofs.OneLog.{only_log}
use Rattle.run_text.specs.LogText.{turn_lines}
use Rattle.run_text.specs.TurnReading.{turn_read}
use Rattle.site_edge.specs.declared.order.Order.{Order}
use Rattle.site_edge.specs.declared.turn.Turn.{Turn}
use Rattle.site_run.specs.Courses.{AreLogsOf, Course, IsNextLog, behind, behind_over, calls_over, log_of, logs, orders_over, reads, text_of, text_over}
use Rattle.site_run.specs.Starts.{calls_with, started_of}

-- Their text, the orders of them, and the calls by which these are started.

pub text_joined : (c : Course) (ls ms : List TurnLog) → text_over c (ls ++ ms) ≡ text_over c ls ++ text_over c ms
text_joined c ls ms =
    let lines = turn_lines c.style c.basis.rules.site in
    ap concat (flat_map-append lines ls ms) ∙ concat-append (flat_map lines ls) (flat_map lines ms)

pub orders_joined : (ls ms : List TurnLog) → orders_over (ls ++ ms) ≡ orders_over ls ++ orders_over ms
orders_joined ls ms = flat_map-append (λ (l : TurnLog). started_of l.orders) ls ms

calls_joined : (ls ms : List TurnLog) → calls_over (ls ++ ms) ≡ calls_over ls ++ calls_over ms
calls_joined ls ms = flat_map-append (λ (l : TurnLog). calls_with (started_of l.orders)) ls ms

-- One turn more.

pub text_then : (c : Course) (ls : List TurnLog) (l : TurnLog) → text_over c (ls ++ l ∷ []) ≡ text_over c ls ++ text_of c l
text_then c ls l = text_joined c ls (l ∷ []) ∙ ap (λ lines. text_over c ls ++ concat lines) (append-nil (turn_lines c.style c.basis.rules.site l))

pub orders_then : (ls : List TurnLog) (l : TurnLog) → orders_over (ls ++ l ∷ []) ≡ orders_over ls ++ started_of l.orders
orders_then ls l = orders_joined ls (l ∷ []) ∙ ap (λ os. orders_over ls ++ os) (append-nil (started_of l.orders))

pub calls_then : (ls : List TurnLog) (l : TurnLog) → calls_over (ls ++ l ∷ []) ≡ calls_over ls ++ calls_with (started_of l.orders)
calls_then ls l = calls_joined ls (l ∷ []) ∙ ap (λ ks. calls_over ls ++ ks) (append-nil (calls_with (started_of l.orders)))

reads_both : (c : Course) (done more : List Turn) → reads c (done ++ more) ≡ reads c done ++ reads c more
reads_both c done more = map-append (turn_read c.basis.rules.site) done more

pub logs_joined : (callers : ℕ) (c : Course) (done more : List Turn) (ls ms : List TurnLog) → AreLogsOf callers c done ls → AreLogsOf callers (behind_over c done ls) more ms → AreLogsOf callers c (done ++ more) (ls ++ ms)
logs_joined callers c done more ls ms are next =
    subst (λ rs. IsRunFrom c.basis callers c.stage rs (ls ++ ms)) (sym (reads_both c done more)) (is_joined c.basis callers c.stage (reads c done) (reads c more) ls ms are next)

pub logs_then : (callers : ℕ) (c : Course) (done : List Turn) (ls : List TurnLog) (t : Turn) (l : TurnLog) → AreLogsOf callers c done ls → IsNextLog callers c done ls t l → AreLogsOf callers c (done ++ t ∷ []) (ls ++ l ∷ [])
logs_then callers c done ls t l are is = logs_joined callers c done (t ∷ []) ls (l ∷ []) are (is, refl)

pub behind_joined : (callers : ℕ) (c : Course) (done more : List Turn) (ls ms : List TurnLog) → AreLogsOf callers c done ls → (behind_over c (done ++ more) (ls ++ ms)).stage ≡ (behind_over (behind_over c done ls) more ms).stage
behind_joined callers c done more ls ms are =
    ap (λ rs. stage_by c.basis c.stage rs (ls ++ ms)) (reads_both c done more) ∙ stage_joined c.basis callers c.stage (reads c done) (reads c more) ls ms are

-- The logs of one caller's turns are functions.

pub logs_both : (c : Course) (done more : List Turn) → logs c (done ++ more) ≡ logs c done ++ logs (behind c done) more
logs_both c done more = ap (run_alone c.basis c.stage) (reads_both c done more) ∙ alone_joined c.basis c.stage (reads c done) (reads c more)

first_of : {A : Type 0} (x y : A) → x ∷ [] ≡ y ∷ [] → x ≡ y
first_of x y e = cc

turn_is : (b : Basis) (st : Stage) (t : ReadTurn) (l : TurnLog) → IsTurn b 1 st t l → l ≡ turn_alone b st t
turn_is b st t l x = first_of l (turn_alone b st t) (only_log b st (t ∷ []) (l ∷ []) (record { someone = omega arith; turns = (x, refl) }))

pub logs_are : (c : Course) (ts : List Turn) (ls : List TurnLog) → AreLogsOf 1 c ts ls → ls ≡ logs c ts
logs_are c ts ls are = only_log c.basis c.stage (reads c ts) ls (record { someone = omega arith; turns = are })

pub log_is : (c : Course) (ts : List Turn) (t : Turn) (l : TurnLog) → IsNextLog 1 c ts (logs c ts) t l → l ≡ log_of (behind c ts) t
log_is c ts t l is = turn_is c.basis (behind c ts).stage (turn_read c.basis.rules.site t) l is
