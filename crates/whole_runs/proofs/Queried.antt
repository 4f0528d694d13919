-- What a run leaves, by how it ended.
use Rattle.std.proofs.Common.{◌≡◌, ◌<◌, ◌≤◌, ◌+◌, ℕ, List, [], ◌∷◌, ◌++◌, length, map, Option, Some, None, refl, sym, ap, ◌∙◌, subst, arith, length-append}
use Rattle.std.proofs.lemmas.List.{append-nil}
use Rattle.jiff_tz.specs.declared.tzif.Tzif.{Tzif}
use Rattle.run_meaning.specs.Runs.{IsRunFrom, Stage, TurnLog, stage_by, start}
use Rattle.run_meaning.specs.Turns.{Histories}
use Rattle.run_text.specs.TurnReading.{turn_read}
use Rattle.run_text.specs.declared.style.Style.{Style}
use Rattle.run_text.proofs.ReadLaws.{turns_are, turns_are_read}
use Rattle.site_edge.specs.declared.turn.Turn.{Turn}
use Rattle.site_model.specs.PlainSite.{PlainSite, site_view}
use Rattle.site_model.specs.Sound.{HasNames}
use Rattle.site_query.specs.Answers.{answer_text}
use Rattle.site_query.specs.declared.query.Query.{Query}
use Rattle.site_edge.specs.declared.order.Order.{Order}
use Rattle.site_run.specs.Courses.{AreLogsOf, Course, behind_over, course_of, reads}
use Rattle.site_run.specs.Ends.{Ends, NoneLeft, Outside, Stands, Takes, outside}
use Rattle.site_run.specs.Feeds.{Changing, Giving, basis_with}
use Rattle.site_run.specs.Logs.{AreLogs, Given, given_by}
use Rattle.site_run.specs.declared.status.Status.TheVariants as status
use Rattle.turn_engine.specs.Ready.{EngineView, IsZoneOf}
use Rattle.turn_engine.specs.Stages.{Running, stage_of}
use Rattle.site_run.proofs.OneLog.{one_run, same_basis}
use Rattle.whole_runs.specs.Queried.{IsQueried, stage_left}

-- One caller leaves one thing.

stage_is : (s : PlainSite) (given : Given) (turns : List Turn) (ls : List TurnLog) → HasNames s → (p : AreLogs 1 s given turns ls)
    → stage_left 1 s given turns ls p ≡ stage_by (basis_with s p.zone given.fed) (start s given.histories) (map (turn_read s) turns) ls
stage_is s given turns ls names p = ap (λ reads. stage_by (basis_with s p.zone given.fed) (start s given.histories) reads ls) (turns_are s turns p.reads names p.read)

same_stage : (s : PlainSite) (given : Given) (turns : List Turn) (ls ms : List TurnLog) → HasNames s → (p : AreLogs 1 s given turns ls) → (q : AreLogs 1 s given turns ms)
    → stage_left 1 s given turns ls p ≡ stage_left 1 s given turns ms q
same_stage s given turns ls ms names p q =
    let reads = map (turn_read s) turns in
    stage_is s given turns ls names p
    ∙ ap (λ b. stage_by b (start s given.histories) reads ls) (same_basis s given.fed p.zone q.zone p.is_zone q.is_zone)
    ∙ ap (λ xs. stage_by (basis_with s q.zone given.fed) (start s given.histories) reads xs) (one_run s given turns ls ms names p q)
    ∙ sym (stage_is s given turns ms names q)

pub one_answer : (s : PlainSite) (given : Given) (turns : List Turn) (query : Query) (v w : List ℕ) → HasNames s → IsQueried 1 s given turns query v → IsQueried 1 s given turns query w → v ≡ w
one_answer s given turns query v w names p q =
    p.is ∙ ap (λ (st : Stage). answer_text s st.histories st.moment query) (same_stage s given turns p.logs q.logs names p.are q.are) ∙ sym q.is

-- What a run leaves.

all_taken : (turns done : List Turn) (new : Option (List Turn)) → Takes done (Some turns) new → NoneLeft new → done ≡ turns
all_taken turns done new t none =
    let left : t.0 ≡ [] = subst NoneLeft t.2 none in
    sym (t.1 ∙ ap (λ xs. done ++ xs) left ∙ append-nil done)

-- where one more came than were taken
pub more_came : (turns done : List Turn) (t : Turn) (limit : ℕ) (new : Option (List Turn)) → Takes (done ++ t ∷ []) (Some turns) new → length done ≡ limit → limit < length turns
more_came turns done t limit new x many =
    let all : length turns ≡ length ((done ++ t ∷ []) ++ x.0) = ap length x.1 in
    let both = length-append (done ++ t ∷ []) x.0 in
    let one = length-append done (t ∷ []) in
    omega (arith, all, both, one, many)

module _ {F : Type 0} (gives : Giving F) (after : Changing F) (first : F) (histories : Histories) (callers : ℕ) (someone : 1 ≤ callers) (r : Running) (style : Style) (begin : stage_of r [] ≡ start (site_view r.site) histories) (zone : IsZoneOf (site_view r.site).zone r.zone) (names : HasNames (site_view r.site)) where
  abbrev c : Course
  c = course_of r [] style gives after first

  abbrev s : PlainSite
  s = site_view r.site

  abbrev given : Given
  given = given_by histories gives after first

  abbrev are_logs : (turns : List Turn) (ls : List TurnLog) → AreLogsOf callers c turns ls → AreLogs callers s given turns ls
  are_logs turns ls are = record {
    zone = r.zone;
    is_zone = zone;
    reads = reads c turns;
    read = turns_are_read s turns names;
    run = record { someone = someone; turns = subst (λ st. IsRunFrom c.basis callers st (reads c turns) ls) begin are };
  }

  over : (turns : List Turn) (ls : List TurnLog) (are : AreLogsOf callers c turns ls) (new : Running) (query : Query) (text : List ℕ)
      → stage_of new (behind_over c turns ls).stage.begun ≡ (behind_over c turns ls).stage → text ≡ answer_text s new.histories new.moment query
      → IsQueried callers s given turns query text
  over turns ls are new query text stage is =
      let left = stage ∙ ap (λ st. stage_by c.basis st (reads c turns) ls) begin in
      record { logs = ls; are = are_logs turns ls are; is = is ∙ ap (λ (st : Stage). answer_text s st.histories st.moment query) left }

  -- the answer is over what it leaves, and so many turns were taken at most
  pub queried : (limit : ℕ) (turns : List Turn) (started : Option (List Order)) (calls : Option (List (List Order))) (written : Option (List ℕ)) (kept : ℕ) (engine : EngineView) (now : F) (out : Outside) (query : Query) (text : List ℕ)
      → Ends status.Done callers c limit (λ done ls. Stands c after first done ls engine now) (outside (Some turns) started calls written kept) out
      → text ≡ answer_text s engine.run.histories engine.run.moment query → (length turns ≤ limit) × IsQueried callers s given turns query text
  queried limit turns started calls written kept engine now out query text e is =
      let stands = e.ends.0 in
      let all = all_taken turns e.done out.turns e.ends.1.0.turns e.ends.2 in (
        subst (λ (ts : List Turn). length ts ≤ limit) all e.few,
        subst (λ ts. IsQueried callers s given ts query text) all (over e.done e.logs e.are engine.run query text stands.stage is),
      )

  -- nothing is answered where more turns came
  pub spent : (limit : ℕ) (turns : List Turn) (started : Option (List Order)) (calls : Option (List (List Order))) (written : Option (List ℕ)) (kept : ℕ) (stands : List Turn → List TurnLog → Type 0) (out : Outside)
      → Ends status.TurnsSpent callers c limit stands (outside (Some turns) started calls written kept) out → limit < length turns
  spent limit turns started calls written kept stands out e = more_came turns e.done e.ends.1.0 limit out.turns e.ends.1.1.0.turns e.ends.0
