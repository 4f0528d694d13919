-- How far a log came tells what was written.
use Rattle.std.proofs.Common.{◌≡◌, ◌<◌, ◌≤◌, ℕ, nat_lt, cond, Bool, true, false, List, [], ◌∷◌, ◌++◌, length, take, Option, Some, None, ◌⊎◌, inl, inr, refl, sym, ap, ◌∙◌, subst, append_assoc}
use Rattle.std.proofs.lemmas.Bool.{le-ltb, lt-ltb}
use Rattle.std.proofs.lemmas.List.Folds.{concat-append}
use Rattle.std.specs.List.{concat, flat_map}
use Rattle.jiff_tz.specs.declared.tzif.Tzif.{Tzif}
use Rattle.run_meaning.specs.Runs.{TurnLog, start}
use Rattle.run_meaning.specs.Turns.{Histories}
use Rattle.run_text.specs.LogText.{first_lines, log_text, turn_lines}
use Rattle.run_text.specs.declared.style.Style.{Style}
use Rattle.run_text.proofs.ReadLaws.{turns_are_read}
use Rattle.site_edge.specs.Lists.{Adds, AddsPart}
use Rattle.site_edge.specs.declared.order.Order.{Order}
use Rattle.site_edge.specs.declared.turn.Turn.{Turn}
use Rattle.site_model.specs.PlainSite.{PlainSite, site_view}
use Rattle.site_model.specs.Sound.{HasNames}
use Rattle.turn_engine.specs.Ready.{IsZoneOf}
use Rattle.turn_engine.specs.Stages.{Running, stage_of}
use Rattle.site_run.specs.Courses.{AreLogsOf, Course, behind_over, course_of, reads, text_over}
use Rattle.site_run.specs.Feeds.{Changing, Giving, basis_with, lines_fed}
use Rattle.site_run.specs.Ends.{TurnsCame, Ends, Outside, Takes, WritesText, outside}
use Rattle.site_run.specs.Logs.{AnswersWorld, EndsOne, EndsRun, EndsOutput, Given, IsAtFirst, IsLog, IsOverTurns, Output, course_from_start, given_by}
use Rattle.site_run.specs.declared.status.Status.{Status}
use Rattle.site_run.specs.declared.status.Status.TheVariants as status
use Rattle.site_run.proofs.Adding.{adds_more, adds_none, adds_part, part_of, takes_none}
use Rattle.site_run.proofs.Going.{logs_joined}
use Rattle.site_run.proofs.OnSite.{more_logs}
use Rattle.site_run.proofs.Told.{tells_as}

-- Parts.

part_longer : {A : Type 0} (a b : List A) (o n : Option (List A)) → AddsPart a o n → AddsPart (a ++ b) o n
part_longer a b o n p =
    let q = part_of a o n p in
    subst (λ xs. AddsPart xs o n) (sym (ap (λ xs. xs ++ b) q.2 ∙ append_assoc q.0 q.1 b)) (adds_part q.0 (q.1 ++ b) o n q.3)

part_behind : {A : Type 0} (a b : List A) (o m n : Option (List A)) → Adds a o m → AddsPart b m n → AddsPart (a ++ b) o n
part_behind a b o m n p r =
    let q = part_of b m n r in
    subst (λ xs. AddsPart xs o n) (append_assoc a q.0 q.1 ∙ ap (λ xs. a ++ xs) (sym q.2)) (adds_part (a ++ q.0) q.1 o n (adds_more a q.0 o m n p q.3))

nothing_taken : (o n : Option (List Turn)) → Takes [] o n → n ≡ o
nothing_taken None n p = p
nothing_taken (Some all) n p = p.2 ∙ ap Some (sym p.1)

some_came : (told : Option (List Turn)) → (came : List Turn) × TurnsCame told came
some_came None = ([], tt)
some_came (Some ts) = (ts, refl)

-- How a run ends in which nothing fails.

abbrev end_of : Bool → Status
end_of b = cond b status.TurnsSpent status.Done

module _ (callers : ℕ) (someone : 1 ≤ callers) (style : Style) (limit : ℕ) (s : PlainSite) (given : Given) (names : HasNames s) (zone : Option Tzif) (is_zone : IsZoneOf s.zone zone) where
  abbrev c : Course
  c = course_from_start s zone given style

  abbrev whole : List Turn → List TurnLog → Output
  whole came ls = record { text = log_text style s ls; ends = end_of (nat_lt limit (length came)) }

  is_log : (came : List Turn) (ls : List TurnLog) → AreLogsOf callers c (take limit came) ls → IsLog callers style limit s given came (whole came ls)
  is_log came ls are = record {
    logs = ls;
    are = record {
      zone = zone;
      is_zone = is_zone;
      reads = reads c (take limit came);
      read = turns_are_read s (take limit came) names;
      run = record { someone = someone; turns = are };
    };
    text = refl;
    ends = refl;
  }

  text_is : (came : List Turn) (ls : List TurnLog) → (whole came ls).text ≡ concat (first_lines style) ++ text_over c ls
  text_is came ls = concat-append (first_lines style) (flat_map (turn_lines style s) ls)

  one : (x : Status) (turns : Option (List Turn)) (came : List Turn) (ls : List TurnLog) (o n : Option (List ℕ)) → TurnsCame turns came → AreLogsOf callers c (take limit came) ls → EndsOutput x (whole came ls) o n → EndsOne x (AnswersWorld callers style limit given turns s) o n
  one x turns came ls o n told are e = (whole came ls, record { came = came; told = told; log = is_log came ls are }, e)

  -- in what stands before the first turn
  pub first_written : (x : Status) (old new : Outside) → IsAtFirst x style old new → EndsRun x (AnswersWorld callers style limit given old.turns s) old.written new.written
  first_written x old new p =
      let some = some_came old.turns in
      let logs = more_logs s zone given.fed callers given.histories [] [] refl (take limit some.0) in
      let part : AddsPart (concat (first_lines style)) old.written new.written = subst (λ xs. AddsPart xs old.written new.written) (sym p.at.are) (adds_part p.at.part p.at.rest old.written new.written p.at.at.written) in
      let all : AddsPart (whole some.0 logs.0).text old.written new.written = subst (λ xs. AddsPart xs old.written new.written) (sym (text_is some.0 logs.0)) (part_longer (concat (first_lines style)) (text_over c logs.0) old.written new.written part) in
      elim p.cause [
        | inl e ↦ subst (λ y. EndsRun y (AnswersWorld callers style limit given old.turns s) old.written new.written) (sym e) (one status.WriteFault old.turns some.0 logs.0 old.written new.written some.1 logs.1 all)
        | inr e ↦ subst (λ y. EndsRun y (AnswersWorld callers style limit given old.turns s) old.written new.written) (sym e) (inr (one status.OutOfMemory old.turns some.0 logs.0 old.written new.written some.1 logs.1 all))
      ]

  -- over turns
  module _ (turns : Option (List Turn)) (o m n : Option (List ℕ)) (first : Adds (concat (first_lines style)) o m) (came : List Turn) (ls : List TurnLog) (told : TurnsCame turns came) (are : AreLogsOf callers c (take limit came) ls) where
    all_written : Adds (text_over c ls) m n → Adds (whole came ls).text o n
    all_written p = subst (λ xs. Adds xs o n) (sym (text_is came ls)) (adds_more (concat (first_lines style)) (text_over c ls) o m n first p)

    part_written : AddsPart (text_over c ls) m n → AddsPart (whole came ls).text o n
    part_written p = subst (λ xs. AddsPart xs o n) (sym (text_is came ls)) (part_behind (concat (first_lines style)) (text_over c ls) o m n first p)

    over : (x : Status) → (x ≡ status.Diagnosed → ⊥) → (x ≡ status.Usage → ⊥) → (x ≡ status.ReadFault → ⊥) → (x ≡ status.NotLegal → ⊥) → WritesText x limit came (text_over c ls) m n → EndsRun x (AnswersWorld callers style limit given turns s) o n
    over status.Done d u r v w = one status.Done turns came ls o n told are (ap end_of (le-ltb limit (length came) w.0), all_written w.1)
    over status.TurnsSpent d u r v w = one status.TurnsSpent turns came ls o n told are (ap end_of (lt-ltb limit (length came) w.0), all_written w.1)
    over status.WriteFault d u r v w = one status.WriteFault turns came ls o n told are (part_written w)
    over status.WorldFault d u r v w = one status.WorldFault turns came ls o n told are (part_written w)
    over status.OutOfMemory d u r v w = inr (one status.OutOfMemory turns came ls o n told are (part_written w))
    over status.Diagnosed d u r v w = absurd (d refl)
    over status.Usage d u r v w = absurd (u refl)
    over status.ReadFault d u r v w = absurd (r refl)
    over status.NotLegal d u r v w = absurd (v refl)

-- a run ends with none of these
never : (callers : ℕ) (c : Course) (limit : ℕ) (stands : List Turn → List TurnLog → Type 0) (old new : Outside) (x : Status) → Ends x callers c limit stands old new → (x ≡ status.Diagnosed → ⊥) × (x ≡ status.Usage → ⊥) × (x ≡ status.ReadFault → ⊥) × (x ≡ status.NotLegal → ⊥)
never callers c limit stands old new x e = (
  λ is. (subst (λ y. Ends y callers c limit stands old new) is e).ends,
  λ is. (subst (λ y. Ends y callers c limit stands old new) is e).ends,
  λ is. (subst (λ y. Ends y callers c limit stands old new) is e).ends,
  λ is. (subst (λ y. Ends y callers c limit stands old new) is e).ends,
)

pub over_written : (callers : ℕ) → 1 ≤ callers → (style : Style) (limit : ℕ) (s : PlainSite) (given : Given) (names : HasNames s) (x : Status) (old new : Outside) → IsOverTurns x callers style limit s given old new → EndsRun x (AnswersWorld callers style limit given old.turns s) old.written new.written
over_written callers someone style limit s given names x old new p =
    let c = course_from_start s p.zone given style in
    let t = tells_as callers c limit p.begun new x (λ _ _. Unit {0}) p.ends in
    let none = never callers c limit (λ _ _. Unit {0}) p.begun new x p.ends in
    let rest = more_logs s p.zone given.fed callers given.histories t.taken t.logs t.are t.more in
    let behind = behind_over c t.taken t.logs in
    let ends : t.more ≡ [] → rest.0 ≡ [] = λ e. subst (λ ts. AreLogsOf callers behind ts rest.0) e rest.1 in
    let all : AreLogsOf callers c (take limit t.came) (t.logs ++ rest.0) = subst (λ ts. AreLogsOf callers c ts (t.logs ++ rest.0)) (sym t.front) (logs_joined callers c t.taken t.more t.logs rest.0 t.are rest.1) in
    over callers someone style limit s given names p.zone p.is_zone old.turns old.written p.begun.written new.written p.first.written t.came (t.logs ++ rest.0)
    (subst (λ turns. TurnsCame turns t.came) (nothing_taken old.turns p.begun.turns p.first.turns) t.told) all x none.0 none.1 none.2 none.3 (t.written rest.0 ends)

module _ {F : Type 0} (gives : Giving F) (after : Changing F) (first : F) (histories : Histories) where
  -- the run of an engine before its first turn
  from_start : (r : Running) (style : Style) → stage_of r [] ≡ start (site_view r.site) histories
      → course_of r [] style gives after first ≡ course_from_start (site_view r.site) r.zone (given_by histories gives after first) style
  from_start r style begin = λ i. record { basis = basis_with (site_view r.site) r.zone (lines_fed gives after first); stage = begin i; style = style }

  -- it is over turns once what stands before the first one is written
  pub over_turns : (callers : ℕ) (x : Status) (style : Style) (limit : ℕ) (r : Running) (turns : Option (List Turn)) (started : Option (List Order)) (calls : Option (List (List Order))) (w v : Option (List ℕ)) (b d : ℕ) (new : Outside)
      → IsZoneOf (site_view r.site).zone r.zone → stage_of r [] ≡ start (site_view r.site) histories → Adds (concat (first_lines style)) w v → d ≡ 0
      → Ends x callers (course_of r [] style gives after first) limit (λ _ _. Unit {0}) (outside turns started calls v d) new
      → IsOverTurns x callers style limit (site_view r.site) (given_by histories gives after first) (outside turns started calls w b) new
  over_turns callers x style limit r turns started calls w v b d new zone begin first_written through ends = record {
    zone = r.zone;
    is_zone = zone;
    begun = outside turns started calls v d;
    first = record { turns = takes_none turns; written = first_written; started = adds_none started; calls = adds_none calls };
    through = through;
    ends = subst (λ c. Ends x callers c limit (λ _ _. Unit {0}) (outside turns started calls v d) new) (from_start r style begin) ends;
  }

-- and before that at first
pub at_first : (x : Status) (style : Style) (turns : Option (List Turn)) (started : Option (List Order)) (calls : Option (List (List Order))) (w v : Option (List ℕ)) (b d : ℕ) → (x ≡ status.WriteFault) ⊎ (x ≡ status.OutOfMemory)
    → AddsPart (concat (first_lines style)) w v → IsAtFirst x style (outside turns started calls w b) (outside turns started calls v d)
at_first x style turns started calls w v b d cause p =
    let q = part_of (concat (first_lines style)) w v p in
    record { cause = cause; at = record { part = q.0; rest = q.1; are = q.2; at = record { turns = takes_none turns; written = q.3; started = adds_none started; calls = adds_none calls } } }
