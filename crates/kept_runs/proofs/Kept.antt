-- Entries that are kept from turn to turn.
use Rattle.std.proofs.Common.{◌≡◌, ◌<◌, ◌≤◌, ◌+◌, ℕ, suc, false, List, [], ◌∷◌, ◌++◌, length, map, Option, refl, sym, ap, ◌∙◌, subst, arith, append_assoc, length-append}
use Rattle.std.proofs.lemmas.List.{append-nil}
use Rattle.jiff_tz.specs.declared.tzif.Tzif.{Tzif}
use Rattle.run_meaning.specs.Runs.{IsRunFrom, IsTurn, Stage, TurnLog, begun_by, joined, no_entries, stage_after, stage_by, start}
use Rattle.run_meaning.specs.Turns.{Begun, Histories}
use Rattle.run_meaning.proofs.Lists.{length_map}
use Rattle.run_text.specs.TurnReading.{turn_read}
use Rattle.run_text.proofs.ReadLaws.{turns_are, turns_are_read}
use Rattle.site_edge.specs.declared.turn.Turn.{Turn}
use Rattle.site_keep.specs.StateFile.{lines_of, state_file}
use Rattle.site_model.specs.PlainSite.{PlainSite, site_view}
use Rattle.site_model.specs.Sound.{HasNames, IsSound}
use Rattle.site_model.specs.declared.site.Site.{Site}
use Rattle.site_run.specs.Courses.{AreLogsOf, Course, IsNextLog, behind_over, reads}
use Rattle.site_run.specs.Feeds.{basis_with}
use Rattle.site_run.specs.Logs.{AreLogs, Given, nothing_given}
use Rattle.site_run.proofs.Going.{behind_joined, logs_then}
use Rattle.site_run.proofs.OneLog.{one_run, same_basis}
use Rattle.turn_engine.specs.Ready.{EngineView, IsZoneOf}
use Rattle.turn_engine.specs.Stages.{Running, TellsTurn, basis_of_site, stage_of}
use Rattle.turn_engine.specs.declared.turn_out.TurnOut.{TurnOut}
use Rattle.kept_runs.specs.Keeping.{Keeps, course}
use Rattle.kept_runs.specs.Kept.{IsKept, histories_left}

joined_whole : (hs round : Histories) → length round ≡ length hs → length (joined hs round) ≡ length hs
joined_whole [] [] many = refl
joined_whole [] (r ∷ round) many = absurd (omega (arith, many))
joined_whole (g ∷ hs) [] many = refl
joined_whole (g ∷ hs) (r ∷ round) many = ap suc (joined_whole hs round (omega (arith, many)))

-- From turn to turn.

pub sound_as : {x y : Site} → x ≡ y → IsSound (site_view x) → IsSound (site_view y)
sound_as same sound = subst (λ (z : Site). IsSound (site_view z)) same sound

module _ (callers : ℕ) (r : Running) where
  abbrev c : Course
  c = course r

  abbrev s : PlainSite
  s = site_view r.site

  pub begun : stage_of r [] ≡ start s (no_entries s) → (turns left : List Turn) (engine : EngineView) (lines : List (List (List ℕ))) → left ≡ turns → engine.run ≡ r → engine.spent ≡ false → lines ≡ lines_of s (no_entries s)
      → Keeps callers r turns left engine lines
  begun begin turns left engine lines is at fresh none = record {
    done = [];
    logs = [];
    both = is;
    are = refl;
    stage = ap (λ (x : Running). stage_of x []) at;
    fresh = fresh;
    site = ap (λ (x : Running). x.site) at;
    zone = ap (λ (x : Running). x.zone) at;
    lines = none ∙ ap (lines_of s) (sym (ap (λ (x : Running). x.histories) at ∙ ap (λ (st : Stage). st.histories) begin));
    whole = ap length (ap (λ (x : Running). x.histories) at ∙ ap (λ (st : Stage). st.histories) begin) ∙ length_map (λ _. []) s.checkables;
    turns = ap (λ (x : Running). x.turns) at ∙ ap (λ (st : Stage). st.turns) begin;
  }

  module _ (turns left : List Turn) (t : Turn) (engine : EngineView) (lines : List (List (List ℕ))) (k : Keeps callers r turns (t ∷ left) engine lines) where
    abbrev pub ahead : List Begun
    ahead = (behind_over c k.done k.logs).stage.begun

    -- one more may be taken
    pub fewer : (limit : ℕ) → length turns ≤ limit → engine.run.turns < limit
    fewer limit few = let n = k.turns in let l = ap length k.both in let m = length-append k.done (t ∷ left) in omega (arith, few, n, l, m)

    abbrev Taken : TurnOut → EngineView → Type 0
    Taken out moved =
        TellsTurn (basis_of_site (site_view engine.run.site) engine.run.zone) callers (stage_of engine.run ahead) (turn_read (site_view engine.run.site) t) out (stage_of moved.run (begun_by (stage_of engine.run ahead) moved.run.moment))

    module _ (out : TurnOut) (moved : EngineView) (x : Taken out moved) where
      is_turn : IsTurn (basis_of_site s r.zone) callers (stage_of engine.run ahead) (turn_read s t) x.log
      is_turn =
          subst (λ (z : Option Tzif). IsTurn (basis_of_site s z) callers (stage_of engine.run ahead) (turn_read s t) x.log) k.zone
          (subst (λ (y : Site). IsTurn (basis_of_site (site_view y) engine.run.zone) callers (stage_of engine.run ahead) (turn_read (site_view y) t) x.log) k.site x.is)

      is_next : IsNextLog callers c k.done k.logs t x.log
      is_next = subst (λ (st : Stage). IsTurn (basis_of_site s r.zone) callers st (turn_read s t) x.log) k.stage is_turn

      -- each checkable has its entries of the turn
      pub round_whole : length x.log.round ≡ length engine.run.histories
      round_whole = is_turn.round.whole ∙ sym k.whole

      reached : stage_of moved.run (begun_by (stage_of engine.run ahead) moved.run.moment) ≡ (behind_over c (k.done ++ t ∷ []) (k.logs ++ x.log ∷ [])).stage
      reached =
          x.after
          ∙ (λ i. stage_after (basis_of_site (site_view (k.site i)) (k.zone i)) (k.stage i) (turn_read (site_view (k.site i)) t) x.log)
          ∙ sym (behind_joined callers c k.done (t ∷ []) k.logs (x.log ∷ []) k.are)

      pub keeps_on : moved.run.site ≡ engine.run.site → moved.run.zone ≡ engine.run.zone → moved.spent ≡ false → (more : List (List (List ℕ))) → more ≡ lines_of s (joined engine.run.histories x.log.round) → Keeps callers r turns left moved more
      keeps_on site zone fresh more grown = record {
        done = k.done ++ t ∷ [];
        logs = k.logs ++ x.log ∷ [];
        both = append_assoc k.done (t ∷ []) left ∙ k.both;
        are = logs_then callers c k.done k.logs t x.log k.are is_next;
        stage = ap (stage_of moved.run) (sym (ap (λ (st : Stage). st.begun) reached)) ∙ reached;
        fresh = fresh;
        site = site ∙ k.site;
        zone = zone ∙ k.zone;
        lines = grown ∙ ap (lines_of s) (sym (ap (λ (st : Stage). st.histories) x.after));
        whole = ap (λ (st : Stage). length st.histories) x.after ∙ joined_whole engine.run.histories x.log.round round_whole ∙ k.whole;
        turns = (let n = ap (λ (st : Stage). st.turns) x.after ∙ x.is.number in let m = k.turns in let l = length-append k.done (t ∷ []) in omega (arith, n, m, l));
      }

  module _ (begin : stage_of r [] ≡ start s (no_entries s)) (someone : 1 ≤ callers) (zone : IsZoneOf s.zone r.zone) (names : HasNames s) where
    abbrev pub are_logs : (turns : List Turn) (ls : List TurnLog) → AreLogsOf callers c turns ls → AreLogs callers s (nothing_given s) turns ls
    are_logs turns ls are = record {
      zone = r.zone;
      is_zone = zone;
      reads = reads c turns;
      read = turns_are_read s turns names;
      run = record { someone = someone; turns = subst (λ (st : Stage). IsRunFrom c.basis callers st (reads c turns) ls) begin are };
    }

    kept_of : (turns : List Turn) (ls : List TurnLog) (are : AreLogsOf callers c turns ls) (text : List ℕ) → text ≡ state_file s (behind_over c turns ls).stage.histories → IsKept callers s (nothing_given s) turns text
    kept_of turns ls are text is =
        record { logs = ls; are = are_logs turns ls are; is = is ∙ ap (λ (st : Stage). state_file s (stage_by c.basis st (reads c turns) ls).histories) begin }

    -- the state file of what is left when no turn is left
    pub kept : (turns left : List Turn) (engine : EngineView) (lines : List (List (List ℕ))) (text : List ℕ) → length left ≡ 0 → Keeps callers r turns left engine lines → text ≡ state_file s engine.run.histories → IsKept callers s (nothing_given s) turns text
    kept turns (t ∷ left) engine lines text none k is = absurd (omega (arith, none))
    kept turns [] engine lines text none k is =
        let all : k.done ≡ turns = sym (append-nil k.done) ∙ k.both in
        subst (λ ts. IsKept callers s (nothing_given s) ts text) all
        (kept_of k.done k.logs k.are text (is ∙ ap (λ (st : Stage). state_file s st.histories) k.stage))

-- One caller leaves one.

left_is : (s : PlainSite) (given : Given) (turns : List Turn) (ls : List TurnLog) → HasNames s → (p : AreLogs 1 s given turns ls)
    → histories_left 1 s given turns ls p ≡ (stage_by (basis_with s p.zone given.fed) (start s given.histories) (map (turn_read s) turns) ls).histories
left_is s given turns ls names p = ap (λ reads. (stage_by (basis_with s p.zone given.fed) (start s given.histories) reads ls).histories) (turns_are s turns p.reads names p.read)

same_left : (s : PlainSite) (given : Given) (turns : List Turn) (ls ms : List TurnLog) → HasNames s → (p : AreLogs 1 s given turns ls) → (q : AreLogs 1 s given turns ms)
    → histories_left 1 s given turns ls p ≡ histories_left 1 s given turns ms q
same_left s given turns ls ms names p q =
    let reads = map (turn_read s) turns in
    left_is s given turns ls names p
    ∙ ap (λ b. (stage_by b (start s given.histories) reads ls).histories) (same_basis s given.fed p.zone q.zone p.is_zone q.is_zone)
    ∙ ap (λ xs. (stage_by (basis_with s q.zone given.fed) (start s given.histories) reads xs).histories) (one_run s given turns ls ms names p q)
    ∙ sym (left_is s given turns ms names q)

pub one_file : (s : PlainSite) (given : Given) (turns : List Turn) (v w : List ℕ) → HasNames s → IsKept 1 s given turns v → IsKept 1 s given turns w → v ≡ w
one_file s given turns v w names p q = p.is ∙ ap (state_file s) (same_left s given turns p.logs q.logs names p.are q.are) ∙ sym q.is
