-- A round grows by one act.
use Rattle.run_meaning.specs.Acts.{Rules}
use Rattle.std.proofs.Common.{◌≡◌, ℕ, ◌<◌, List, [], ◌∷◌, ◌++◌, length, slice_get, Option, Some, None, refl, sym, ap, ◌∙◌, subst, append_assoc}
use Rattle.std.proofs.lemmas.List.{map-append}
use mathlib.Core.Path.{fun_ext}
use Rattle.checkable_core.proofs.Listed.{check_is}
use Rattle.checkable_core.specs.Contents.{check_at}
use Rattle.jiff_tz.specs.declared.tzif.Tzif.{Tzif}
use Rattle.run_meaning.proofs.Lists.{length-with_entry, length_map}
use Rattle.run_meaning.specs.Alone.{Move, adding, moves_of, next_entry, round_from, round_of, with_entry}
use Rattle.run_meaning.specs.Rounds.{behind}
use Rattle.run_meaning.specs.Runs.{joined, no_entries}
use Rattle.run_meaning.specs.Turns.{Asked, Histories, of_index}
use Rattle.site_model.specs.PlainSite.{PlainCheck, PlainSite}
use Rattle.site_model.specs.declared.entry.Entry.{Entry}
use Rattle.site_posts.specs.Made.{entry_next}
use Rattle.checkable_core.specs.Entries.{rules_in}
use Rattle.site_posts.proofs.Behind.{joined_at, joined_more}

abbrev pub move : ℕ → Asked → Move
move caller a = record { caller = caller; asked = a }

-- one act more of a caller
pub moves_more : (done : List Move) (caller : ℕ) (acts : List Asked) (a : Asked) → (done ++ moves_of caller acts) ++ move caller a ∷ [] ≡ done ++ moves_of caller (acts ++ a ∷ [])
moves_more done caller acts a = append_assoc done (moves_of caller acts) (move caller a ∷ []) ∙ ap (λ ms. done ++ ms) (sym (map-append (move caller) acts (a ∷ [])))

module _ (b : Rules) (moment : ℕ) (before : Histories) where
  adds_length : (round : Histories) (m : Move) (check : Option PlainCheck) → length (adding b moment before round m check) ≡ length round
  adds_length round m None = refl
  adds_length round m (Some check) = length-with_entry m.asked.checkable (next_entry b moment (behind before round) m.caller m.asked.checkable check m.asked.event) round

  from_length : (moves : List Move) (round : Histories) → length (round_from b moment before moves round) ≡ length round
  from_length [] round = refl
  from_length (m ∷ moves) round =
      let o = slice_get b.site.checkables m.asked.checkable in
      from_length moves (adding b moment before round m o) ∙ adds_length round m o

  from_more : (moves : List Move) (m : Move) (round : Histories)
      → round_from b moment before (moves ++ m ∷ []) round ≡ adding b moment before (round_from b moment before moves round) m (slice_get b.site.checkables m.asked.checkable)
  from_more [] m round = refl
  from_more (x ∷ moves) m round = from_more moves m (adding b moment before round x (slice_get b.site.checkables x.asked.checkable))

module _ (s : PlainSite) (zone : Option Tzif) (moment : ℕ) (before : Histories) where
  abbrev b : Rules
  b = rules_in s zone

  -- what these moves made
  abbrev pub made : List Move → Histories
  made done = round_of b moment before done

  -- each checkable of the site has its list
  pub round_whole : (done : List Move) → length (made done) ≡ length s.checkables
  round_whole done = from_length b moment before done (no_entries s) ∙ length_map (λ _. []) s.checkables

  -- the round of one move more has the entry that it makes where those before it stand
  pub round_more : (done : List Move) (m : Move) (e : Entry) (now : Histories) → m.asked.checkable < length s.checkables → now ≡ joined before (made done)
      → e ≡ entry_next s zone moment now m.caller m.asked.checkable m.asked.event
      → made (done ++ m ∷ []) ≡ with_entry m.asked.checkable e (made done)
  round_more done m e now h is new =
      let round = made done in
      let stand : (λ c. of_index c now) ≡ behind before round = ap (λ hs c. of_index c hs) is ∙ fun_ext (λ c. joined_at before round c) in
      let same : e ≡ next_entry b moment (behind before round) m.caller m.asked.checkable (check_at s m.asked.checkable) m.asked.event =
      new ∙ ap (λ entries. next_entry b moment entries m.caller m.asked.checkable (check_at s m.asked.checkable) m.asked.event) stand in
      from_more b moment before done m (no_entries s)
      ∙ ap (adding b moment before round m) (check_is s.checkables m.asked.checkable h)
      ∙ ap (λ x. with_entry m.asked.checkable x round) (sym same)

  -- and all that stands then stands behind what stood before
  pub joined_round_more : (done : List Move) (m : Move) (e : Entry) (now : Histories) → m.asked.checkable < length s.checkables → now ≡ joined before (made done)
      → e ≡ entry_next s zone moment now m.caller m.asked.checkable m.asked.event
      → with_entry m.asked.checkable e now ≡ joined before (made (done ++ m ∷ []))
  joined_round_more done m e now h is new =
      let round = made done in
      let within : m.asked.checkable < length round = subst (λ n. m.asked.checkable < n) (sym (round_whole done)) h in
      ap (with_entry m.asked.checkable e) is ∙ joined_more before round m.asked.checkable e within ∙ ap (joined before) (sym (round_more done m e now h is new))
