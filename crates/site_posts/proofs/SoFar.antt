-- How far a round has come.
use Rattle.std.proofs.Common.{◌≡◌, ℕ, suc, ◌<◌, List, [], ◌∷◌, ◌++◌, length, map, slice_get, Result, Ok, Err, Option, refl, sym, ap, ◌∙◌, subst, append_assoc, arith}
use Rattle.std.proofs.lemmas.List.{append-nil}
use Rattle.std.specs.Prelude.{IfOk, OnErr, OnOk}
use Rattle.jiff_tz.specs.declared.tzif.Tzif.{Tzif}
use Rattle.run_meaning.proofs.Lists.{of_index_nothing}
use Rattle.run_meaning.specs.Alone.{AreOnSite, Move, moves_of, round_of, with_entry}
use Rattle.run_meaning.specs.Runs.{joined}
use Rattle.run_meaning.specs.Turns.{Asked, Histories, of_index}
use Rattle.site_model.specs.PlainSite.{PlainSite}
use Rattle.site_model.specs.declared.entry.Entry.{Entry}
use Rattle.site_posts.specs.Made.{IsPartly, entry_next}
use Rattle.site_posts.specs.Progress.{AreKept, HasCome, HasStopped}
use Rattle.checkable_core.specs.Entries.{rules_in}
use Rattle.site_posts.proofs.Behind.{joined_nothing}
use Rattle.site_posts.proofs.OneByOne.{joined_round_more, move, moves_more, round_more, round_whole}

module _ (s : PlainSite) (zone : Option Tzif) (moment : ℕ) (before : Histories) where
  pub none_come : (touched : List ℕ) (rows : Histories) → length before ≡ length s.checkables → length rows ≡ length touched → ((p : ℕ) → of_index p rows ≡ []) → HasCome s zone moment before touched [] before rows
  none_come touched rows whole few none = record {
    stand = sym (joined_nothing before s.checkables whole);
    kept = record { whole = few; each = λ p k at. none p ∙ sym (of_index_nothing s.checkables k); others = λ k no. of_index_nothing s.checkables k };
  }

  -- one act more of a caller
  pub one_come : (touched : List ℕ) (done : List Move) (caller : ℕ) (acts : List Asked) (a : Asked) (e : Entry) (now later old new : Histories) → a.checkable < length s.checkables
      → e ≡ entry_next s zone moment now caller a.checkable a.event → later ≡ with_entry a.checkable e now
      → ((round : Histories) → a.checkable < length round → AreKept touched old round → AreKept touched new (with_entry a.checkable e round))
      → HasCome s zone moment before touched (done ++ moves_of caller acts) now old → HasCome s zone moment before touched (done ++ moves_of caller (acts ++ a ∷ [])) later new
  one_come touched done caller acts a e now later old new within made grown add so_far =
      let moves = done ++ moves_of caller acts in
      let m = move caller a in
      subst (λ ms. HasCome s zone moment before touched ms later new) (moves_more done caller acts a) (record {
        stand = grown ∙ joined_round_more s zone moment before moves m e now within so_far.stand made;
        kept = subst (AreKept touched new) (sym (round_more s zone moment before moves m e now within so_far.stand made))
            (add (round_of (rules_in s zone) moment before moves) (subst (λ n. a.checkable < n) (sym (round_whole s zone moment before moves)) within) so_far.kept);
      })

  -- where it stops here, some of a caller's acts are taken
  pub stopped : (touched : List ℕ) (done : List Move) (caller : ℕ) (all acts rest : List Asked) (now rows : Histories) → acts ++ rest ≡ all → HasCome s zone moment before touched (done ++ moves_of caller acts) now rows → HasStopped (rules_in s zone) moment before done caller all now
  stopped touched done caller all acts rest now rows first so_far = record { taken = acts; rest = rest; first = first; are = so_far.stand }

  -- and where it stops behind one more
  pub stopped_behind : (touched : List ℕ) (done : List Move) (caller : ℕ) (all acts rest : List Asked) (a : Asked) (e : Entry) (now later rows : Histories) → acts ++ a ∷ rest ≡ all → a.checkable < length s.checkables
      → e ≡ entry_next s zone moment now caller a.checkable a.event → later ≡ with_entry a.checkable e now
      → HasCome s zone moment before touched (done ++ moves_of caller acts) now rows → HasStopped (rules_in s zone) moment before done caller all later
  stopped_behind touched done caller all acts rest a e now later rows first within made grown so_far = record {
    taken = acts ++ a ∷ [];
    rest = rest;
    first = append_assoc acts (a ∷ []) rest ∙ first;
    are = grown ∙ joined_round_more s zone moment before (done ++ moves_of caller acts) (move caller a) e now within so_far.stand made
        ∙ ap (λ ms. joined before (round_of (rules_in s zone) moment before ms)) (moves_more done caller acts a);
  }

-- The acts of one caller.

module _ (s : PlainSite) (zone : Option Tzif) (moment : ℕ) (before : Histories) where
  pub none_partly : (acts : List Asked) → length before ≡ length s.checkables → IsPartly (rules_in s zone) moment before acts before
  none_partly acts whole = record { done = []; rest = acts; first = refl; are = sym (joined_nothing before s.checkables whole) }

  pub whole_partly : (acts : List Asked) (after : Histories) → after ≡ joined before (round_of (rules_in s zone) moment before (moves_of 0 acts)) → IsPartly (rules_in s zone) moment before acts after
  whole_partly acts after are = record { done = acts; rest = []; first = append-nil acts; are = are }

  pub some_partly : (acts : List Asked) (after : Histories) → HasStopped (rules_in s zone) moment before [] 0 acts after → IsPartly (rules_in s zone) moment before acts after
  some_partly acts after stopped = record { done = stopped.taken; rest = stopped.rest; first = stopped.first; are = stopped.are }

-- The acts that are left.

none_left : {A : Type 0} (xs : List A) → length xs ≡ 0 → xs ≡ []
none_left [] h = refl
none_left (x ∷ xs) h = absurd (omega (arith, h))

-- all are done where none is left
pub all_done : {A : Type 0} (f : A → Asked) (done acts : List Asked) (left : List A) → done ++ map f left ≡ acts → length left ≡ 0 → done ≡ acts
all_done f done acts left all none = sym (append-nil done) ∙ ap (λ xs. done ++ map f xs) (sym (none_left left none)) ∙ all

pub on_site_first : (s : PlainSite) (a : Asked) (rest acts : List Asked) → acts ≡ a ∷ rest → AreOnSite s acts → a.checkable < length s.checkables
on_site_first s a rest acts is all = all 0 a (ap (λ xs. slice_get xs 0) is)

pub on_site_rest : (s : PlainSite) (a : Asked) (rest acts : List Asked) → acts ≡ a ∷ rest → AreOnSite s acts → AreOnSite s rest
on_site_rest s a rest acts is all = λ i x at. all (suc i) x (ap (λ xs. slice_get xs (suc i)) is ∙ at)

-- Answers.

pub on_any : {T E : Type 0} (P : Type 0) → P → (r : Result T E) → OnOk r P
on_any P h (Ok x) = h
on_any P h (Err e) = tt

pub on_any_err : {T E : Type 0} (P : Type 0) → P → (r : Result T E) → OnErr r P
on_any_err P h (Ok x) = tt
on_any_err P h (Err e) = h

pub if_ok : {T E : Type 0} (P Q : T → Type 0) → ((x : T) → P x → Q x) → (r : Result T E) → IfOk r P → IfOk r Q
if_ok P Q step (Ok x) h = step x h
if_ok P Q step (Err e) h = tt
