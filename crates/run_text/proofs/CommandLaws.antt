-- The lines of a script ask for what commands can ask for.
use Rattle.std.proofs.Common.{◌≡◌, ℕ, zero, suc, Bool, true, false, not, ◌||◌, ◌∙◌, List, [], ◌∷◌, map, Some, slice_get, refl, ap, subst}
use Rattle.std.specs.List.{list_any}
use Rattle.site_edge.specs.declared.turn.Turn.{Turn}
use Rattle.site_model.specs.PlainSite.{PlainSite}
use Rattle.event_text.specs.Lines.{Answer, told, faulty}
use Rattle.event_text.specs.Reading.{line_read}
use Rattle.run_meaning.specs.Dealing.{line_events}
use Rattle.run_meaning.specs.Lookback.{AskCommands, ask_commands}
use Rattle.run_meaning.specs.Turns.{ReadTurn, is_command}
use Rattle.run_text.specs.TurnReading.{as_line, lines_read, nothing_fed, turn_read}
use Rattle.run_text.proofs.ReadingForms.{line_asks}

neither : (a b : Bool) → a ≡ false → b ≡ false → (a || b) ≡ false
neither a b e f = ap (λ x. x || b) e ∙ f

none_more : (s : PlainSite) (lines : List (List ℕ)) → list_any (λ a. not (is_command a.event)) (line_events (lines_read s lines)) ≡ false
none_more s [] = refl
none_more s (line ∷ lines) = by (line_read s line) refl (none_more s lines)
  where
    by : (a : Answer) → line_read s line ≡ a → list_any (λ x. not (is_command x.event)) (line_events (lines_read s lines)) ≡ false
        → list_any (λ x. not (is_command x.event)) (line_events (as_line a ∷ lines_read s lines)) ≡ false
    by (told k e) h rest = neither (not (is_command e)) _ (ap not (line_asks s line k e h)) rest
    by (faulty f) h rest = rest

pub lines_ask : (s : PlainSite) (lines : List (List ℕ)) → ask_commands (lines_read s lines) ≡ true
lines_ask s lines = ap not (none_more s lines)

one_of : {A : Type 0} (x y : A) → Some x ≡ Some y → x ≡ y
one_of x y h = cc

turn_asks : (s : PlainSite) (ts : List Turn) (i : ℕ) (r : ReadTurn) → slice_get (map (turn_read s) ts) i ≡ Some r → ask_commands r.lines ≡ true
turn_asks s [] i r h = absurd cc
turn_asks s (t ∷ ts) zero r h = subst (λ (x : ReadTurn). ask_commands x.lines ≡ true) (one_of (turn_read s t) r h) (lines_ask s t.lines)
turn_asks s (t ∷ ts) (suc i) r h = turn_asks s ts i r h

pub turns_ask : (s : PlainSite) (ts : List Turn) → AskCommands nothing_fed (map (turn_read s) ts)
turns_ask s ts = record { fed = λ begun. refl; own = turn_asks s ts }
