-- What stands in a row, followed by what the other notifications add, is all of the checkable's.
use Rattle.std.proofs.Common.{◌≡◌, ◌<◌, ◌++◌, ℕ, length, drop}
use Rattle.run_meaning.specs.Turns.{of_index}
use Rattle.notify_rules.specs.Sent.{notes_from}
use Rattle.notify_rules.proofs.note_index.NoteIndex.of.Given as goal

abbrev pub invariant-loop-place : goal.invariant-loop-place
invariant-loop-place l = record {
  many : length l.rows.items ≡ length l.site.checkables;
  rows : (c : ℕ) → c < length l.site.checkables → of_index c l.rows.items ++ notes_from c l.place (drop l.place l.site.notifies) ≡ notes_from c 0 l.site.notifies;
}
