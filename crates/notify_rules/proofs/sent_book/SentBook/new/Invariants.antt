-- The notes so far are of the first notifications of the checkable.
use Rattle.std.proofs.Common.{◌≡◌, ◌++◌, All, drop, map}
use Rattle.run_meaning.specs.Turns.{of_index}
use Rattle.notify_rules.specs.Sent.{number_of}
use Rattle.notify_rules.proofs.Standing.{IsMade}
use Rattle.notify_rules.proofs.sent_book.SentBook.new.Given as goal

abbrev pub invariant-loop-place : goal.invariant-loop-place
invariant-loop-place l = record {
  numbers : map number_of l.notes.items ++ drop l.place-index (of_index l.checkable l.index) ≡ of_index l.checkable l.index;
  made : All (IsMade l.site.notifies) l.notes.items;
}
