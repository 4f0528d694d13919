-- The decisions that are left, noted behind those noted so far, make all.
use Rattle.std.proofs.Common.{◌≡◌, ◌≤◌, length, map, drop}
use Rattle.site_model.specs.Sound.{AreDistinct}
use Rattle.notify_rules.specs.Sent.{number_of, noted, HaveDistinct}
use Rattle.notify_rules.proofs.sent_book.SentBook.note_sent.Given as goal

abbrev pub invariant-loop-decision : goal.invariant-loop-decision
invariant-loop-decision l = record {
  within : l.from ≤ length l.self.notes;
  host : l.self.host ≡ l.fn.self.host;
  notes : AreDistinct (map number_of l.fn.self.notes) → HaveDistinct l.fn.self.notes →
      AreDistinct (map number_of l.self.notes) × HaveDistinct l.self.notes × (map (noted l.moment (drop l.decision-index l.decisions)) l.self.notes ≡ map (noted l.moment l.decisions) l.fn.self.notes);
}
