-- So far the first ones gave their lines, and all others are as they were.
use Rattle.std.proofs.Common.{◌≡◌, ◌≤◌, ◌-◌, ◌++◌, drop, length, map}
use Rattle.std.specs.List.{flat_map}
use Rattle.down_recur.proofs.Steps.{AreChanged}
use Rattle.down_recur.specs.Turns.{after_in, lines_in}
use Rattle.down_recur.specs.Waiting.{AreResting, AreWaiting, recurring_in}
use Rattle.down_recur.proofs.walking.give_all.Given as goal

abbrev pub invariant-loop-place : goal.invariant-loop-place
invariant-loop-place l =
    let before = map recurring_in l.fn.list.items in
    record {
      within : l.place ≤ length l.list.items;
      many : length l.list.items ≡ length l.fn.list.items;
      lines : l.out.items ++ flat_map (lines_in l.turn) (drop l.place before) ≡ l.fn.out.items ++ flat_map (lines_in l.turn) before;
      changed : AreChanged recurring_in (after_in l.turn) l.place l.list.items before;
      waiting : AreWaiting l.turn.zone.now l.list.items;
      resting : AreResting l.turn.moment l.rests l.list.items;
    }

abbrev pub decreases-loop-place : goal.decreases-loop-place
decreases-loop-place l = length l.list.items - l.place
