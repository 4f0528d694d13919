-- The entries so far are behind the watch.
use Rattle.std.proofs.Common.{List, drop}
use Rattle.site_model.specs.PlainSite.{check_view}
use Rattle.site_model.specs.declared.entry.Entry.{Entry}
use Rattle.run_meaning.specs.Schedule.{watch_from}
use Rattle.check_slots.specs.Watches.{watch_as}
use Rattle.check_plan.specs.Shown.{AreShown}
use Rattle.check_plan.proofs.Watching.{IsWatched}
use Rattle.check_plan.proofs.following.after_all.Given as goal

abbrev pub invariant-loop-entry : goal.invariant-loop-entry
invariant-loop-entry l =
    (history : List Entry) → AreShown (check_view l.spec) history l.entries
    → IsWatched (check_view l.spec) (drop l.entry-index l.entries) (watch_as l.watch) (watch_from (check_view l.spec) history l.entries (watch_as l.initial.watch))
