-- The events of the acts so far.
use Rattle.std.proofs.Common.{◌≡◌, ℕ, map, take}
use Rattle.run_meaning.specs.Rounds.{events_on}
use Rattle.site_posts.specs.Made.{asked_of}
use Rattle.round_check.specs.Shelves.{listed}
use Rattle.round_check.proofs.checking.events_in.Given as goal

abbrev pub invariant-loop-act : goal.invariant-loop-act
invariant-loop-act l = (p : ℕ) → listed l.events.lists.entries p ≡ events_on p (map asked_of (take l.act-index l.acts))
