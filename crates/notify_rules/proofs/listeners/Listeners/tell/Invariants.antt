-- The users that are left, told behind those told so far, make all.
use Rattle.std.proofs.Common.{◌≡◌, ◌≤◌, length, map, drop, Some}
use Rattle.site_model.specs.Sound.{AreDistinct}
use Rattle.notify_rules.specs.Sent.{user_of, told_by}
use Rattle.notify_rules.proofs.listeners.Listeners.tell.Given as goal

abbrev pub invariant-loop-user : goal.invariant-loop-user
invariant-loop-user l = record {
  within : l.from ≤ length l.self;
  told : AreDistinct (map user_of l.fn.self) → AreDistinct (map user_of l.self) × (map (told_by (Some (drop l.user-index l.users))) l.self ≡ map (told_by (Some l.users)) l.fn.self);
}
