use Rattle.std.proofs.Common.{ℕ, ◌<◌}
use Rattle.site_audit.specs.LogLines.{IsOfTexts}
use Rattle.site_model.specs.PlainSite.{site_view}
use Rattle.turn_engine.specs.Orders.{command_of}
use Rattle.written_logs.proofs.texts.commands_are_texts.Given as goal

-- those before it are
abbrev pub invariant-loop-checkable : goal.invariant-loop-checkable
invariant-loop-checkable l = (k : ℕ) → k < l.checkable → IsOfTexts (command_of (site_view l.site) k)
