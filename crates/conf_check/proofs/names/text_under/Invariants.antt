use Rattle.std.proofs.Common.{◌≡◌, drop}
use Rattle.site_base.specs.View.{pairs_view}
use Rattle.conf_check.specs.References.{text_under}
use Rattle.conf_check.proofs.names.text_under.Given as goal

abbrev pub invariant-loop-key : goal.invariant-loop-key
invariant-loop-key l = text_under l.name (pairs_view (drop l.key-index l.pairs)) ≡ text_under l.name (pairs_view l.pairs)
