use Rattle.std.proofs.Common.{◌≡◌, drop}
use Rattle.site_base.specs.View.{pairs_view}
use Rattle.conf_check.specs.References.{text_under}
use Rattle.item_start.proofs.strings.text_under.Given as goal

abbrev pub invariant-loop-name : goal.invariant-loop-name
invariant-loop-name l = text_under l.key (pairs_view (drop l.name-index l.pairs)) ≡ text_under l.key (pairs_view l.pairs)
