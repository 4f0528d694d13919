-- The checkables that were made so far.
use Rattle.site_model.specs.PlainSite.{full_names, site_view}
use Rattle.history_carry.proofs.Making.{AreMade}
use Rattle.history_carry.proofs.carrying.checkables_with.Given as goal

abbrev pub invariant-loop-check : goal.invariant-loop-check
invariant-loop-check l = AreMade (site_view l.new) (full_names (site_view l.old)) l.histories l.check-index l.books.items
