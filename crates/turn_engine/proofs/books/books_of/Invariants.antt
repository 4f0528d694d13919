-- Those so far are the first checkables.
use Rattle.site_model.specs.PlainSite.{site_view}
use Rattle.turn_engine.proofs.Unwritten.{AreFirst}
use Rattle.turn_engine.proofs.books.books_of.Given as goal

abbrev pub invariant-loop-checkable : goal.invariant-loop-checkable
invariant-loop-checkable l = AreFirst (site_view l.site) l.checkable l.books.items
