-- One sight more raises its count.
use Rattle.std.proofs.Common.{get_or}
use Rattle.std.proofs.lemmas.Option.{slice_get-get_or}
use Rattle.site_model.specs.declared.sight.Sight.{Sight}
use Rattle.round_check.specs.Shelves.{counted}
use Rattle.round_check.proofs.Stepping.{raise_next}
use Rattle.round_check.proofs.shelf.Counts.raise_all.Goals as goal

pub loop-sight-preserved : goal.loop-sight-preserved
loop-sight-preserved c = λ q.
    let i = c.loop-sight.sight-index in
    let xs = c.args.sights.now in
    let none : Sight = record { checkable = 0; count = 0 } in
    raise_next i xs (get_or xs i none) (counted c.loop-sight.self.counts.entries) (counted c.raise.new.self.counts.entries) q _ (slice_get-get_or xs i none c.loop-sight-test.true) c.in_ok-raise.ensures (c.loop-sight.invariant q)
