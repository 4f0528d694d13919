-- One sight more can be seen, or can't.
use Rattle.std.proofs.Common.{get_or, sym, ◌∙◌}
use Rattle.std.proofs.lemmas.Option.{slice_get-get_or}
use Rattle.site_model.specs.declared.sight.Sight.{Sight}
use Rattle.round_check.specs.Shelves.{counted, listed}
use Rattle.round_check.specs.Ways.{sees}
use Rattle.round_check.proofs.Stepping.{all_fails, all_next}
use Rattle.round_check.proofs.walking.Way.sees_all.Goals as goal

pub returns-then-not-sees : goal.returns-then-not-sees
returns-then-not-sees c =
    let i = c.loop-sight.sight-index in
    let xs = c.args.sights.now in
    let none : Sight = record { checkable = 0; count = 0 } in
    all_fails (sees (listed c.args.own.now.lists.entries) (counted c.args.self.now.done.counts.entries) (counted c.args.self.now.last.counts.entries)) i xs (get_or xs i none) _ (slice_get-get_or xs i none c.loop-sight-test.true)
    (sym c.sees.ensures ∙ c.if-not-sees.true) c.loop-sight.invariant

pub loop-sight-preserved : goal.loop-sight-preserved
loop-sight-preserved c =
    let i = c.loop-sight.sight-index in
    let xs = c.args.sights.now in
    let none : Sight = record { checkable = 0; count = 0 } in
    all_next (sees (listed c.args.own.now.lists.entries) (counted c.args.self.now.done.counts.entries) (counted c.args.self.now.last.counts.entries)) i xs (get_or xs i none) _ (slice_get-get_or xs i none c.loop-sight-test.true)
    (sym c.sees.ensures ∙ c.if-not-sees.false) c.loop-sight.invariant
