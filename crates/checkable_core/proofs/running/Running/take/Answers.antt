-- An entry is kept as it shows.
use Rattle.site_model.specs.PlainSite.{check_view}
use Rattle.checkable_core.proofs.Listed.{on_ok}
use Rattle.checkable_core.proofs.running.Running.take.Goals as goal

pub returns : goal.returns
returns c =
    on_ok _ _ (λ kept s k h keeps late. kept s k (check_view c.args.spec.now) h keeps late (c.follow.ensures h keeps.status))
    c.keep.result c.keep.ensures.ok
