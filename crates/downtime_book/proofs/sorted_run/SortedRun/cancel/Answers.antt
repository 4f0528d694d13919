-- What has the number goes, and then what is past: each leaves the rest in order.
use Rattle.std.proofs.Common.{◌==◌, not, filter, ◌∙◌, ap}
use Rattle.std.proofs.lemmas.List.Kept.{IsNonDecreasingBy-filter}
use Rattle.downtime_book.specs.declared.downtime.Downtime.{Downtime}
use Rattle.downtime_book.specs.Downtime.{until, is_live}
use Rattle.downtime_book.proofs.sorted_run.SortedRun.cancel.Goals as goal

pub drop_past-requires : goal.drop_past-requires
drop_past-requires c = rw c.remove.ensures.kept (IsNonDecreasingBy-filter until _ _ c.self.invariant.ordered)

pub invariant_of-self : goal.invariant_of-self
invariant_of-self c = record {
  ordered = rw (c.drop_past.ensures.live, c.remove.ensures.kept) (IsNonDecreasingBy-filter until _ _ (IsNonDecreasingBy-filter until _ _ c.self.invariant.ordered));
  told = c.drop_past.ensures.told c.remove.ensures.told;
}

pub returns : goal.returns
returns c =
    let others = c.remove.ensures.kept ∙ ap (filter (λ (d : Downtime). not (d.number == c.args.number))) c.self.view_is in
    c.drop_past.ensures.live ∙ ap (filter (is_live c.args.moment)) others
