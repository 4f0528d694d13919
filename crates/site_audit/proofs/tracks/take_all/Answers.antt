use Rattle.std.proofs.Common.{◌≡◌, ◌<◌, IfOk, List, MatchOption, None, Option, Some, ℕ, ap, subst, sym, ◌∙◌}
use Rattle.std.proofs.lemmas.List.Sorted.{All-permutation}
use Rattle.site_audit.specs.Tracks.{taken_in}
use Rattle.site_audit.proofs.Taking.{same_order}
use Rattle.site_audit.proofs.Tracking.{all_same}
use Rattle.site_audit.proofs.tracks.take_all.Goals as goal

pub take_sorted-requires-clause-things : goal.take_sorted-requires-clause-things
take_sorted-requires-clause-things c =
    all_same (λ x. x.thing < c.args.count) c.in_ok-sorted.sorted.items c.as_slice.result.now (sym c.as_slice.ensures.value) (All-permutation (λ x. x.thing < c.args.count) c.args.spots c.in_ok-sorted.sorted.items c.in_ok-sorted.ensures.same c.requires)

pub returns : goal.returns
returns c =
    subst (λ (o : Option (List ℕ)). IfOk c.take_sorted.result (λ r. MatchOption r (o ≡ None) (λ order. o ≡ Some order.items)))
    (ap (taken_in c.args.count) c.as_slice.ensures.value ∙ sym (same_order c.args.count c.args.spots c.in_ok-sorted.sorted.items c.in_ok-sorted.ensures.same)) c.take_sorted.ensures
