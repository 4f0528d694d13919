-- What a sort by a key says, at the number of each diagnostic.
use Rattle.std.proofs.Common.{sym, subst, rules}
use Rattle.std.proofs.lemmas.List.Sorted.{answers_always}
use Rattle.std.specs.List.Sorted.{IsPermutation, IsStableByKey}
use Rattle.conf_check.specs.Ordering.{IsByNumber, number_cmp}
use Rattle.conf_check.proofs.ordering.by_number.Goals as goal

pub returns : goal.returns
returns c =
    subst (IsByNumber c.args.faults) (sym c.from.ensures)
    (record {
      same = subst (λ given. IsPermutation given c.sort_by_key.new.self.items) c.into_vec-list.ensures c.sort_by_key.ensures.permutation;
      rising = c.in_ok-sort_by_key.ensures.sorted (λ d. d.number) (answers_always _ _ _ (λ f a r g h. search rules));
      stable = subst (λ given. IsStableByKey (λ d. d.number) number_cmp given c.sort_by_key.new.self.items) c.into_vec-list.ensures
          (c.sort_by_key.ensures.stable (λ d. d.number) (answers_always _ _ _ (λ f a r g h. search rules)));
    })
