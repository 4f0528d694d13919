-- What a sort by a key says, at the number of each diagnostic.
use Rattle.std.proofs.Common.{subst, rules, ◌∙◌}
use Rattle.std.proofs.lemmas.List.Sorted.{answers_always}
use Rattle.std.specs.List.Sorted.{IsStableByKey}
use Rattle.conf_check.specs.Ordering.{number_cmp}
use Rattle.commit_meaning.specs.Waves.{diag_number}
use Rattle.wave_order.proofs.OrderLaws.{sorted}
use Rattle.wave_order.proofs.sorting.diags_by_number.Goals as goal

pub returns : goal.returns
returns c =
    c.from.ensures
    ∙ sorted diag_number c.args.diags c.sort_by_key.new.self.items
    (c.in_ok-sort_by_key.ensures.sorted diag_number (answers_always _ _ _ (λ f a r g h. search rules)))
    (subst (λ given. IsStableByKey diag_number number_cmp given c.sort_by_key.new.self.items) c.into_vec-sorted.ensures
    (c.sort_by_key.ensures.stable diag_number (answers_always _ _ _ (λ f a r g h. search rules))))
