-- What a stable sort by the number of ancestors gives.
use Rattle.std.proofs.Common.{rules}
use Rattle.std.proofs.lemmas.List.Sorted.{IsNonDecreasingBy-from_sort, answers_always}
use Rattle.site_model.specs.PlainSite.{site_view}
use Rattle.round_check.specs.declared.ordering.Ranked.{Ranked}
use Rattle.round_check.proofs.Ranking.{is_order}
use Rattle.round_check.proofs.ordering.by_rank.Goals as goal

pub returns : goal.returns
returns c =
    is_order (site_view c.args._site.now) c.requires.graph.has_order c.args.list.items c.sort_by_key.new.self.items c.requires.ranked
    (IsNonDecreasingBy-from_sort (λ (x : Ranked). x.rank) c.sort_by_key.new.self.items (c.in_ok-sort_by_key.ensures.sorted (λ x. x.rank) (answers_always _ _ _ (λ f a r g h. search rules))))
    (c.sort_by_key.ensures.stable (λ x. x.rank) (answers_always _ _ _ (λ f a r g h. search rules)))
