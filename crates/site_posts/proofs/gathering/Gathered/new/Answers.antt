-- One empty list more.
use Rattle.std.proofs.Common.{◌++◌, ◌∷◌, [], List, ◌∙◌, ap, arith}
use Rattle.run_meaning.specs.Turns.{of_index}
use Rattle.site_model.specs.declared.entry.Entry.{Entry}
use Rattle.site_posts.proofs.Keeping.{none_more}
use Rattle.site_posts.proofs.gathering.Gathered.new.Goals as goal

pub loop-preserved : goal.loop-preserved
loop-preserved c =
    let n = c.loop.invariant.0 in
    let l = c.in_ok-push.ensures.len in (
      omega (arith, n, l),
      λ p. ap (of_index p) c.in_ok-push.ensures.items ∙ (ap (λ (row : List Entry). of_index p (c.loop.rows.items ++ row ∷ [])) (c.from.ensures ∙ c.in_ok-entries.ensures.items) ∙ none_more c.loop.rows.items c.loop.invariant.1 p),
    )
