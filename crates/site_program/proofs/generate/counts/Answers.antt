-- What is counted of the site and of its run.
use Rattle.std.proofs.Common.{ℕ, false, List, length, map, ap, ◌∙◌}
use Rattle.site_gen.specs.Lines.{count_lines}
use Rattle.site_model.specs.PlainSite.{object_view}
use Rattle.site_model.specs.declared.object.Object.{Object}
use Rattle.run_replies.specs.Runs.{replied}
use Rattle.site_replies.specs.Replies.{listed}
use Rattle.site_program.proofs.generate.counts.Goals as goal

pub returns : goal.returns
returns c =
    let objects = c.count_listed-objects.ensures ∙ ap (λ (os : List Object). length (listed (map object_view os))) c.as_slice.ensures in
    record {
      counts = c.in_ok-counts.counts;
      are = c.in_ok-counts.ensures;
      is = ap (λ (lines : List (List ℕ)). replied (record { lines = lines; diagnosed = false })) (c.in_ok-lines_of.ensures ∙ ap (λ n. count_lines n c.in_ok-counts.counts) objects);
    }
