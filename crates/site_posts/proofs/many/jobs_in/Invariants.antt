-- The jobs so far are those of the first acts.
use Rattle.std.proofs.Common.{◌≡◌, ◌++◌, map, All}
use Rattle.std.specs.Prelude.{Contains}
use Rattle.std.specs.Vec.Iter.{into_iter_items}
use Rattle.site_posts.specs.Made.{asked_of}
use Rattle.site_posts.specs.Many.{asked_in}
use Rattle.site_posts.specs.Outlooks.{IsJobOf, asked_by}
use Rattle.site_posts.specs.declared.act.Act.{Act}
use Rattle.site_posts.proofs.many.jobs_in.Given as goal

abbrev pub invariant-loop-act : goal.invariant-loop-act
invariant-loop-act l = record {
  asked : map (asked_by l.touched) l.jobs.items ++ map asked_of (into_iter_items l.act-iterator) ≡ asked_in l.fn.list;
  left : All (λ (act : Act). Contains l.touched act.checkable) (into_iter_items l.act-iterator);
  each : All (IsJobOf l.touched l.outlooks) l.jobs.items;
}
