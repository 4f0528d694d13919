-- The jobs so far are those of the first callers.
use Rattle.std.proofs.Common.{◌≡◌, ◌++◌, map, All}
use Rattle.std.specs.Prelude.{Contains, Vec}
use Rattle.std.specs.declared.alloc.Global.{Global}
use Rattle.std.specs.Vec.Iter.{into_iter_items}
use Rattle.post_rounds.specs.declared.job.Job.{Job}
use Rattle.site_posts.specs.Many.{asked_in}
use Rattle.site_posts.specs.Outlooks.{IsJobOf, asked_by}
use Rattle.site_posts.specs.declared.act.Act.{Act}
use Rattle.site_posts.specs.declared.hall.Wanted.{Wanted}
use Rattle.site_posts.proofs.many.jobs_of.Given as goal

abbrev pub invariant-loop-list : goal.invariant-loop-list
invariant-loop-list l = record {
  asked : map (λ (jobs : Vec (Job Wanted) Global). map (asked_by l.touched) jobs.items) l.all.items ++ map asked_in (into_iter_items l.list-iterator) ≡ map asked_in l.fn.lists.items;
  left : All (λ (list : Vec Act Global). All (λ (act : Act). Contains l.touched act.checkable) list.items) (into_iter_items l.list-iterator);
  each : All (λ (jobs : Vec (Job Wanted) Global). All (IsJobOf l.touched l.outlooks) jobs.items) l.all.items;
}
