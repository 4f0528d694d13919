-- One job more.
use Rattle.std.proofs.Common.{◌≡◌, ◌++◌, ◌∷◌, [], map, sym, ap, ◌∙◌, subst, rules}
use Rattle.std.specs.Prelude.{All, Contains}
use Rattle.std.specs.Vec.Iter.{into_iter_items}
use Rattle.std.proofs.lemmas.List.Elements.{All-head, All-nil, All-push, All-tail}
use Rattle.site_posts.proofs.Jobs.{one_more}
use Rattle.site_posts.specs.Made.{asked_of}
use Rattle.site_posts.specs.Many.{asked_in}
use Rattle.site_posts.specs.Outlooks.{IsJobOf, asked_by}
use Rattle.site_posts.specs.declared.act.Act.{Act}
use Rattle.site_posts.proofs.many.jobs_in.Goals as goal

pub loop-act-init : goal.loop-act-init
loop-act-init c =
    let items : into_iter_items c.into_iter-act-iterator.result ≡ c.args.list.items = search rules in
    let none : c.in_ok-jobs.jobs.items ≡ [] = search rules in
    record {
      asked = (λ z. map (asked_by c.args.touched.now) (none z) ++ map asked_of (items z));
      left = subst (All (λ (act : Act). Contains c.args.touched.now act.checkable)) (sym items) c.requires.acts;
      each = subst (All (IsJobOf c.args.touched.now c.args.outlooks.now)) (sym none) (All-nil (IsJobOf c.args.touched.now c.args.outlooks.now));
    }

pub job_of-requires-clause-act : goal.job_of-requires-clause-act
job_of-requires-clause-act c =
    All-head (λ (act : Act). Contains c.args.touched.now act.checkable) c.in-Some.act _ (subst (All (λ (act : Act). Contains c.args.touched.now act.checkable)) c.in-Some.ensures.steps.0 c.loop-act.invariant.left)

pub loop-act-preserved : goal.loop-act-preserved
loop-act-preserved c =
    let before = c.loop-act.invariant in
    let step = c.in-Some.ensures.steps.0 in
    let ks = c.args.touched.now in
    let made = c.in_ok-job.ensures in
    record {
      asked = one_more (asked_by ks) asked_of c.loop-act.jobs.items c.push.new.self.items c.in_ok-job.job c.in-Some.act _ _ (asked_in c.args.list) before.asked step made.1 c.in_ok-push.ensures.items;
      left = All-tail (λ (act : Act). Contains ks act.checkable) c.in-Some.act _ (subst (All (λ (act : Act). Contains ks act.checkable)) step before.left);
      each = subst (All (IsJobOf ks c.args.outlooks.now)) (sym c.in_ok-push.ensures.items) (All-push (IsJobOf ks c.args.outlooks.now) c.loop-act.jobs.items c.in_ok-job.job before.each made.0);
    }
