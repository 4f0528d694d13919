-- The jobs of one caller more.
use Rattle.std.proofs.Common.{◌≡◌, ◌++◌, ◌∷◌, [], ℕ, List, map, sym, ap, ◌∙◌, subst, rules}
use Rattle.std.specs.Prelude.{All, Contains, Vec}
use Rattle.std.specs.declared.alloc.Global.{Global}
use Rattle.std.specs.Vec.Iter.{into_iter_items}
use Rattle.std.proofs.lemmas.List.Elements.{All-head, All-nil, All-push, All-tail}
use Rattle.post_rounds.specs.declared.job.Job.{Job}
use Rattle.run_meaning.specs.Turns.{Asked}
use Rattle.site_posts.proofs.Jobs.{one_more}
use Rattle.site_posts.specs.Many.{asked_in}
use Rattle.site_posts.specs.Outlooks.{IsJobOf, asked_by}
use Rattle.site_posts.specs.declared.act.Act.{Act}
use Rattle.site_posts.specs.declared.ahead.Outlook.{Outlook}
use Rattle.site_posts.specs.declared.hall.Wanted.{Wanted}
use Rattle.site_posts.proofs.many.jobs_of.Goals as goal

abbrev asks : List ℕ → Vec (Job Wanted) Global → List Asked
asks touched jobs = map (asked_by touched) jobs.items

abbrev Acts : List ℕ → Vec Act Global → Type 0
Acts touched list = All (λ (act : Act). Contains touched act.checkable) list.items

abbrev Are : List ℕ → List Outlook → Vec (Job Wanted) Global → Type 0
Are touched outlooks jobs = All (IsJobOf touched outlooks) jobs.items

pub loop-list-init : goal.loop-list-init
loop-list-init c =
    let ks = c.args.touched.now in
    let items : into_iter_items c.into_iter-list-iterator.result ≡ c.args.lists.items = search rules in
    let none : c.in_ok-all.all.items ≡ [] = search rules in
    record {
      asked = (λ z. map (asks ks) (none z) ++ map asked_in (items z));
      left = subst (All (Acts ks)) (sym items) c.requires.acts;
      each = subst (All (Are ks c.args.outlooks.now)) (sym none) (All-nil (Are ks c.args.outlooks.now));
    }

pub jobs_in-requires-clause-acts : goal.jobs_in-requires-clause-acts
jobs_in-requires-clause-acts c = All-head (Acts c.args.touched.now) c.in-Some.list _ (subst (All (Acts c.args.touched.now)) c.in-Some.ensures.steps.0 c.loop-list.invariant.left)

pub loop-list-preserved : goal.loop-list-preserved
loop-list-preserved c =
    let before = c.loop-list.invariant in
    let step = c.in-Some.ensures.steps.0 in
    let ks = c.args.touched.now in
    record {
      asked = one_more (asks ks) asked_in c.loop-list.all.items c.push.new.self.items c.in_ok-jobs.jobs c.in-Some.list _ _ (map asked_in c.args.lists.items) before.asked step c.in_ok-jobs.ensures.asked c.in_ok-push.ensures.items;
      left = All-tail (Acts ks) c.in-Some.list _ (subst (All (Acts ks)) step before.left);
      each = subst (All (Are ks c.args.outlooks.now)) (sym c.in_ok-push.ensures.items) (All-push (Are ks c.args.outlooks.now) c.loop-list.all.items c.in_ok-jobs.jobs before.each c.in_ok-jobs.ensures.each);
    }
