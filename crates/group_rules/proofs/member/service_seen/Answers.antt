use Rattle.std.proofs.Common.{[], ◌∷◌, None, Some, sym, ap, ◌∙◌}
use Rattle.std.specs.Prelude.{codes}
use Rattle.site_base.specs.View.{view as tree_view}
use Rattle.dsl_value.specs.PlainStores.{plain_store}
use Rattle.eval_meaning.specs.States.{gives, rule}
use Rattle.eval_work.specs.Works.{view_of}
use Rattle.commit_meaning.specs.Starts.{fresh}
use Rattle.group_rules.proofs.Grouping.{host_shown, host_absent, host_undecided}
use Rattle.group_rules.proofs.member.service_seen.Goals as goal

pub returns-then-not-is_absent : goal.returns-then-not-is_absent
returns-then-not-is_absent c =
    host_undecided (view_of c.args.view.now) (tree_view c.args.service.now) c.args.read (fresh (plain_store c.args.view.now.store.now) rule c.args.reads.now.items) c.in-None.ensures.absent (sym c.is_absent.ensures ∙ c.if-not-is_absent.true)

pub returns-in_ok-push-in-Some : goal.returns-in_ok-push-in-Some
returns-in_ok-push-in-Some c =
    let st = plain_store c.args.view.now.store.now in
    host_shown (view_of c.args.view.now) (tree_view c.args.service.now) (tree_view c.in-Some.host.now) c.args.read (fresh st rule c.args.reads.now.items) c.in-Some.ensures.found
    ∙ ap (λ rs. gives (Some ((codes "host", tree_view c.in-Some.host.now) ∷ (codes "service", tree_view c.args.service.now) ∷ [])) (fresh st rule rs)) (sym c.in_ok-push-in-Some.ensures.items)

pub returns-in_ok-push-in-None : goal.returns-in_ok-push-in-None
returns-in_ok-push-in-None c =
    let st = plain_store c.args.view.now.store.now in
    host_absent (view_of c.args.view.now) (tree_view c.args.service.now) c.args.read (fresh st rule c.args.reads.now.items) c.in-None.ensures.absent (sym c.is_absent.ensures ∙ c.if-not-is_absent.false)
    ∙ ap (λ rs. gives None (fresh st rule rs)) (sym c.in_ok-push-in-None.ensures.items)
