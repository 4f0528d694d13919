use Rattle.std.proofs.Common.{[], List, map, subst}
use Rattle.std.specs.Arc.{arc_value}
use Rattle.site_base.specs.View.{view as tree_view}
use Rattle.dsl_value.specs.PlainStores.{plain_store}
use Rattle.eval_meaning.specs.States.{rule}
use Rattle.eval_meaning.specs.declared.read.Read.{Read}
use Rattle.eval_work.specs.Works.{view_of, Gives}
use Rattle.object_types.specs.Names.{type_named}
use Rattle.commit_meaning.specs.Groups as plain
use Rattle.commit_meaning.specs.Groups.{member_run}
use Rattle.commit_meaning.specs.Starts.{fresh}
use Rattle.item_start.proofs.Answering.{gives_answers}
use Rattle.group_rules.specs.Plain.{plain_group, plain_taken}
use Rattle.group_rules.specs.Taking.{seen_taken}
use Rattle.group_rules.specs.declared.taking.Taken.{Taken}
use Rattle.group_rules.proofs.groups.run_groups.Goals as goal

pub returns : goal.returns
unfolding member_run
returns c =
    let v = view_of c.args.view.now in
    let m = c.args.member.now in
    let gs = map plain_group c.args.groups.now in
    let st = plain_store c.args.view.now.store.now in
    let run = λ (rs : List Read). seen_taken v m.number (type_named m.kind) (tree_view (arc_value m.tree)) gs (fresh st rule rs) in
    gives_answers {X = Taken} {Y = plain.Taken} plain_taken m.number c.take_seen.result (fresh st rule c.take_seen.new.reads.items) (run [])
    (subst (λ (rs : List Read). Gives {X = Taken} {Y = plain.Taken} plain_taken c.take_seen.result (fresh st rule c.take_seen.new.reads.items) (run rs)) c.new-reads.ensures.items c.take_seen.ensures)
