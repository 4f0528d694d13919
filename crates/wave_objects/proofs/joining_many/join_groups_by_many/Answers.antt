-- What the answers join is what the groups take.
use Rattle.std.proofs.Common.{◌≡◌, ◌++◌, List, IfOk, OnOk, map, subst}
use Rattle.std.specs.List.{AllZip}
use Rattle.site_base.specs.declared.diag.Diag.{Diag}
use Rattle.site_model.specs.PlainSite.{PlainObject, object_view}
use Rattle.site_model.specs.declared.object.Object.{Object}
use Rattle.eval_work.specs.Works.{view_of, plain_item}
use Rattle.group_rules.specs.Plain.{group_answer}
use Rattle.wave_objects.specs.Members.{IsMemberAnswer}
use Rattle.wave_objects.proofs.JoinLaws.{all_grown, all_told}
use Rattle.wave_objects.proofs.joining_many.join_groups_by_many.Goals as goal

pub returns-clause-objects : goal.returns-clause-objects
returns-clause-objects g c =
    let v = view_of c.args.view.now in
    let os = c.args.objects.items in
    let answers = c.in_ok-answers.answers.items in
    let lists = c.in_ok-lists.lists in
    let are = subst (λ (xs : List Object). AllZip (λ o a. IsMemberAnswer v lists (object_view o) (group_answer a)) xs answers) c.deref.ensures.value c.in_ok-answers.ensures in
    let same = all_grown (map plain_item c.args.groups.now) lists c.in_ok-lists.ensures.lists v os answers are in
    subst (λ (xs : List PlainObject). IfOk c.joined_of.result (λ joined. map object_view joined.items ≡ xs)) same c.joined_of.ensures.objects

pub returns-clause-faults : goal.returns-clause-faults
returns-clause-faults g c =
    let v = view_of c.args.view.now in
    let os = c.args.objects.items in
    let answers = c.in_ok-answers.answers.items in
    let lists = c.in_ok-lists.lists in
    let are = subst (λ (xs : List Object). AllZip (λ o a. IsMemberAnswer v lists (object_view o) (group_answer a)) xs answers) c.deref.ensures.value c.in_ok-answers.ensures in
    let same = all_told (map plain_item c.args.groups.now) lists c.in_ok-lists.ensures.lists v os answers are in
    subst (λ (ds : List Diag). OnOk c.joined_of.result (c.joined_of.new.faults ≡ c.args.faults.now ++ ds)) same c.joined_of.ensures.faults
