-- A group without members changes nothing.
use Rattle.std.proofs.Common.{cond, [], ◌∷◌, ◌++◌, ap, ◌∙◌}
use Rattle.site_model.specs.Names.{with_name}
use Rattle.object_lists.proofs.ListedLaws.{is_new}
use Rattle.object_lists.proofs.MemberLaws.{with_group}
use Rattle.object_lists.proofs.members.Members.new_place.Goals as goal

pub returns-clause-same : goal.returns-clause-same
returns-clause-same c = λ ms are.
    let names = c.args.self.now.names in
    let group = c.args.group.now in
    with_group ms c.args.self.now _ group are
    (c.in_ok-place.ensures.names
    ∙ ap (λ n. with_name n names) c.in_ok-from_str.ensures.ok
    ∙ ap (λ b. cond b names (names ++ group ∷ [])) (is_new group names c.requires))
    (c.in_ok-push.ensures.items ∙ ap (λ r. c.args.self.now.lists.items ++ r ∷ []) c.new.ensures)
