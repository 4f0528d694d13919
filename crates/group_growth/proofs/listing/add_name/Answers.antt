-- The name stands last.
use Rattle.std.proofs.Common.{◌≡◌, false, cond, rules, sym, ap, ◌∙◌}
use Rattle.site_base.specs.Data as tree
use Rattle.site_base.specs.View.{view, items_view}
use Rattle.site_base.specs.declared.tree.Tree.{the_lemmas}
use Rattle.site_base.specs.declared.tree.Tree.TheVariants as trees
use Rattle.commit_meaning.specs.Groups.{has_string, with_last}
use Rattle.group_growth.proofs.GroupLaws.{last_is}
use Rattle.group_growth.proofs.listing.add_name.Goals as goal

pub returns-in_ok-push : goal.returns-in_ok-push
returns-in_ok-push c =
    let n = c.args.name.now in
    let was = c.args.items.now.items in
    let one = trees.Str c.in_ok-clone.field-0 in
    let lacks : has_string n (items_view was) ≡ false = sym (c.has_string.ensures ∙ ap (λ xs. has_string n (items_view xs)) c.deref.ensures.value) ∙ c.if-not-has_string.true in
    let own : view one ≡ tree.string c.in_ok-clone.field-0 = search (rules, the_lemmas) in
    let seen : view one ≡ tree.string n = own ∙ ap (λ t. tree.string t) c.in_ok-clone.ensures.cases in
    ap items_view c.in_ok-push.ensures.items
    ∙ last_is n was one seen
    ∙ sym (ap (λ b. cond b (items_view was) (with_last n (items_view was))) lacks)
