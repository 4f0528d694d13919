-- A new name stands last in the list, and among its strings.
use Rattle.std.proofs.Common.{◌≡◌, cond, rules, sym, ap, ◌∙◌}
use Rattle.site_base.specs.Data as tree
use Rattle.site_base.specs.View.{view, items_view}
use Rattle.site_base.specs.declared.tree.Tree.{the_lemmas}
use Rattle.site_base.specs.declared.tree.Tree.TheVariants as trees
use Rattle.commit_meaning.specs.Groups.{with_last}
use Rattle.group_growth.specs.Strings.{texts_in}
use Rattle.group_growth.proofs.GroupLaws.{last_is}
use Rattle.group_growth.proofs.StringLaws.{name_added, still_known}
use Rattle.group_growth.proofs.listing.add_new.Goals as goal

pub returns-in_ok-push-clause-items : goal.returns-in_ok-push-clause-items
returns-in_ok-push-clause-items c =
    let n = c.args.name.now in
    let was = c.args.items.now.items in
    let now = c.push.new.self.items in
    let one = trees.Str c.in_ok-clone.field-0 in
    let own : view one ≡ tree.string c.in_ok-clone.field-0 = search (rules, the_lemmas) in
    let seen : view one ≡ tree.string n = own ∙ ap (λ t. tree.string t) c.in_ok-clone.ensures.cases in
    let last : items_view now ≡ with_last n (items_view was) = ap items_view c.in_ok-push.ensures.items ∙ last_is n was one seen in
    let grown : items_view now ≡ cond c.in_ok-is_new.field-0 (with_last n (items_view was)) (items_view was) = last ∙ sym (ap (λ b. cond b (with_last n (items_view was)) (items_view was)) c.if-branch.true) in
    name_added n (texts_in c.args.strings.now.keys) (items_view was) (items_view now) c.in_ok-is_new.field-0 c.requires c.in_ok-is_new.ensures.new grown

pub returns-in_ok-push-clause-strings : goal.returns-in_ok-push-clause-strings
returns-in_ok-push-clause-strings c =
    let n = c.args.name.now in
    let was = c.args.items.now.items in
    let now = c.push.new.self.items in
    let one = trees.Str c.in_ok-clone.field-0 in
    let own : view one ≡ tree.string c.in_ok-clone.field-0 = search (rules, the_lemmas) in
    let seen : view one ≡ tree.string n = own ∙ ap (λ t. tree.string t) c.in_ok-clone.ensures.cases in
    let last : items_view now ≡ with_last n (items_view was) = ap items_view c.in_ok-push.ensures.items ∙ last_is n was one seen in
    let grown : items_view now ≡ cond c.in_ok-is_new.field-0 (with_last n (items_view was)) (items_view was) = last ∙ sym (ap (λ b. cond b (with_last n (items_view was)) (items_view was)) c.if-branch.true) in
    still_known n (texts_in c.args.strings.now.keys) (items_view was) (items_view now) c.in_ok-is_new.field-0 c.requires c.in_ok-is_new.ensures.new grown (texts_in c.is_new.new.strings.keys) c.in_ok-is_new.ensures.strings
