-- All names that are missing are added together.
use Rattle.std.proofs.Common.{◌≡◌, ◌<◌, ◌≤◌, length, true, false, cond, rules, arith, sym, ap, ◌∙◌}
use Rattle.site_base.specs.Data as tree
use Rattle.site_base.specs.View.{view, items_view, pairs_view}
use Rattle.site_base.specs.declared.tree.Tree.{the_lemmas}
use Rattle.site_base.specs.declared.tree.Tree.TheVariants as trees
use Rattle.object_types.specs.Names.{attribute_name}
use Rattle.object_types.specs.declared.attribute.Attribute.TheVariants as attribute
use Rattle.commit_meaning.specs.Groups.{items_under, with_pair}
use Rattle.group_growth.specs.Adding.{any_missing, with_names}
use Rattle.group_growth.proofs.GroupLaws.{together}
use Rattle.group_growth.proofs.StringLaws.{nothing_missing, some_missing}
use Rattle.group_growth.proofs.growing.grow_pairs.Goals as goal

pub returns-in_ok-put_pair : goal.returns-in_ok-put_pair
returns-in_ok-put_pair c =
    let key = attribute_name attribute.Groups in
    let names = c.args.names.now in
    let ps = pairs_view c.args.pairs.now.items in
    let first = c.in_ok-list.list.items in
    let then = c.add_names.new.items.items in
    let now = c.shrink_to_fit.new.self in
    let named : c.in_ok-groups.groups ≡ key = c.in_ok-groups.ensures ∙ c.name.ensures in
    let was : items_view first ≡ items_under key ps =
    c.in_ok-list.ensures ∙ ap (λ xs. items_under c.in_ok-groups.groups (pairs_view xs)) c.deref.ensures.value ∙ ap (λ k. items_under k ps) named in
    let own : view (trees.List now) ≡ tree.list (items_view now.items) = search (rules, the_lemmas) in
    let all : view (trees.List now) ≡ tree.list (with_names names (items_under key ps)) = own ∙ ap (λ ds. tree.list ds) (ap items_view c.shrink_to_fit.ensures.items ∙ c.in_ok-add_names.ensures ∙ ap (with_names names) was) in
    let more : length first < length then = omega arith in
    let some : any_missing names (items_under key ps) ≡ true = ap (any_missing names) (sym was) ∙ some_missing names first then c.in_ok-add_names.ensures more in
    c.in_ok-put_pair.ensures
    ∙ ap (λ k. with_pair k (view (trees.List now)) ps) named
    ∙ ap (λ d. with_pair key d ps) all
    ∙ sym (together names ps ∙ ap (λ b. cond b (with_pair key (tree.list (with_names names (items_under key ps))) ps) ps) some)

pub returns-else-len-before : goal.returns-else-len-before
returns-else-len-before c =
    let key = attribute_name attribute.Groups in
    let names = c.args.names.now in
    let ps = pairs_view c.args.pairs.now.items in
    let first = c.in_ok-list.list.items in
    let then = c.add_names.new.items.items in
    let named : c.in_ok-groups.groups ≡ key = c.in_ok-groups.ensures ∙ c.name.ensures in
    let was : items_view first ≡ items_under key ps =
    c.in_ok-list.ensures ∙ ap (λ xs. items_under c.in_ok-groups.groups (pairs_view xs)) c.deref.ensures.value ∙ ap (λ k. items_under k ps) named in
    let few : length then ≤ length first = omega arith in
    let none : any_missing names (items_under key ps) ≡ false = ap (any_missing names) (sym was) ∙ nothing_missing names first then c.in_ok-add_names.ensures few in
    sym (together names ps ∙ ap (λ b. cond b (with_pair key (tree.list (with_names names (items_under key ps))) ps) ps) none)
