-- What is answered of a round that is told of.
use Rattle.std.proofs.Common.{◌≡◌, List, length, map, None, Some, Option, MatchOption, true, false, sym, ap, ◌∙◌, subst}
use Rattle.checkable_core.specs.Entries.{rules_in}
use Rattle.run_meaning.proofs.Lists.{length_map}
use Rattle.run_meaning.specs.Runs.{no_entries}
use Rattle.site_model.specs.PlainSite.{site_view}
use Rattle.site_posts.specs.Books.{histories_of}
use Rattle.site_posts.specs.Many.{asked_in}
use Rattle.round_check.specs.declared.making.Making.{Making}
use Rattle.round_check.specs.Kept.{AreWanted, IsMaking, MadeAll}
use Rattle.round_check.specs.Making.{made_from}
use Rattle.round_check.specs.Ordered.{IsOrderOf, IsOutside, told_by_rank}
use Rattle.round_check.specs.Walking.{are_walked}
use Rattle.round_check.specs.Ways.{are_ways}
use Rattle.round_check.proofs.Answering.{is_walked_so, none_is_none, not_made, outside_is_none, some_is_only, ways_are}
use Rattle.round_check.proofs.MakingAll.{none_of_all, some_of_all}
use Rattle.round_check.proofs.checking.round_given.Goals as goal

pub returns-in_default : goal.returns-in_default
returns-in_default c =
    let s = site_view c.args.site.now in
    let told = c.args.told.items in
    outside_is_none s c.args.zone.now c.args.moment c.args.books.now.items (map asked_in c.args.lists.now) told
    (subst (λ o. MatchOption o (IsOutside s told) (λ order. IsOrderOf s told (map told_by_rank order.items))) c.in_default.is c.in_ok-order.ensures)

pub returns-in_default-2 : goal.returns-in_default-2
returns-in_default-2 c =
    let s = site_view c.args.site.now in
    let zone = c.args.zone.now in
    let now = c.args.moment in
    let old = c.args.books.now.items in
    let events = map asked_in c.args.lists.now in
    let told = c.args.told.items in
    let order = map told_by_rank c.in-Some.order.items in
    let o : IsOrderOf s told order = subst (λ o. MatchOption o (IsOutside s told) (λ order. IsOrderOf s told (map told_by_rank order.items))) c.in-Some.is c.in_ok-order.ensures in
    let w = subst (AreWanted events) (sym c.as_slice.ensures.value) c.in_ok-wanted.ensures.wanted in
    let made = c.in_ok-making.ensures events w (length_map asked_in c.args.lists.now) in
    let many = length c.args.lists.now in
    let all = made_from (rules_in s zone) now (histories_of old) events order (no_entries s) in
    none_is_none s zone now old events told order o
    (not_made s zone now old events told order (none_of_all s now (histories_of old) many c.made_of.new.books.items all (subst (λ (r : Option Making). MadeAll s now (histories_of old) many c.made_of.new.books.items all r) c.in_default-2.is made)))

pub are_ways-requires : goal.are_ways-requires
are_ways-requires c =
    let s = site_view c.args.site.now in
    let zone = c.args.zone.now in
    let now = c.args.moment in
    let old = c.args.books.now.items in
    let events = map asked_in c.args.lists.now in
    let order = map told_by_rank c.in-Some.order.items in
    let w = subst (AreWanted events) (sym c.as_slice.ensures.value) c.in_ok-wanted.ensures.wanted in
    let made = c.in_ok-making.ensures events w (length_map asked_in c.args.lists.now) in
    let many = length c.args.lists.now in
    let all = made_from (rules_in s zone) now (histories_of old) events order (no_entries s) in
    let x = some_of_all s now (histories_of old) many c.made_of.new.books.items all c.in-Some-2.making (subst (λ (r : Option Making). MadeAll s now (histories_of old) many c.made_of.new.books.items all r) c.in-Some-2.is made) in
    ap length c.as_slice-2.ensures.value ∙ x.2.each_caller

pub returns-then-not-branch : goal.returns-then-not-branch
returns-then-not-branch c =
    let s = site_view c.args.site.now in
    let zone = c.args.zone.now in
    let now = c.args.moment in
    let old = c.args.books.now.items in
    let events = map asked_in c.args.lists.now in
    let told = c.args.told.items in
    let order = map told_by_rank c.in-Some.order.items in
    let m = c.in-Some-2.making in
    let o : IsOrderOf s told order = subst (λ o. MatchOption o (IsOutside s told) (λ order. IsOrderOf s told (map told_by_rank order.items))) c.in-Some.is c.in_ok-order.ensures in
    let w = subst (AreWanted events) (sym c.as_slice.ensures.value) c.in_ok-wanted.ensures.wanted in
    let l = length_map asked_in c.args.lists.now in
    let made = c.in_ok-making.ensures events w l in
    let many = length c.args.lists.now in
    let all = made_from (rules_in s zone) now (histories_of old) events order (no_entries s) in
    let x = some_of_all s now (histories_of old) many c.made_of.new.books.items all m (subst (λ (r : Option Making). MadeAll s now (histories_of old) many c.made_of.new.books.items all r) c.in-Some-2.is made) in
    let kept = subst (λ n. IsMaking s now (histories_of old) n x.0 m c.made_of.new.books.items) (sym l) x.2 in
    let walked : are_walked (histories_of old) events x.0 ≡ false =
    sym (ways_are s zone now old events told x.0 m c.made_of.new.books.items kept) ∙ sym (ap (λ own. are_ways own events) c.as_slice-2.ensures.value) ∙ sym c.in_ok-are_ways.ensures ∙ c.if-not-branch.true in
    none_is_none s zone now old events told order o (is_walked_so s zone now old events told order x.0 false x.1 walked)

pub returns : goal.returns
returns c =
    let s = site_view c.args.site.now in
    let zone = c.args.zone.now in
    let now = c.args.moment in
    let old = c.args.books.now.items in
    let events = map asked_in c.args.lists.now in
    let told = c.args.told.items in
    let order = map told_by_rank c.in-Some.order.items in
    let m = c.in-Some-2.making in
    let o : IsOrderOf s told order = subst (λ o. MatchOption o (IsOutside s told) (λ order. IsOrderOf s told (map told_by_rank order.items))) c.in-Some.is c.in_ok-order.ensures in
    let w = subst (AreWanted events) (sym c.as_slice.ensures.value) c.in_ok-wanted.ensures.wanted in
    let l = length_map asked_in c.args.lists.now in
    let made = c.in_ok-making.ensures events w l in
    let many = length c.args.lists.now in
    let all = made_from (rules_in s zone) now (histories_of old) events order (no_entries s) in
    let x = some_of_all s now (histories_of old) many c.made_of.new.books.items all m (subst (λ (r : Option Making). MadeAll s now (histories_of old) many c.made_of.new.books.items all r) c.in-Some-2.is made) in
    let kept = subst (λ n. IsMaking s now (histories_of old) n x.0 m c.made_of.new.books.items) (sym l) x.2 in
    let walked : are_walked (histories_of old) events x.0 ≡ true =
    sym (ways_are s zone now old events told x.0 m c.made_of.new.books.items kept) ∙ sym (ap (λ own. are_ways own events) c.as_slice-2.ensures.value) ∙ sym c.in_ok-are_ways.ensures ∙ c.if-not-branch.false in
    some_is_only s zone now old events told order o x.0 c.made_of.new.books.items c.in_ok-segments_of.field-0 (is_walked_so s zone now old events told order x.0 true x.1 walked) (c.in_ok-segments_of.ensures ∙ x.2.segments) x.2.stand x.2.are
