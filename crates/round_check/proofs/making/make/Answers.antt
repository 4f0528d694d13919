-- What is told next is made.
use Rattle.std.proofs.Common.{◌≡◌, ◌<◌, length, map, option_map, IfSome, None, Some, sym, ap, ◌∙◌, subst, arith}
use Rattle.checkable_core.specs.Entries.{entry_made, rules_in}
use Rattle.run_meaning.specs.Reachability.{ancestors}
use Rattle.run_meaning.specs.Turns.{of_index}
use Rattle.site_model.specs.PlainSite.{site_view}
use Rattle.site_model.specs.declared.entry.Entry.{Entry}
use Rattle.site_posts.proofs.Taking.{book_at}
use Rattle.site_posts.specs.Books.{histories_of}
use Rattle.round_check.specs.Kept.{next_wanted, seen_told}
use Rattle.round_check.specs.Making.{are_sights}
use Rattle.round_check.proofs.MakingOn.{goes_on, made_is}
use Rattle.round_check.proofs.Putting.{caller_within, if_some}
use Rattle.round_check.proofs.Taken.{shows_there}
use Rattle.round_check.proofs.making.make.Goals as goal

pub take-requires-clause-seen : goal.take-requires-clause-seen
take-requires-clause-seen c =
    ap (map (λ x. x.0)) c.deref-2.ensures.value
    ∙ subst (λ o. IfSome o (λ v. map (λ x. x.0) v.items ≡ ancestors (site_view c.args.setting.now.site.now) c.args.told.checkable)) c.in-Some-2.is c.in_ok-seen.ensures.names

pub add-requires : goal.add-requires
add-requires c =
    let t = c.args.told in
    let m = c.args.making.now in
    let v = c.in-Some.event in
    let is : next_wanted c.args.wanted.now m.own.items t ≡ Some v = sym (c.in_ok-event.ensures ∙ ap (λ own. next_wanted c.args.wanted.now own t) c.as_slice.ensures.value) ∙ c.in-Some.is in
    let w = caller_within c.args.wanted.now t.caller t.checkable _ v is in
    let by = ap (λ (e : Entry). e.caller) c.in_ok-entry.ensures.entry in
    let many = c.requires.callers in
    omega (arith, w, by, many)

pub returns-clause-made : goal.returns-clause-made
returns-clause-made c = λ before round events w x.
    let s = site_view c.args.setting.now.site.now in
    let zone = c.args.setting.now.zone.now in
    let now = c.args.setting.now.moment in
    let t = c.args.told in
    let m = c.args.making.now in
    let books = c.args.books.now.items in
    let v = c.in-Some.event in
    let e = c.in_ok-entry.entry in
    let lt = c.requires.checkable in
    let is : next_wanted c.args.wanted.now m.own.items t ≡ Some v = sym (c.in_ok-event.ensures ∙ ap (λ own. next_wanted c.args.wanted.now own t) c.as_slice.ensures.value) ∙ c.in-Some.is in
    let told = if_some (are_sights (rules_in s zone) before round t) c.in-Some-2.seen.items (seen_told s before round t.sights) (sym (ap (option_map (λ v. v.items)) c.in-Some-2.is) ∙ c.in_ok-seen.ensures.told before round x.views (ap histories_of c.deref.ensures.value ∙ x.stand)) in
    let made : e ≡ entry_made s zone t.checkable (of_index t.checkable (histories_of books)) t.caller now v (seen_told s before round t.sights) =
    c.in_ok-entry.ensures.entry ∙ ap (λ xs. entry_made s zone t.checkable (of_index t.checkable (histories_of books)) t.caller now v xs) (c.deref-2.ensures.value ∙ told.1) in
    let same = made_is s zone now before events round m books x c.args.wanted.now w t lt v is told.0 e made in
    let book = c.index.result.now in
    let at = book_at s now books c.requires.books t.checkable book lt c.index.ensures in
    let shows = shows_there s now books c.requires.books t.checkable book at c.view-before.result c.view-before.ensures in
    let whole = x.whole in
    goes_on s zone now before events round m books x c.args.wanted.now w t lt v is told.0 e same c.view-before.result shows c.add.new.self c.take.new.books.items
    (c.in_ok-add.ensures.entries round (omega (arith, lt, whole)) x.segments) c.in_ok-add.ensures.views c.in_ok-add.ensures.callers c.in_ok-add.ensures.own c.in_ok-entry.ensures.kept c.in_ok-entry.ensures.books
