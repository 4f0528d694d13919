-- What holds a checkable back is what the definition says.
use Rattle.std.proofs.Common.{map, sym, ap, ◌∙◌, arith}
use Rattle.depend_graph.specs.Outlooks.{outlook_of}
use Rattle.depend_graph.specs.declared.purpose.Purpose.{Purpose}
use Rattle.run_meaning.specs.Reachability.{is_held, reach_of}
use Rattle.site_model.specs.PlainSite.{check_view, site_view}
use Rattle.site_posts.specs.Books.{histories_of}
use Rattle.site_posts.proofs.Showing.{shown_names}
use Rattle.site_posts.proofs.Taking.{book_within}
use Rattle.check_plan.proofs.Holding.{book_view, off_at_once, off_by_reach, off_without, spec_at}
use Rattle.check_plan.proofs.held.is_held.Goals as goal

pub returns-then-not-is_on : goal.returns-then-not-is_on
returns-then-not-is_on c =
    let site = c.args.setting.now.site.now in
    let s = site_view site in
    let k = c.args.checkable in
    let books = c.args.books.now in
    let many = c.requires.books.whole in
    let inside = c.requires.checkable in
    let book = c.index-books-checkable.result in
    let view = c.view-view.ensures ∙ book_view s c.args.setting.now.moment books k book c.requires.books (book_within s c.args.setting.now.moment books c.requires.books k book (omega (arith, many, inside)) c.index-books-checkable.is) in
    let spec = spec_at site c.as_slice.result.now k c.index-as_slice-checkable.result c.as_slice.ensures inside c.index-as_slice-checkable.is in
    off_at_once s c.args.setting.now.zone.now c.args.setting.now.moment (histories_of books) k inside c.is_on.result c.view-view.result (check_view c.index-as_slice-checkable.result) view spec c.is_on.ensures c.if-not-is_on.true

pub returns-then-is_empty : goal.returns-then-is_empty
returns-then-is_empty c =
    let site = c.args.setting.now.site.now in
    let s = site_view site in
    let k = c.args.checkable in
    let books = c.args.books.now in
    let many = c.requires.books.whole in
    let inside = c.requires.checkable in
    let book = c.index-books-checkable.result in
    let view = c.view-view.ensures ∙ book_view s c.args.setting.now.moment books k book c.requires.books (book_within s c.args.setting.now.moment books c.requires.books k book (omega (arith, many, inside)) c.index-books-checkable.is) in
    let spec = spec_at site c.as_slice.result.now k c.index-as_slice-checkable.result c.as_slice.ensures inside c.index-as_slice-checkable.is in
    off_without s c.args.setting.now.zone.now c.args.setting.now.moment (histories_of books) k inside c.is_on.result c.view-view.result (check_view c.index-as_slice-checkable.result) view spec c.is_on.ensures c.if-not-is_on.false
    (sym c.is_empty.ensures ∙ c.if-is_empty.true)

pub reach-requires-clause-sights : goal.reach-requires-clause-sights
reach-requires-clause-sights c =
    let s = site_view c.args.setting.now.site.now in
    ap (map (λ x. x.0)) (c.as_slice-2.ensures.value ∙ c.in_ok-sights.ensures) ∙ shown_names s (histories_of c.args.books.now) c.args.checkable

pub returns : goal.returns
returns c =
    let site = c.args.setting.now.site.now in
    let s = site_view site in
    let k = c.args.checkable in
    let books = c.args.books.now in
    let many = c.requires.books.whole in
    let inside = c.requires.checkable in
    let book = c.index-books-checkable.result in
    let view = c.view-view.ensures ∙ book_view s c.args.setting.now.moment books k book c.requires.books (book_within s c.args.setting.now.moment books c.requires.books k book (omega (arith, many, inside)) c.index-books-checkable.is) in
    let spec = spec_at site c.as_slice.result.now k c.index-as_slice-checkable.result c.as_slice.ensures inside c.index-as_slice-checkable.is in
    off_by_reach s c.args.setting.now.zone.now c.args.setting.now.moment (histories_of books) k inside c.is_on.result c.is_held.result c.view-view.result (check_view c.index-as_slice-checkable.result) view spec c.is_on.ensures c.if-not-is_on.false c.requires.graph.has_order
    (c.is_held.ensures ∙ ap is_held c.in_ok-reach.ensures ∙ ap (λ xs. is_held (reach_of (outlook_of s c.args.setting.now.zone.now Purpose.Checks c.args.setting.now.moment xs) k)) (c.as_slice-2.ensures.value ∙ c.in_ok-sights.ensures))
