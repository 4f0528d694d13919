-- One ancestor more is seen.
use Rattle.std.proofs.Common.{◌<◌, length, get_or}
use Rattle.std.proofs.lemmas.Option.{slice_get-get_or}
use Rattle.site_model.specs.PlainSite.{site_view}
use Rattle.site_posts.proofs.Taking.{ancestor_within, book_within, shown_more}
use Rattle.site_posts.proofs.setting.Setting.look.Goals as goal

pub bounds-books-ancestor : goal.bounds-books-ancestor
bounds-books-ancestor c =
    let s = site_view c.args.self.now.site.now in
    let ps = c.ancestors-ancestors.result.now in
    ancestor_within s c.args.self.now.moment c.args.books.now c.requires.books c.args.checkable c.loop-ancestor.ancestor-index ps (c.ancestors-ancestors.ensures s c.requires.graph) c.loop-ancestor-test.true

pub loop-ancestor-preserved : goal.loop-ancestor-preserved
loop-ancestor-preserved c =
    let s = site_view c.args.self.now.site.now in
    let now = c.args.self.now.moment in
    let books = c.args.books.now in
    let are = c.requires.books in
    let ps = c.ancestors-ancestors.result.now in
    let i = c.loop-ancestor.ancestor-index in
    let p = get_or ps i 0 in
    let book = c.index-books-ancestor.result in
    let within : p < length books = ancestor_within s now books are c.args.checkable i ps (c.ancestors-ancestors.ensures s c.requires.graph) c.loop-ancestor-test.true in
    shown_more s now books are i p ps book c.view.result c.loop-ancestor.sights.items c.push.new.self.items (slice_get-get_or ps i 0 c.loop-ancestor-test.true) (book_within s now books are p book within c.index-books-ancestor.is)
    c.view.ensures c.loop-ancestor.invariant c.in_ok-push.ensures.items
