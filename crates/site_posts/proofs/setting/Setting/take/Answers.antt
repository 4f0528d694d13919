-- An act makes the entry of the definition, and its book has it.
use Rattle.std.proofs.Common.{map, set, refl, sym, ap, ◌∙◌}
use Rattle.run_meaning.specs.Reachability.{ancestors}
use Rattle.site_model.specs.PlainSite.{site_view}
use Rattle.site_posts.specs.Books.{histories_of}
use Rattle.site_posts.proofs.Showing.{shown_names}
use Rattle.site_posts.proofs.Taking.{book_at, books_are, kept_is, made_is}
use Rattle.site_posts.proofs.setting.Setting.take.Goals as goal

pub apply-requires-clause-moment : goal.apply-requires-clause-moment
apply-requires-clause-moment c =
    let s = site_view c.args.self.now.site.now in
    let k = c.args.act.checkable in
    let book = c.index_mut-book.result.now in
    let mine = c.requires.books.each k book (book_at s c.args.self.now.moment c.args.books.now.items c.requires.books k book c.requires.checkable c.index_mut-book.ensures.value) in
    mine.moment

pub apply-requires-clause-sights : goal.apply-requires-clause-sights
apply-requires-clause-sights c =
    let s = site_view c.args.self.now.site.now in
    let k = c.args.act.checkable in
    let books = c.args.books.now.items in
    let book = c.index_mut-book.result.now in
    let mine = c.requires.books.each k book (book_at s c.args.self.now.moment books c.requires.books k book c.requires.checkable c.index_mut-book.ensures.value) in
    ap (map (λ x. x.0)) c.requires.sights ∙ shown_names s (histories_of books) k ∙ ap (ancestors s) (sym mine.index)

pub returns-in-Ok-clause-entry : goal.returns-in-Ok-clause-entry
returns-in-Ok-clause-entry c =
    let s = site_view c.args.self.now.site.now in
    let now = c.args.self.now.moment in
    let k = c.args.act.checkable in
    let books = c.args.books.now.items in
    let book = c.index_mut-book.result.now in
    let at = book_at s now books c.requires.books k book c.requires.checkable c.index_mut-book.ensures.value in
    made_is s now books c.requires.books c.args.self.now.zone.now k book c.apply.new.self c.args.sights.now c.in-Ok.entry c.args.act.event at c.args.caller c.requires.sights c.in-Ok.ensures.entry

pub returns-in-Ok-clause-kept : goal.returns-in-Ok-clause-kept
returns-in-Ok-clause-kept c =
    let s = site_view c.args.self.now.site.now in
    let now = c.args.self.now.moment in
    let k = c.args.act.checkable in
    let books = c.args.books.now.items in
    let book = c.index_mut-book.result.now in
    let at = book_at s now books c.requires.books k book c.requires.checkable c.index_mut-book.ensures.value in
    kept_is s now books c.requires.books c.args.self.now.zone.now k book c.apply.new.self c.args.sights.now c.in-Ok.entry c.args.act.event at c.in-Ok.ensures.kept (set books k c.apply.new.self) refl

pub returns-in-Ok-clause-books : goal.returns-in-Ok-clause-books
returns-in-Ok-clause-books c =
    let s = site_view c.args.self.now.site.now in
    let now = c.args.self.now.moment in
    let k = c.args.act.checkable in
    let books = c.args.books.now.items in
    let book = c.index_mut-book.result.now in
    let at = book_at s now books c.requires.books k book c.requires.checkable c.index_mut-book.ensures.value in
    books_are s now books c.requires.books c.args.self.now.zone.now k book c.apply.new.self c.args.sights.now c.in-Ok.entry c.args.act.event at c.args.caller c.in-Ok.ensures.kept c.in-Ok.ensures.entry (set books k c.apply.new.self) refl
