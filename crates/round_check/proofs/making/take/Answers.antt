-- An entry is made of what stands there, and its book has it.
use Rattle.std.proofs.Common.{map, set, refl, sym, ap, ◌∙◌}
use Rattle.run_meaning.specs.Reachability.{ancestors}
use Rattle.site_model.specs.PlainSite.{site_view}
use Rattle.site_posts.proofs.Taking.{book_at, kept_is}
use Rattle.round_check.proofs.Taken.{books_then, made_there}
use Rattle.round_check.proofs.making.take.Goals as goal

pub apply-requires-clause-moment : goal.apply-requires-clause-moment
apply-requires-clause-moment c =
    let s = site_view c.args.setting.now.site.now in
    let book = c.index_mut-book.result.now in
    let mine = c.requires.books.each c.args.checkable book (book_at s c.args.setting.now.moment c.args.books.now.items c.requires.books c.args.checkable book c.requires.checkable c.index_mut-book.ensures.value) in
    mine.moment

pub apply-requires-clause-sights : goal.apply-requires-clause-sights
apply-requires-clause-sights c =
    let s = site_view c.args.setting.now.site.now in
    let book = c.index_mut-book.result.now in
    let mine = c.requires.books.each c.args.checkable book (book_at s c.args.setting.now.moment c.args.books.now.items c.requires.books c.args.checkable book c.requires.checkable c.index_mut-book.ensures.value) in
    c.requires.seen ∙ ap (ancestors s) (sym mine.index)

pub returns-in-Ok-clause-entry : goal.returns-in-Ok-clause-entry
returns-in-Ok-clause-entry c =
    let s = site_view c.args.setting.now.site.now in
    let now = c.args.setting.now.moment in
    let k = c.args.checkable in
    let books = c.args.books.now.items in
    let book = c.index_mut-book.result.now in
    let at = book_at s now books c.requires.books k book c.requires.checkable c.index_mut-book.ensures.value in
    made_there s now books c.requires.books c.args.setting.now.zone.now k book at c.args.caller c.in-Ok.entry c.args.event c.args.seen.now c.in-Ok.ensures.entry

pub returns-in-Ok-clause-kept : goal.returns-in-Ok-clause-kept
returns-in-Ok-clause-kept c =
    let s = site_view c.args.setting.now.site.now in
    let now = c.args.setting.now.moment in
    let k = c.args.checkable in
    let books = c.args.books.now.items in
    let book = c.index_mut-book.result.now in
    let at = book_at s now books c.requires.books k book c.requires.checkable c.index_mut-book.ensures.value in
    kept_is s now books c.requires.books c.args.setting.now.zone.now k book c.apply.new.self c.args.seen.now c.in-Ok.entry c.args.event at c.in-Ok.ensures.kept (set books k c.apply.new.self) refl

pub returns-in-Ok-clause-books : goal.returns-in-Ok-clause-books
returns-in-Ok-clause-books c =
    let s = site_view c.args.setting.now.site.now in
    let now = c.args.setting.now.moment in
    let k = c.args.checkable in
    let books = c.args.books.now.items in
    let book = c.index_mut-book.result.now in
    let at = book_at s now books c.requires.books k book c.requires.checkable c.index_mut-book.ensures.value in
    books_then s now books c.requires.books c.args.setting.now.zone.now k book at c.args.caller c.in-Ok.entry c.args.event c.args.seen.now c.apply.new.self c.in-Ok.ensures.kept c.in-Ok.ensures.entry (set books k c.apply.new.self) refl
