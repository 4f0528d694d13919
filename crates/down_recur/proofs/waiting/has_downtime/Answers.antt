-- The book at the index is the checkable's, and its entries are those of the index.
use Rattle.std.proofs.Common.{◌≡◌, sym, ap, ◌∙◌, is_some, slice_get, Some}
use Rattle.checkable_core.specs.Contents.{check_at}
use Rattle.run_meaning.specs.Downtimes.{in_effect}
use Rattle.site_posts.proofs.Behind.{entries_at}
use Rattle.down_recur.proofs.Books.{behind_all, book_at}
use Rattle.down_recur.specs.Turns.{site_of}
use Rattle.down_recur.proofs.waiting.has_downtime.Goals as goal

pub in_effect-requires : goal.in_effect-requires
in_effect-requires c =
    let look = c.in-Some.ensures.lookup in
    let at : slice_get c.args.turn.now.books.now c.args.checkable ≡ Some c.in-Some.book.now =
    book_at c.args.checkable c.args.turn.now.books.now c.in-Some.book.now look.3.0 ∙ ap Some (sym look.1) in
    (c.requires.each c.args.checkable c.in-Some.book.now at).moment

pub returns-in-Some : goal.returns-in-Some
returns-in-Some c =
    let look = c.in-Some.ensures.lookup in
    let at : slice_get c.args.turn.now.books.now c.args.checkable ≡ Some c.in-Some.book.now =
    book_at c.args.checkable c.args.turn.now.books.now c.in-Some.book.now look.3.0 ∙ ap Some (sym look.1) in
    let is = c.requires.each c.args.checkable c.in-Some.book.now at in
    c.is_some.ensures
    ∙ ap is_some
    (c.in_effect.ensures
    ∙ ap (λ s. in_effect (check_at s c.in-Some.book.now.index) c.in-Some.book.now.entries c.args.turn.now.moment) is.site
    ∙ ap (λ k. in_effect (check_at (site_of c.args.turn.now) k) c.in-Some.book.now.entries c.args.turn.now.moment) is.index
    ∙ ap (λ es. in_effect (check_at (site_of c.args.turn.now) c.args.checkable) es c.args.turn.now.moment) (sym (entries_at c.args.turn.now.books.now c.args.checkable c.in-Some.book.now at)))

pub returns-in-None : goal.returns-in-None
returns-in-None c =
    let look = c.in-None.ensures.lookup in
    sym (ap (λ es. is_some (in_effect (check_at (site_of c.args.turn.now) c.args.checkable) es c.args.turn.now.moment)) (behind_all c.args.checkable c.args.turn.now.books.now look.3))
