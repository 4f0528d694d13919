-- What was seen is what the first entries make.
use Rattle.std.proofs.Common.{◌≡◌, ◌<◌, ◌≤◌, ◌+◌, ◌-◌, ◌++◌, ℕ, List, length, cond, nat_lt, slice_get, None, Some, sym, ap, ◌∙◌, arith}
use Rattle.checkable_core.specs.Contents.{Contents, check_at}
use Rattle.run_meaning.specs.Rounds.{behind}
use Rattle.run_meaning.specs.Runs.{joined}
use Rattle.run_meaning.specs.Turns.{Histories, of_index}
use Rattle.run_meaning.specs.View.{view_of}
use Rattle.site_model.specs.PlainSite.{PlainSite, site_view}
use Rattle.site_model.specs.declared.view.View.{View}
use Rattle.site_posts.proofs.Behind.{joined_at}
use Rattle.site_posts.proofs.Taking.{book_within}
use Rattle.site_posts.specs.Books.{AreBooks, histories_of}
use Rattle.round_check.proofs.Taken.{shows_there}
use Rattle.round_check.proofs.Telling.{back, beyond, count_of, whole}
use Rattle.round_check.proofs.making.view_told.Goals as goal

shows : (s : PlainSite) (now : ℕ) (books : List Contents) (before round : Histories) (p : ℕ) (book : Contents) (v : View) → AreBooks s now books → histories_of books ≡ joined before round → slice_get books p ≡ Some book
    → v ≡ view_of (check_at (site_view book.site) book.index) book.entries → v ≡ view_of (check_at s p) (behind before round p)
shows s now books before round p book v are stand at is = shows_there s now books are p book at v is ∙ ap (view_of (check_at s p)) (ap (of_index p) stand ∙ joined_at before round p)

counts : (s : PlainSite) (before round : Histories) (p : ℕ) (v : View) → v ≡ view_of (check_at s p) (behind before round p) → v.count ≡ length (behind before round p)
counts s before round p v is = ap (λ (w : View). w.count) is ∙ count_of (check_at s p) (behind before round p)

pub returns-then-now-sight : goal.returns-then-now-sight
returns-then-now-sight c = λ s now before round are views stand.
    let p = c.args.sight.now.checkable in
    let book = c.index-books-sight.result in
    let at = book_within s now c.args.books.now are p book c.requires c.index-books-sight.is in
    let n = counts s before round p c.view-now.result (shows s now c.args.books.now before round p book c.view-now.result are stand at c.view-now.ensures) in
    beyond (check_at s p) (of_index p before) (of_index p round) c.args.sight.now.count (omega (arith, n, c.if-now-sight.true))

pub returns-then-later-eq0 : goal.returns-then-later-eq0
returns-then-later-eq0 c = λ s now before round are views stand.
    let p = c.args.sight.now.checkable in
    let book = c.index-books-sight.result in
    let at = book_within s now c.args.books.now are p book c.requires c.index-books-sight.is in
    let is = shows s now c.args.books.now before round p book c.view-now.result are stand at c.view-now.ensures in
    let n = counts s before round p c.view-now.result is in
    ap Some is ∙ whole (check_at s p) (of_index p before) (of_index p round) c.args.sight.now.count (omega (arith, n, c.if-now-sight.false, c.if-later-eq0.true))

pub returns : goal.returns
returns c = λ s now before round are views stand.
    let p = c.args.sight.now.checkable in
    let book = c.index-books-sight.result in
    let at = book_within s now c.args.books.now are p book c.requires c.index-books-sight.is in
    let n = counts s before round p c.view-now.result (shows s now c.args.books.now before round p book c.view-now.result are stand at c.view-now.ensures) in
    let later = c.view-now.result.count - c.args.sight.now.count in
    c.view_back.ensures
    ∙ ap (λ (vs : List View). cond (nat_lt (length vs) later) None (slice_get vs (length vs - later))) (c.at.ensures ∙ views p)
    ∙ back (check_at s p) (of_index p before) (of_index p round) c.args.sight.now.count later (omega (arith, n, c.if-now-sight.false)) (omega (arith, c.if-now-sight.false, c.if-later-eq0.false))
