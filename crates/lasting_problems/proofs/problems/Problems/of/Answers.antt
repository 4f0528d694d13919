-- One checkable after the other is noted.
use Rattle.std.proofs.Common.{◌≡◌, ◌<◌, ◌≤◌, length, Some, refl, sym, ap, ◌∙◌, arith}
use Rattle.std.proofs.lemmas.List.{take_all}
use Rattle.std.proofs.lemmas.Option.{slice_get-get_or}
use Rattle.site_posts.specs.Books.{histories_of}
use Rattle.lasting_problems.specs.Lasting.{lasting}
use Rattle.lasting_problems.specs.Noted.{noted}
use Rattle.lasting_problems.proofs.Rounding.{book_lasts, many_lasting}
use Rattle.lasting_problems.proofs.Showing.{lasting_at, one_more}
use Rattle.lasting_problems.proofs.problems.Problems.of.Goals as goal

pub loop-checkable-preserved : goal.loop-checkable-preserved
loop-checkable-preserved c = λ s moment are.
    let k = c.loop-checkable.checkable in
    let books = c.args.books.now in
    let h = histories_of books in
    let book = c.index-books-checkable.result in
    let l = c.loop-checkable-test.true in
    let within : k < length books = omega (arith, l) in
    let at = slice_get-get_or books k book within ∙ ap Some (sym c.index-books-checkable.is) in
    let whole = are.whole in
    one_more k (lasting s h) c.lasting_of.result c.loop-checkable.problems c.note.new.self
    (lasting_at s h k (omega (arith, within, whole)) ∙ ap Some (sym (c.lasting_of.ensures ∙ book_lasts s moment books k book h are at refl)))
    (c.loop-checkable.invariant s moment are)
    c.in_ok-note.ensures.noted

pub returns : goal.returns
returns c = λ s moment are.
    let k = c.loop-checkable.checkable in
    let all = lasting s (histories_of c.args.books.now) in
    let l = c.loop-checkable-test.false in
    let whole = are.whole in
    let many = many_lasting 0 s.checkables (histories_of c.args.books.now) in
    c.loop-checkable.invariant s moment are ∙ ap noted (take_all k all (omega (arith, l, whole, many)))
