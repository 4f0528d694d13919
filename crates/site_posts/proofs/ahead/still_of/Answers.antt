-- An ancestor on which callers act has its place, and another shows what its book does.
use Rattle.std.proofs.Common.{◌≡◌, ◌<◌, ◌≤◌, ℕ, length, get_or, slice_get, Some, refl, sym, ap, ◌∙◌, arith}
use Rattle.std.proofs.lemmas.Option.{slice_get_within, slice_get-get_or}
use Rattle.site_posts.proofs.Ascending.{found, not_found, place_fits}
use Rattle.site_posts.proofs.Leading.{still_is}
use Rattle.site_posts.proofs.ahead.still_of.Goals as goal

pub overflow_cast-post : goal.overflow_cast-post
overflow_cast-post c =
    let ks = c.args.touched.now in
    let there = found ks c.requires.ascends c.args.ancestor c.in-Ok.post c.in-Ok.ensures.position in
    let low = place_fits ks c.requires.ascends c.in-Ok.post (slice_get_within ks c.in-Ok.post c.args.ancestor there) in
    let fits = c.type_inv.touched c.in-Ok.post in
    omega (arith, low, fits)

pub returns-in_ok-push-in-Ok : goal.returns-in_ok-push-in-Ok
returns-in_ok-push-in-Ok c = λ s now are. (c.in-Ok.post, found c.args.touched.now c.requires.ascends c.args.ancestor c.in-Ok.post c.in-Ok.ensures.position, c.in_ok-push-in-Ok.ensures.items)

pub returns-in-Err : goal.returns-in-Err
returns-in-Err c = λ s now are.
    let book = c.index-books-ancestor.result in (
      still_is s now c.args.books.now c.args.ancestor book c.view.result are (slice_get-get_or c.args.books.now c.args.ancestor book c.requires.within ∙ ap Some (sym c.index-books-ancestor.is)) c.view.ensures,
      not_found c.args.touched.now c.requires.ascends c.args.ancestor c.in-Err.field-0 c.in-Err.ensures.position,
      refl,
    )
