-- The place of an act's checkable is its post.
use Rattle.std.proofs.Common.{◌≡◌, ◌<◌, ◌≤◌, ℕ, length, get_or, slice_get, Some, refl, sym, ap, ◌∙◌, arith, rules}
use Rattle.std.proofs.lemmas.Option.{slice_get_within}
use Rattle.site_posts.proofs.Ascending.{found, is_missed, place_fits}
use Rattle.site_posts.proofs.Jobs.{asks, is_job}
use Rattle.site_posts.proofs.many.job_of.Goals as goal

pub unreachable-requires : goal.unreachable-requires
unreachable-requires c = is_missed c.args.touched.now c.requires.ascends c.args.act.checkable c.in_default.field-0 c.in_default.ensures.position c.requires.act

pub overflow_cast-post : goal.overflow_cast-post
overflow_cast-post c =
    let ks = c.args.touched.now in
    let there = found ks c.requires.ascends c.args.act.checkable c.in-Ok.at c.in-Ok.ensures.position in
    let low = place_fits ks c.requires.ascends c.in-Ok.at (slice_get_within ks c.in-Ok.at c.args.act.checkable there) in
    let fits = c.type_inv.touched c.in-Ok.at in
    omega (arith, low, fits)

pub returns : goal.returns
returns c =
    let ks = c.args.touched.now in
    let post = c.in-Ok.at in
    let there = found ks c.requires.ascends c.args.act.checkable post c.in-Ok.ensures.position in
    let looks = c.from.result in
    let o = c.index-outlooks-at.result in
    (is_job ks c.args.outlooks.now post looks c.args.act.event o (slice_get_within ks post c.args.act.checkable there) c.index-outlooks-at.is c.requires.outlooks (search rules), asks ks c.args.outlooks.now post looks c.args.act.event c.args.act there refl)
