-- The book comes to its place, and the one that stood there to the end.
use Rattle.std.proofs.Common.{◌<◌, get_or, length, sym, ap, ◌∙◌, arith}
use Rattle.site_posts.proofs.Returning.{put_ahead}
use Rattle.site_posts.proofs.lending.put.Goals as goal

pub returns-in_ok-push : goal.returns-in_ok-push
returns-in_ok-push c = λ all d h is.
    let old = c.args.books.now.items in
    let inside : c.args.checkable < length old = (let t = c.if-at-len.true in let n = c.len.ensures in let o = c.args.books.now.ok.0 in omega (arith, t, n, o)) in
    let at = c.replace-last.ensures.value ∙ c.index_mut.ensures.value ∙ ap (get_or old c.args.checkable) (sym c.replace-last.ensures.value) in
    put_ahead all old c.push.new.self.items c.args.checkable d c.args.book h is c.replace-last.new.dest c.replace-last.result c.replace-last.ensures.after inside at c.in_ok-push.ensures.items
