-- One outlook more.
use Rattle.std.proofs.Common.{◌≡◌, ◌<◌, ◌+◌, ◌++◌, ◌∷◌, [], length, get_or, sym, ap, ◌∙◌, length-append}
use Rattle.std.proofs.lemmas.Option.{slice_get-get_or}
use Rattle.site_model.specs.PlainSite.{site_view}
use Rattle.site_posts.proofs.Leading.{outlooks_more}
use Rattle.site_posts.specs.Books.{histories_of}
use Rattle.site_posts.proofs.many.outlooks_of.Goals as goal

pub loop-checkable-preserved : goal.loop-checkable-preserved
loop-checkable-preserved c =
    let ks = c.args.touched.now in
    let i = c.loop-checkable.checkable-index in
    let old = c.loop-checkable.outlooks.items in
    let o = c.in_ok-outlook_of.field-0 in
    let before = c.loop-checkable.invariant in
    record {
      count = ap length c.in_ok-push.ensures.items ∙ length-append old (o ∷ []) ∙ ap (λ n. n + 1) before.count;
      each = outlooks_more (site_view c.args.setting.now.site.now) (histories_of c.args.books.now) ks old c.push.new.self.items i (get_or ks i 0) o before.count before.each
          (slice_get-get_or ks i 0 c.loop-checkable-test.true) c.in_ok-outlook_of.ensures c.in_ok-push.ensures.items;
    }
