-- One more is the next checkable.
use Rattle.std.proofs.Common.{ap, arith}
use Rattle.checkable_core.proofs.Listed.{length_map}
use Rattle.site_model.specs.PlainSite.{check_view, site_view}
use Rattle.turn_engine.proofs.Unwritten.{all_empty, one_more}
use Rattle.turn_engine.proofs.books.books_of.Goals as goal

pub loop-checkable-preserved : goal.loop-checkable-preserved
loop-checkable-preserved c =
    let made = c.in_ok-new.ensures in
    one_more (site_view c.args.site.now) c.loop-checkable.books.items c.push.new.self.items c.in_ok-new.field-0 c.loop-checkable.checkable c.loop-checkable.invariant c.in_ok-push.ensures.items
    (record {
      book_is = record {
        site = ap (λ b. site_view b.site) made;
        index = ap (λ b. b.index) made;
      };
      none = ap (λ b. b.entries) made;
    })

pub returns : goal.returns
returns c =
    let site = c.args.site.now in
    let n = c.len-checkable-end.ensures in
    let m = length_map check_view site.checkables in
    let a = c.loop-checkable-test.false in
    let b = c.loop-checkable.auto.checkable-end in
    all_empty (site_view site) c.loop-checkable.checkable c.loop-checkable.books.items (omega (arith, n, m, a, b)) c.loop-checkable.invariant
