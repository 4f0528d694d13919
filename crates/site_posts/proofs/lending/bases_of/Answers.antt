-- One base more is made.
use Rattle.std.proofs.Common.{[], ◌∷◌, length, refl, ap, ◌∙◌, arith, length-append}
use Rattle.site_model.specs.PlainSite.{site_view}
use Rattle.site_posts.proofs.Basing.{one_based}
use Rattle.site_posts.proofs.lending.bases_of.Goals as goal

pub loop-checkable-preserved : goal.loop-checkable-preserved
loop-checkable-preserved c =
    let before = c.loop-checkable.invariant in
    let touched = c.args.touched.now in
    let setting = c.args.setting.now in
    let i = c.loop-checkable.checkable-index in
    record {
      count = (let n = before.count in let l = ap length c.in-Some.ensures.items ∙ length-append c.pop.new.self.items (c.in-Some.start ∷ []) in omega (arith, n, l));
      based = λ books left are t.
          one_based (site_view setting.site.now) setting.zone.now setting.moment books touched are c.requires.ascends i c.loop-checkable-test.true c.loop-checkable.bases.items c.push.new.self.items _ c.in_ok-push.ensures.items
          refl c.requires.graph refl refl refl refl c.pop.new.self.items c.loop-checkable.taken.items c.in-Some.ensures.items (before.based books left are t);
    }
