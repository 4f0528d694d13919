-- One checkable after the other.
use Rattle.std.proofs.Common.{◌<◌, length, refl, ◌∙◌, arith}
use Rattle.std.proofs.lemmas.Option.{slice_get_read}
use Rattle.checkable_core.proofs.Listed.{check_is}
use Rattle.checkable_core.specs.Contents.{check_at}
use Rattle.run_meaning.proofs.Lists.{length_map}
use Rattle.site_model.specs.PlainSite.{check_view, site_view}
use Rattle.site_keep.proofs.WriteLaws.{checkable_more}
use Rattle.site_keep.proofs.saving.write_checkables.Goals as goal

pub loop-i-preserved : goal.loop-i-preserved
loop-i-preserved c =
    let s = site_view c.args.site.now in
    let i = c.loop-i.i in
    let within : i < length s.checkables = omega (arith, c.loop-i-test.true, c.requires.whole, length_map check_view c.args.site.now.checkables) in
    let at = slice_get_read c.args.lines.now (length c.args.lines.now) i c.index-lines-i.result refl c.loop-i-test.true c.index-lines-i.is in (
      checkable_more i s.checkables c.args.lines.now (check_at s i) c.index-lines-i.result c.loop-i.out.tokens c.write_checkable.new.out.tokens _ (check_is s.checkables i within) at
          c.in_ok-write_checkable.ensures.0 c.loop-i.invariant.0,
      c.in_ok-write_checkable.ensures.1 ∙ c.loop-i.invariant.1,
    )
