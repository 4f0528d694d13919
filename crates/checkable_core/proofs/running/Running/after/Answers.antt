-- The next entry is kept, as the checkable of the site shows it.
use Rattle.std.proofs.Common.{◌≡◌, ◌+◌, ◌∷◌, ◌++◌, [], List, get_or, take, drop, sym, ap, ◌∙◌, arith, subst}
use Rattle.run_meaning.specs.Dealing.{last_moment}
use Rattle.site_model.specs.PlainSite.{check_view, site_view}
use Rattle.site_model.specs.declared.check_spec.CheckSpec.{CheckSpec}
use Rattle.site_model.specs.declared.entry.Entry.{Entry}
use Rattle.checkable_core.specs.Contents.{check_at}
use Rattle.checkable_core.specs.Histories.{Rises}
use Rattle.checkable_core.specs.Keeping.{IsKept}
use Rattle.checkable_core.proofs.Kept.{at_check}
use Rattle.checkable_core.proofs.Listed.{last_more, rises_next, spec_is, take_more}
use Rattle.checkable_core.proofs.running.Running.after.Goals as goal

pub loop-entry-preserved : goal.loop-entry-preserved
loop-entry-preserved c =
    let s = site_view c.args.site.now in
    let k = c.args.checkable in
    let es = c.args.entries.now in
    let i = c.loop-entry.entry-index in
    let e = c.entry-item.result in
    let d = c.index-as_slice-checkable.result in
    let so_far = c.loop-entry.invariant in
    let spec : check_view d ≡ check_at s k =
    ap check_view c.index-as_slice-checkable.is ∙ ap (λ (cs : List CheckSpec). check_view (get_or cs k d)) c.as_slice.ensures ∙ spec_is c.args.site.now.checkables k d c.requires.checkable in
    let (late, rest) = rises_next (last_moment (take i es)) i es e so_far.order c.loop-entry-test.true in
    let at : e.moment ≡ (get_or es i e).moment = ap (λ (x : Entry). x.moment) c.entry-item.is in
    let more : take (i + 1) es ≡ take i es ++ e ∷ [] = take_more i es e c.loop-entry-test.true ∙ ap (λ (x : Entry). take i es ++ x ∷ []) (sym c.entry-item.is) in
    let last : last_moment (take (i + 1) es) ≡ (get_or es i e).moment = ap last_moment more ∙ last_more (take i es) e ∙ at in
    let kept = c.in_ok-take.ensures s k (take i es) (at_check c.loop-entry.running s k (check_at s k) (check_view d) (take i es) (sym spec) so_far.kept.keeps) (omega (arith, late, at)) in
    record {
      kept = subst (λ (h : List Entry). IsKept s k c.take.new.self h) (sym more) (record { within = so_far.kept.within; keeps = at_check c.take.new.self s k (check_view d) (check_at s k) (take i es ++ e ∷ []) spec kept });
      order = subst (λ m. Rises m (drop (i + 1) es)) (sym last) rest;
    }
