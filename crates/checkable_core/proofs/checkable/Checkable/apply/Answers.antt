-- The entry is the one of the definition, and the checkable shows it.
use Rattle.std.proofs.Common.{◌≡◌, ◌<◌, ◌++◌, ◌∷◌, [], List, get_or, length, map, refl, sym, ap, ◌∙◌, arith, subst}
use Rattle.check_state.specs.Stands as shown
use Rattle.downtime_book.specs.Contents as book
use Rattle.run_meaning.specs.Downtimes.{calls_from}
use Rattle.site_model.specs.PlainSite.{PlainCheck, PlainSite, check_view, site_view}
use Rattle.site_model.specs.declared.check_spec.CheckSpec.{CheckSpec}
use Rattle.site_model.specs.declared.event.Event.{Event}
use Rattle.site_model.specs.declared.site.Site.{Site}
use Rattle.checkable_core.specs.Contents.{Contents, check_at}
use Rattle.checkable_core.specs.Drafts.{Drafts}
use Rattle.checkable_core.specs.Entries.{entry_made}
use Rattle.checkable_core.specs.Keeping.{IsKept}
use Rattle.checkable_core.specs.declared.draft.Draft.{Draft}
use Rattle.checkable_core.specs.declared.running.Running.{Running}
use Rattle.checkable_core.proofs.Listed.{length_map, spec_is}
use Rattle.checkable_core.proofs.Made.{drafted, made, parts}
use Rattle.checkable_core.proofs.checkable.Checkable.apply.Goals as goal

-- the draft, as it is of the site's checkable
drafts_at : (site : Site) (cs : List CheckSpec) (k : _) (d : CheckSpec) (r : Running) (h : List _) (moment : _) (v : Event) (made : Draft) → IsKept (site_view site) k r h → cs ≡ site.checkables → d ≡ get_or cs k d →
    ((h : List _) → shown.StandsFor r.status (check_view d) h → book.StandsFor r.book (calls_from (check_view d) 1 h) → Drafts made (check_view d) h moment v) → Drafts made (check_at (site_view site) k) h moment v
drafts_at site cs k d r h moment v made kept own is drafts =
    let within : k < length site.checkables = let many : length (map check_view site.checkables) ≡ length site.checkables = length_map check_view site.checkables in let below = kept.within in omega (arith, many, below) in
    let spec : check_view d ≡ check_at (site_view site) k = ap check_view is ∙ ap (λ (xs : List CheckSpec). check_view (get_or xs k d)) own ∙ spec_is site.checkables k d within in
    subst (λ (x : PlainCheck). Drafts made x h moment v) spec
    (drafts h (subst (λ (x : PlainCheck). shown.StandsFor r.status x h) (sym spec) kept.keeps.status) (subst (λ (x : PlainCheck). book.StandsFor r.book (calls_from x 1 h)) (sym spec) kept.keeps.book))

pub keep-requires-clause-shown : goal.keep-requires-clause-shown
keep-requires-clause-shown c =
    let s = site_view c.args.site.now in
    let k = c.self.inside.index in
    let h = c.self.inside.entries.items in
    let own : site_view c.self.inside.site.value ≡ s = ap (λ (x : Contents). site_view x.site) c.self.view_is ∙ c.requires.site in
    let kept = subst (λ (t : PlainSite). IsKept t k c.self.inside.running h) own c.self.invariant in
    let made = c.draft-made.result in
    let drafts = drafts_at c.args.site.now c.as_slice.result.now k c.index-as_slice-index.result c.self.inside.running h c.args.moment c.args.event made kept c.as_slice.ensures c.index-as_slice-index.is c.draft-made.ensures in
    let e = parts c.args.caller c.args.moment c.args.event made.taken c.view-view.result c.view-view.result.count c.in-Ok-sights_of.seen c.in-Ok.decided in
    subst (λ (x : Contents). shown.StandsFor made.status (check_at (site_view x.site) x.index) (x.entries ++ e ∷ [])) c.self.view_is
    (subst (λ (t : PlainSite). shown.StandsFor made.status (check_at t k) (h ++ e ∷ [])) (sym own) (drafts.status e refl refl refl))

pub returns-in-Ok-keep-clause-entry : goal.returns-in-Ok-keep-clause-entry
returns-in-Ok-keep-clause-entry c =
    let s = site_view c.args.site.now in
    let zone = c.args.zone.now in
    let k = c.self.inside.index in
    let h = c.self.inside.entries.items in
    let v = c.args.event in
    let seen = c.args.sights.now in
    let own : site_view c.self.inside.site.value ≡ s = ap (λ (x : Contents). site_view x.site) c.self.view_is ∙ c.requires.site in
    let kept = subst (λ (t : PlainSite). IsKept t k c.self.inside.running h) own c.self.invariant in
    let d = c.draft-made.result in
    let drafts = drafts_at c.args.site.now c.as_slice.result.now k c.index-as_slice-index.result c.self.inside.running h c.args.moment v d kept c.as_slice.ensures c.index-as_slice-index.is c.draft-made.ensures in
    let draft = drafted s zone k h c.args.caller c.args.moment v seen d drafts in
    made s zone k h c.args.caller c.args.moment v seen d drafts c.view-view.result c.in-Ok-sights_of.seen c.in-Ok.decided c.view-view.ensures c.in-Ok-sights_of.ensures (c.in-Ok.ensures h draft kept drafts refl refl refl)
    ∙ ap (λ (x : Contents). entry_made s zone x.index x.entries c.args.caller c.args.moment v seen) c.self.view_is
