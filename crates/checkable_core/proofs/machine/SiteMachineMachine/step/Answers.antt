-- A deed is applied to the machine's checkable.
use Rattle.std.proofs.Common.{◌≡◌, ◌++◌, ◌∷◌, [], ℕ, sym, ap, ◌∙◌, arith, subst}
use Rattle.run_meaning.specs.Dealing.{last_moment}
use Rattle.site_model.specs.PlainSite.{site_view}
use Rattle.site_model.specs.declared.entry.Entry.{Entry}
use Rattle.checkable_core.specs.Contents.{with_entry}
use Rattle.checkable_core.specs.Entries.{entry_made}
use Rattle.checkable_core.specs.Machines.{IsFit, entry_by}
use Rattle.checkable_core.proofs.Listed.{last_more}
use Rattle.checkable_core.proofs.machine.SiteMachineMachine.step.Goals as goal

pub returns-in-Ok-clause-entry : goal.returns-in-Ok-clause-entry
returns-in-Ok-clause-entry c =
    let m = c.args.self.now in
    let k = c.args.state.now in
    let d = c.args.event in
    let made : c.in-Ok.entry ≡ entry_by m k c.args.caller d =
    c.in-Ok.ensures.entry
    ∙ ap (λ (i : ℕ). entry_made (site_view m.site.now) m.zone.now i k.entries c.args.caller d.moment d.event c.as_slice.result.now) c.requires.fit.index
    ∙ ap (λ seen. entry_made (site_view m.site.now) m.zone.now m.checkable k.entries c.args.caller d.moment d.event seen) c.as_slice.ensures in
    (made, ap (λ (e : Entry). e.caller) made)

pub returns-in-Ok-clause-state : goal.returns-in-Ok-clause-state
returns-in-Ok-clause-state c =
    let m = c.args.self.now in
    let k = c.args.state.now in
    let e = c.in-Ok.entry in
    let fit = c.requires.fit in
    let at : e.moment ≡ c.args.event.moment = ap (λ (x : Entry). x.moment) c.in-Ok.ensures.entry in
    let last : last_moment (k.entries ++ e ∷ []) ≡ e.moment = last_more k.entries e in
    let due = c.requires.lawful.moment in
    let more : IsFit m (with_entry k e) = record { site = fit.site; index = fit.index; graph = fit.graph; moment = omega (arith, last, at, due) } in
    (c.in-Ok.ensures.kept, subst (IsFit m) (sym c.in-Ok.ensures.kept) more)
