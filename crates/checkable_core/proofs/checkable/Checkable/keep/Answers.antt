-- One entry more, or all as before.
use Rattle.std.proofs.Common.{◌≤◌, ◌++◌, ◌∷◌, [], List, sym, ap, ◌∙◌, subst}
use Rattle.check_state.specs.Stands.{StandsFor}
use Rattle.run_meaning.specs.Dealing.{last_moment}
use Rattle.site_model.specs.PlainSite.{site_view}
use Rattle.site_model.specs.declared.entry.Entry.{Entry}
use Rattle.checkable_core.specs.Contents.{Contents, check_at, with_entry}
use Rattle.checkable_core.specs.Keeping.{Keeps}
use Rattle.checkable_core.proofs.checkable.Checkable.keep.Goals as goal

pub invariant_of-self-2 : goal.invariant_of-self-2
invariant_of-self-2 c =
    let s = site_view c.self.inside.site.value in
    let k = c.self.inside.index in
    let h = c.self.inside.entries.items in
    let e = c.args.entry.now in
    let shown = subst (λ (x : Contents). StandsFor c.args.status (check_at (site_view x.site) x.index) (x.entries ++ e ∷ [])) (sym c.self.view_is) c.requires.shown in
    let late = subst (λ (x : Contents). last_moment x.entries ≤ e.moment) (sym c.self.view_is) c.requires.moment in
    let keeps = c.in_ok-keep.ensures.ok s k (check_at s k) h c.self.invariant.keeps late shown in
    record { within = c.self.invariant.within; keeps = subst (λ (es : List Entry). Keeps c.keep.new.self s k (check_at s k) es) (sym c.and.ensures) keeps }

pub returns-clause-ok : goal.returns-clause-ok
returns-clause-ok c =
    ap (λ (es : List Entry). record { site = c.self.inside.site.value; index = c.self.inside.index; entries = es }) c.and.ensures ∙ ap (λ (x : Contents). with_entry x c.args.entry.now) c.self.view_is
