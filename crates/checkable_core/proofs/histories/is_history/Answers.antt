-- The next entry decides with the rest, or alone that they are none.
use Rattle.std.proofs.Common.{◌≡◌, ◌+◌, ◌∷◌, ◌==◌, nat_le, [], drop, sym, ap, ◌∙◌, subst}
use Rattle.std.specs.Option.{IfSome}
use Rattle.site_model.specs.PlainSite.{site_view}
use Rattle.site_model.specs.declared.entry.Entry.{Entry}
use Rattle.checkable_core.specs.HistoryTests.{is_entry_of, is_history_from}
use Rattle.notify_rules.proofs.Lists.{drop_next, drop_past}
use Rattle.checkable_core.proofs.Tests.{fails, passes, tells}
use Rattle.checkable_core.proofs.histories.is_history.Goals as goal

pub loop-index-init : goal.loop-index-init
loop-index-init c =
    let first : c.unwrap-last.result ≡ 0 = subst (λ o. IfSome o (λ m. m ≡ 0)) c.unwrap-last.ensures c.of.ensures.value in
    ap (λ m. is_history_from (site_view c.args.site.now) 0 m c.args.entries.now) first

pub loop-index-preserved : goal.loop-index-preserved
loop-index-preserved c =
    let s = site_view c.args.site.now in
    let es = c.args.entries.now in
    let i = c.loop-index.index in
    let last = c.loop-index.last in
    let e = c.index-entries-index.result in
    let rest = drop (i + 1) es in
    let next : drop i es ≡ e ∷ rest = drop_next i es e c.loop-index-test.true ∙ ap (λ (x : Entry). x ∷ rest) (sym c.index-entries-index.is) in
    sym (passes (e.number == i + 1) (nat_le last e.moment) (is_entry_of s e) (is_history_from s (i + 1) e.moment rest) (sym c.is_next.ensures ∙ c.if-not-is_next.false))
    ∙ ap (is_history_from s i last) (sym next) ∙ c.loop-index.invariant

pub returns-then-not-is_next : goal.returns-then-not-is_next
returns-then-not-is_next c =
    let s = site_view c.args.site.now in
    let es = c.args.entries.now in
    let i = c.loop-index.index in
    let last = c.loop-index.last in
    let e = c.index-entries-index.result in
    let rest = drop (i + 1) es in
    let next : drop i es ≡ e ∷ rest = drop_next i es e c.loop-index-test.true ∙ ap (λ (x : Entry). x ∷ rest) (sym c.index-entries-index.is) in
    tells s es _
    (sym (fails (e.number == i + 1) (nat_le last e.moment) (is_entry_of s e) (is_history_from s (i + 1) e.moment rest) (sym c.is_next.ensures ∙ c.if-not-is_next.true))
    ∙ ap (is_history_from s i last) (sym next) ∙ c.loop-index.invariant)

pub returns : goal.returns
returns c =
    let s = site_view c.args.site.now in
    let es = c.args.entries.now in
    let past : drop c.loop-index.index es ≡ [] = drop_past c.loop-index.index es c.loop-index-test.false in
    tells s es _ (ap (is_history_from s c.loop-index.index c.loop-index.last) (sym past) ∙ c.loop-index.invariant)
