-- One checkable after the other.
use Rattle.std.proofs.Common.{rules, ◌≡◌, ◌<◌, get_or, length, map, sym, ap, ◌∙◌, subst, arith}
use Rattle.checkable_core.specs.Contents.{Contents}
use Rattle.checkable_core.specs.Histories.{IsHistory}
use Rattle.site_model.specs.Names.{place_of}
use Rattle.site_model.specs.PlainSite.{PlainCheck, check_view, full_names, site_view}
use Rattle.site_model.specs.declared.check_spec.CheckSpec.{CheckSpec}
use Rattle.history_carry.specs.Carried.{history_at}
use Rattle.history_carry.proofs.Lawful.{at_own}
use Rattle.history_carry.proofs.Making.{as_many, name_at, one_made}
use Rattle.history_carry.proofs.carrying.checkables_with.Goals as goal

pub restored-requires-clause-lawful : goal.restored-requires-clause-lawful
restored-requires-clause-lawful c =
    let t = site_view c.args.new.now in
    let others = full_names (site_view c.args.old.now) in
    subst (IsHistory t) (sym c.entries_of-entries.ensures) (at_own t c.args.histories.now (place_of c.as_str.result.now others) c.requires.lawful)

pub loop-check-preserved : goal.loop-check-preserved
loop-check-preserved c =
    let t = site_view c.args.new.now in
    let others = full_names (site_view c.args.old.now) in
    let hs = c.args.histories.now in
    let i = c.loop-check.check-index in
    let check : CheckSpec = c.check-item.result in
    let items = c.as_slice-check-items.result.now in
    let same : items ≡ c.args.new.now.checkables = c.as_slice-check-items.ensures in
    let test : i < length items = c.loop-check-test.true in
    let inside : i < length (full_names t) = omega (arith, test, as_many c.args.new.now.checkables, ap length same) in
    let at : check.name ≡ get_or (full_names t) i check.name =
    name_at items i check test c.check-item.is ∙ ap (λ xs. get_or (map (λ (x : PlainCheck). x.name) (map check_view xs)) i check.name) same in
    let place : c.len-in-loop-check.result ≡ length c.loop-check.books.items = search rules in
    one_made t others hs i check.name c.loop-check.books.items c.push.new.self.items c.in_ok-book.book inside at c.loop-check.invariant
    (ap (λ (b : Contents). b.entries) c.in_ok-book.ensures ∙ c.entries_of-entries.ensures ∙ ap (λ n. history_at hs (place_of n others)) c.as_str.ensures)
    (record { site = ap (λ (b : Contents). site_view b.site) c.in_ok-book.ensures; index = ap (λ (b : Contents). b.index) c.in_ok-book.ensures ∙ place })
    c.in_ok-push.ensures.items
