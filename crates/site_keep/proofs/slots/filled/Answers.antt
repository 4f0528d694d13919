-- One place after the other.
use Rattle.std.proofs.Common.{rules, ◌≡◌, length, IfSome, sym, subst, arith}
use Rattle.std.specs.Vec.Iter.{into_iter_items}
use Rattle.run_meaning.proofs.Lists.{length_map}
use Rattle.site_model.specs.PlainSite.{check_view, site_view}
use Rattle.site_keep.specs.Slots.{IsOf}
use Rattle.site_keep.proofs.FillLaws.{begin_filling, fill_step, fill_within, first_slot}
use Rattle.site_keep.proofs.slots.filled.Goals as goal

pub loop-slot-init : goal.loop-slot-init
loop-slot-init c = begin_filling (site_view c.args.site.now) c.args.slots.items c.in_ok-books.books.items (into_iter_items c.into_iter-slot-iterator.result) (search rules) (search rules) c.requires.are

pub book_at-requires-clause-place : goal.book_at-requires-clause-place
book_at-requires-clause-place c =
    let place : c.len-in-loop-slot.result ≡ length c.loop-slot.books.items = search rules in
    let within = fill_within (site_view c.args.site.now) c.args.slots.items c.loop-slot.books.items c.in-Some.slot (into_iter_items c.loop-slot.slot-iterator) (into_iter_items c.next.new.self) c.loop-slot.invariant c.in-Some.ensures.steps.0 in
    omega (arith, place, within, length_map check_view c.args.site.now.checkables)

pub book_at-requires-clause-own : goal.book_at-requires-clause-own
book_at-requires-clause-own c =
    let s = site_view c.args.site.now in
    let place : c.len-in-loop-slot.result ≡ length c.loop-slot.books.items = search rules in
    subst (λ i. IfSome c.in-Some.slot (IsOf s i)) (sym place)
    (first_slot s c.args.slots.items c.loop-slot.books.items c.in-Some.slot (into_iter_items c.loop-slot.slot-iterator) (into_iter_items c.next.new.self) c.loop-slot.invariant c.in-Some.ensures.steps.0)

pub loop-slot-preserved : goal.loop-slot-preserved
loop-slot-preserved c =
    let s = site_view c.args.site.now in
    let place : c.len-in-loop-slot.result ≡ length c.loop-slot.books.items = search rules in
    fill_step s c.args.slots.items c.loop-slot.books.items _ c.in-Some.slot (into_iter_items c.loop-slot.slot-iterator) (into_iter_items c.next.new.self) c.in_ok-book.book c.loop-slot.invariant c.in-Some.ensures.steps.0
    c.in_ok-book.ensures.entries (subst (λ i. IsOf s i c.in_ok-book.book) place c.in_ok-book.ensures.own) c.in_ok-push.ensures.items
