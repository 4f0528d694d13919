use Rattle.std.proofs.Common.{◌≡◌, ◌-◌, ◌+◌, ◌<◌, [], length, map, ◌∙◌, ap, subst, sym, arith, true≢false}
use Rattle.std.proofs.lemmas.List.{length-set}
use Rattle.std.proofs.lemmas.List.Elements.{recursion_from_All}
use Rattle.run_meaning.specs.Turns.{from_on}
use Rattle.site_audit.specs.Order.{blocked, followers, less_by, order_from, zeros}
use Rattle.site_audit.proofs.Ordering.{IsWithin, below_all, first_taken, map_length, next_taken, no_keys, none_taken, all_are_taken, ready_are, row_added, waits_first, waits_next}
use Rattle.site_audit.proofs.order.all_taken.Goals as goal

pub loop-init : goal.loop-init
loop-init c =
    let n = c.args.count in
    let ps = c.args.pairs.now in
    let z : n - 0 ≡ n = omega arith in (
      c.in_ok-waits.ensures ∙ (waits_first n ps (recursion_from_All (IsWithin n) ps c.requires) ∙ ap (λ o. map (blocked o ps) (from_on 0 n)) (sym c.new-order.ensures.items)),
      c.in_ok-ready.ensures ∙ ap zeros c.as_slice.ensures.value,
      ap (λ k. order_from k n ps c.new-order.result.items) z ∙ ap (order_from n n ps) c.new-order.ensures.items,
    )

pub returns-in_default : goal.returns-in_default
returns-in_default c =
    let n = c.args.count in
    let ps = c.args.pairs.now in
    let none = no_keys c.loop.ready.keys (λ h. true≢false (sym (c.in_default.ensures.variant.1 h))) in
    none_taken n c.loop.counter c.loop.order.items (order_from n n ps []) ps c.loop-test.true
    (sym (ready_are n c.loop.order.items ps c.loop.waits.items c.loop.invariant.0) ∙ (sym c.loop.invariant.1 ∙ none)) c.loop.invariant.2

pub take-requires-clause-within : goal.take-requires-clause-within
take-requires-clause-within c = (first_taken c.in-Some.next c.loop.waits.items c.pop_first.new.self.keys (sym c.loop.invariant.1 ∙ c.in-Some.ensures.removal)).within

pub take-requires-clause-free : goal.take-requires-clause-free
take-requires-clause-free c = (first_taken c.in-Some.next c.loop.waits.items c.pop_first.new.self.keys (sym c.loop.invariant.1 ∙ c.in-Some.ensures.removal)).free

pub index-requires : goal.index-requires
index-requires c =
    let first = first_taken c.in-Some.next c.loop.waits.items c.pop_first.new.self.keys (sym c.loop.invariant.1 ∙ c.in-Some.ensures.removal) in
    let within = first.within in
    let len = ap length c.loop.invariant.0 ∙ map_length 0 c.args.count (blocked c.loop.order.items c.args.pairs.now) in
    let many = c.in_ok-rows.ensures.many in
    let ok = c.in_ok-rows.rows.ok.0 in
    omega (arith, within, len, many, ok)

pub let_go-requires-clause-within : goal.let_go-requires-clause-within
let_go-requires-clause-within c =
    let n = c.args.count in
    let ps = c.args.pairs.now in
    let k = c.in-Some.next in
    let first = first_taken k c.loop.waits.items c.pop_first.new.self.keys (sym c.loop.invariant.1 ∙ c.in-Some.ensures.removal) in
    let len = ap length c.loop.invariant.0 ∙ map_length 0 n (blocked c.loop.order.items ps) in
    let within : k < length c.in_ok-rows.rows.items = subst (λ m. k < m) (len ∙ sym c.in_ok-rows.ensures.many) first.within in
    below_all n k ps c.as_slice-in-loop.result.now c.take.new.waits.items (recursion_from_All (IsWithin n) ps c.requires)
    (c.as_slice-in-loop.ensures ∙ (row_added c.in_ok-rows.rows.items k c.index.result.now within c.index.ensures ∙ c.in_ok-rows.ensures.each k))
    (ap length c.take.ensures ∙ (length-set c.loop.waits.items k _ ∙ len))

pub let_go-requires-clause-ready : goal.let_go-requires-clause-ready
let_go-requires-clause-ready c =
    (first_taken c.in-Some.next c.loop.waits.items c.pop_first.new.self.keys (sym c.loop.invariant.1 ∙ c.in-Some.ensures.removal)).left ∙ ap zeros (sym c.take.ensures)

pub loop-preserved : goal.loop-preserved
loop-preserved c =
    let n = c.args.count in
    let ps = c.args.pairs.now in
    let k = c.in-Some.next in
    let done = c.loop.order.items in
    let e = sym c.loop.invariant.1 ∙ c.in-Some.ensures.removal in
    let first = first_taken k c.loop.waits.items c.pop_first.new.self.keys e in
    let len = ap length c.loop.invariant.0 ∙ map_length 0 n (blocked done ps) in
    let within : k < length c.in_ok-rows.rows.items = subst (λ m. k < m) (len ∙ sym c.in_ok-rows.ensures.many) first.within in
    let row = c.as_slice-in-loop.ensures ∙ (row_added c.in_ok-rows.rows.items k c.index.result.now within c.index.ensures ∙ c.in_ok-rows.ensures.each k) in (
      c.in_ok-let_go.ensures.waits
          ∙ (ap (λ ks. less_by ks c.take.new.waits.items) row
          ∙ (ap (less_by (followers ps k)) c.take.ensures
          ∙ (waits_next n k done ps c.loop.waits.items (recursion_from_All (IsWithin n) ps c.requires) (subst (λ m. k < m) len first.within) c.loop.invariant.0 first.free
          ∙ ap (λ o. map (blocked o ps) (from_on 0 n)) (sym c.in_ok-push.ensures.items)))),
      c.in_ok-let_go.ensures.ready,
      ap (order_from (n - (c.loop.counter + 1)) n ps) c.in_ok-push.ensures.items
          ∙ next_taken n c.loop.counter k done c.pop_first.new.self.keys (order_from n n ps []) ps c.loop-test.true (sym (ready_are n done ps c.loop.waits.items c.loop.invariant.0) ∙ e) c.loop.invariant.2,
    )

pub returns : goal.returns
returns c = all_are_taken c.args.count c.loop.counter c.loop.order.items _ c.args.pairs.now c.loop-test.false c.loop.invariant.2
