-- Each note is of the next notification of the checkable.
use Rattle.std.proofs.Common.{◌≡◌, ◌<◌, ◌+◌, ◌++◌, ◌∷◌, ℕ, List, [], None, Some, All, length, get_or, drop, map, slice_get, sym, ap, ◌∙◌, subst, arith, append-nil}
use Rattle.std.proofs.lemmas.List.{length-map}
use Rattle.std.proofs.lemmas.List.Elements.{All-push}
use Rattle.std.proofs.lemmas.Option.{slice_get-get_or}
use Rattle.site_model.specs.PlainSite.{PlainCheck, check_view, site_view}
use Rattle.site_model.specs.declared.check_spec.CheckSpec.{CheckSpec}
use Rattle.site_model.specs.declared.notify_spec.NotifySpec.{NotifySpec}
use Rattle.run_meaning.specs.Turns.{of_index}
use Rattle.notify_rules.specs.Sent.{notes_from, number_of, untold}
use Rattle.notify_rules.specs.declared.sent_note.SentNote.{SentNote}
use Rattle.notify_rules.proofs.Decided.{spec_at}
use Rattle.notify_rules.proofs.Indexing.{notes_below, numbers_more}
use Rattle.notify_rules.proofs.Lists.{drop_past}
use Rattle.notify_rules.proofs.Standing.{IsMade, row, stands_empty}
use Rattle.notify_rules.proofs.sent_book.SentBook.new.Goals as goal

pub of_checkable-place-items-requires : goal.of_checkable-place-items-requires
of_checkable-place-items-requires c =
    let many = length-map c.args.site.now.checkables check_view in
    let all = c.requires.index.many in
    let below = c.requires.checkable in
    omega (arith, many, all, below)

-- a number of the list is a place among the notifications
within : (k i : ℕ) (ns : List NotifySpec) (places : List ℕ) → places ≡ notes_from k 0 ns → i < length places → get_or places i 0 < length ns
within k i ns places is l = let low = subst (All (λ n. n < 0 + length ns)) (sym is) (notes_below k 0 ns) i 0 l in omega (arith, low)

pub bounds-as_slice-place : goal.bounds-as_slice-place
bounds-as_slice-place c =
    let k = c.args.checkable in
    let ns = c.args.site.now.notifies in
    let many = length-map c.args.site.now.checkables check_view in
    let inside : k < length (site_view c.args.site.now).checkables = let below = c.requires.checkable in omega (arith, many, below) in
    let low = within k c.loop-place.place-index ns c.of_checkable-place-items.result.now (c.of_checkable-place-items.ensures ∙ c.requires.index.own k inside) c.loop-place-test.true in
    let e = ap length c.as_slice.ensures in
    omega (arith, low, e)

pub loop-place-preserved : goal.loop-place-preserved
loop-place-preserved c =
    let k = c.args.checkable in
    let ns = c.args.site.now.notifies in
    let i = c.loop-place.place-index in
    let places = of_index k c.args.index.now in
    let items = c.of_checkable-place-items.ensures in
    let note = c.index-as_slice-place.result in
    let new = c.in_ok-new.field-0 in
    let notes = c.loop-place.notes.items in
    let many = length-map c.args.site.now.checkables check_view in
    let inside : k < length (site_view c.args.site.now).checkables = let below = c.requires.checkable in omega (arith, many, below) in
    let l : i < length places = subst (λ (xs : List ℕ). i < length xs) items c.loop-place-test.true in
    let number : get_or c.of_checkable-place-items.result.now i 0 ≡ get_or places i 0 = ap (λ (xs : List ℕ). get_or xs i 0) items in
    let n = get_or places i 0 in
    let low : n < length ns = within k i ns places (c.requires.index.own k inside) l in
    let made : new ≡ row n note =
    c.in_ok-new.ensures ∙ ap (λ us. record { notification = get_or c.of_checkable-place-items.result.now i 0; problem = None; listeners = map untold us }) c.as_slice-in-loop-place.ensures
    ∙ ap (λ m. row m note) number in
    let named : new.notification ≡ n = ap number_of made in
    let at : note ≡ get_or ns n note = c.index-as_slice-place.is ∙ ap (λ (xs : List NotifySpec). get_or xs (get_or c.of_checkable-place-items.result.now i 0) note) c.as_slice.ensures ∙ ap (λ m. get_or ns m note) number in
    let own : IsMade ns new = (note, ap (slice_get ns) named ∙ slice_get-get_or ns n note low ∙ ap Some (sym at), made ∙ ap (λ m. row m note) (sym named)) in
    record {
      numbers = ap (λ (rs : List SentNote). map number_of rs ++ drop (i + 1) places) c.in_ok-push.ensures.items ∙ numbers_more notes new places i l named c.loop-place.invariant.numbers;
      made = subst (All (IsMade ns)) (sym c.in_ok-push.ensures.items) (All-push (IsMade ns) notes new c.loop-place.invariant.made own);
    }

pub returns : goal.returns
returns c = λ check once at.
    let s = c.args.site.now in
    let k = c.args.checkable in
    let d = c.index-as_slice-checkable.result in
    let notes = c.loop-place.notes.items in
    let i = c.loop-place.place-index in
    let places = of_index k c.args.index.now in
    let many = length-map s.checkables check_view in
    let inside : k < length (site_view s).checkables = let below = c.requires.checkable in omega (arith, many, below) in
    let past : drop i places ≡ [] = drop_past i places (omega (arith, ap length c.of_checkable-place-items.ensures)) in
    let numbers = sym (append-nil (map number_of notes)) ∙ ap (λ (ks : List ℕ). map number_of notes ++ ks) (sym past) ∙ c.loop-place.invariant.numbers ∙ c.requires.index.own k inside in
    let host = ap (λ (cs : List CheckSpec). (get_or cs k d).host) c.as_slice-2.ensures ∙ ap (λ (x : PlainCheck). x.host) (spec_at s.checkables k d check at) in
    stands_empty (site_view s) k check _ once host numbers c.loop-place.invariant.made
