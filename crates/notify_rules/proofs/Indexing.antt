-- The notifications of each checkable, found in one walk.
use Rattle.std.proofs.Common.{◌≡◌, ◌<◌, ◌≤◌, ◌+◌, ◌++◌, ℕ, zero, suc, nat_eq, Bool, true, false, cond, List, [], ◌∷◌, length, map, get_or, set, drop, All, refl, sym, ap, ◌∙◌, arith, subst, eqb-true}
use Rattle.std.proofs.lemmas.List.{append_assoc, drop_more, map-append}
use Rattle.std.proofs.lemmas.List.Elements.{All-nil, All-cons, All-weaker}
use Rattle.site_model.specs.declared.notify_spec.NotifySpec.{NotifySpec}
use Rattle.run_meaning.specs.Turns.{of_index}
use Rattle.depend_graph.proofs.Has.{false_from}
use Rattle.depend_graph.proofs.Rows.{row_pushed}
use Rattle.notify_rules.specs.Sent.{notes_from, number_of}
use Rattle.notify_rules.specs.declared.sent_note.SentNote.{SentNote}
use Rattle.notify_rules.proofs.Lists.{drop_next}

either : (P : ℕ → Type 0) (b : Bool) (n : ℕ) (ns : List ℕ) → P n → All P ns → All P (cond b (n ∷ []) [] ++ ns)
either P true n ns here rest = All-cons P n ns here rest
either P false n ns here rest = rest

-- each is the place of a notification
pub notes_below : (c n : ℕ) (notes : List NotifySpec) → All (λ k. k < n + length notes) (notes_from c n notes)
notes_below c n [] = All-nil (λ k. k < n + 0)
notes_below c n (note ∷ notes) =
    let e : n + length (note ∷ notes) ≡ suc n + length notes = omega arith in
    subst (λ m. All (λ k. k < m) (notes_from c n (note ∷ notes))) (sym e)
    (either (λ k. k < suc n + length notes) (nat_eq note.checkable c) n (notes_from c (suc n) notes) (omega arith) (notes_below c (suc n) notes))

-- What a row has, followed by what the others still add to it.

next_note : (c i : ℕ) (notes : List NotifySpec) (note : NotifySpec) → i < length notes → note ≡ get_or notes i note
    → notes_from c i (drop i notes) ≡ cond (nat_eq note.checkable c) (i ∷ []) [] ++ notes_from c (i + 1) (drop (i + 1) notes)
next_note c i notes note l at =
    ap (notes_from c i) (drop_more notes i note l ∙ ap (λ (x : NotifySpec). x ∷ drop (i + 1) notes) (sym at))
    ∙ (let e : suc i ≡ i + 1 = omega arith in ap (λ n. cond (nat_eq note.checkable c) (i ∷ []) [] ++ notes_from c n (drop (i + 1) notes)) e)

split : (c i : ℕ) (rows : List (List ℕ)) (rest : List ℕ) (b : Bool) → of_index c rows ++ cond b (i ∷ rest) rest ≡ of_index c rows ++ (cond b (i ∷ []) [] ++ rest)
split c i rows rest true = refl
split c i rows rest false = refl

pub row_more : (rows after : List (List ℕ)) (c i : ℕ) (notes : List NotifySpec) (note : NotifySpec) (all : List ℕ) → i < length notes → note ≡ get_or notes i note → note.checkable < length rows
    → after ≡ set rows note.checkable (of_index note.checkable rows ++ i ∷ []) → of_index c rows ++ notes_from c i (drop i notes) ≡ all → of_index c after ++ notes_from c (i + 1) (drop (i + 1) notes) ≡ all
row_more rows after c i notes note all l at inside is so_far =
    ap (λ rs. of_index c rs ++ notes_from c (i + 1) (drop (i + 1) notes)) is
    ∙ row_pushed rows note.checkable i c (notes_from c (i + 1) (drop (i + 1) notes)) inside
    ∙ split c i rows (notes_from c (i + 1) (drop (i + 1) notes)) (nat_eq note.checkable c)
    ∙ ap (λ ns. of_index c rows ++ ns) (sym (next_note c i notes note l at)) ∙ so_far

pub row_kept : (rows after : List (List ℕ)) (c i : ℕ) (notes : List NotifySpec) (note : NotifySpec) (all : List ℕ) → i < length notes → note ≡ get_or notes i note → c < length rows → length rows ≤ note.checkable
    → after ≡ rows → of_index c rows ++ notes_from c i (drop i notes) ≡ all → of_index c after ++ notes_from c (i + 1) (drop (i + 1) notes) ≡ all
row_kept rows after c i notes note all l at low high is so_far =
    ap (λ rs. of_index c rs ++ notes_from c (i + 1) (drop (i + 1) notes)) is
    ∙ ap (λ b. of_index c rows ++ (cond b (i ∷ []) [] ++ notes_from c (i + 1) (drop (i + 1) notes))) (sym other)
    ∙ ap (λ ns. of_index c rows ++ ns) (sym (next_note c i notes note l at)) ∙ so_far
  where
    other : nat_eq note.checkable c ≡ false
    other = false_from (nat_eq note.checkable c) (λ q. let e = eqb-true note.checkable c q in omega (arith, e, low, high))

-- One more of a checkable's notifications.

pub numbers_more : (notes : List SentNote) (r : SentNote) (places : List ℕ) (i : ℕ) → i < length places → r.notification ≡ get_or places i 0 → map number_of notes ++ drop i places ≡ places
    → map number_of (notes ++ r ∷ []) ++ drop (i + 1) places ≡ places
numbers_more notes r places i l at so_far =
    ap (λ ns. ns ++ drop (i + 1) places) (map-append number_of notes (r ∷ []))
    ∙ append_assoc (map number_of notes) (r.notification ∷ []) (drop (i + 1) places)
    ∙ ap (λ ks. map number_of notes ++ ks) (ap (λ n. n ∷ drop (i + 1) places) at ∙ sym (drop_next i places 0 l)) ∙ so_far
