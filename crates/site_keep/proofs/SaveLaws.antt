-- A saved state file is one.
use Rattle.std.proofs.Common.{◌≡◌, ◌≢◌, ℕ, zero, suc, ◌+◌, ◌-◌, ◌<◌, List, [], ◌∷◌, ◌++◌, codes, map, length, take, slice_get, Some, All, Contains, IsUtf8, refl, sym, ap, ap₂, ◌∙◌, arith, subst, append_assoc, length-append}
use Rattle.std.specs.List.{AllByRecursion}
use Rattle.std.proofs.lemmas.List.Elements.{All-from_recursion}
use Rattle.std.proofs.lemmas.Option.{same_Some, slice_get_within}
use Rattle.log_text.specs.EntryReading.{entry_two_read}
use Rattle.log_text.specs.EntryTwo.{entry_line_two, told_text, AreTexts, FitsEntry}
use Rattle.log_text.specs.SiteNames.{names_of, HasAllNames}
use Rattle.log_text.proofs.EntryLaws.{entry_two_complete}
use Rattle.run_meaning.specs.Turns.{Histories}
use Rattle.run_meaning.proofs.Lists.{length_map}
use Rattle.site_model.specs.PlainSite.{PlainCheck, PlainSite}
use Rattle.site_model.specs.Sound.{AreDistinct}
use Rattle.site_model.specs.declared.entry.Entry.{Entry}
use Rattle.site_text.specs.Entries.{start_text, effect_text, lists_text, IsPrintable}
use Rattle.site_keep.specs.Shape.{Saved}
use Rattle.site_keep.specs.StateFile.{saved, saved_from, saved_line, state_file, AreKept}
use Rattle.site_keep.specs.States.{AreLinesOf, HasLines, IsState}
use Rattle.site_keep.proofs.PlaceLaws.{all_at, all_by_place, contains_at, map_at, one_by_one, same_place, some_at}
use Rattle.site_keep.proofs.ReadBack.{read_back}

-- Lines.

front_of : (xs ys : List ℕ) → take (length xs) (xs ++ ys) ≡ xs
front_of [] ys = refl
front_of (x ∷ xs) ys = ap (λ l. x ∷ l) (front_of xs ys)

front : (xs : List ℕ) (x : ℕ) → take (length (xs ++ x ∷ []) - 1) (xs ++ x ∷ []) ≡ xs
front xs x =
    let many : length (xs ++ x ∷ []) - 1 ≡ length xs = omega (arith, length-append xs (x ∷ [])) in
    ap (λ n. take n (xs ++ x ∷ [])) many ∙ front_of xs (x ∷ [])

-- the line of an entry, up to its newline
abbrev body : PlainSite → ℕ → Entry → List ℕ
body s k e = start_text s k e ++ (effect_text e ++ (lists_text s e ++ (codes " | " ++ told_text e.event)))

line_body : (s : PlainSite) (k : ℕ) (e : Entry) → entry_line_two s k e ≡ body s k e ++ 10 ∷ []
line_body s k e =
    let a = start_text s k e in
    let b = effect_text e in
    let c = lists_text s e in
    let d : List ℕ = codes " | " in
    let t = told_text e.event in
    sym (append_assoc a (b ++ (c ++ (d ++ t))) (10 ∷ []) ∙ ap (λ x. a ++ x) (append_assoc b (c ++ (d ++ t)) (10 ∷ []) ∙ ap (λ x. b ++ x) (append_assoc c (d ++ t) (10 ∷ []) ∙ ap (λ x. c ++ x) (append_assoc d t (10 ∷ [])))))

pub ends_in_newline : (s : PlainSite) (k : ℕ) (e : Entry) → (l : List ℕ) × (entry_line_two s k e ≡ l ++ 10 ∷ [])
ends_in_newline s k e = (body s k e, line_body s k e)

pub whole_line : (s : PlainSite) (k : ℕ) (e : Entry) → saved_line s k e ++ 10 ∷ [] ≡ entry_line_two s k e
unfolding saved_line
whole_line s k e =
    ap (λ l. take (length l - 1) l ++ 10 ∷ []) (line_body s k e) ∙ ap (λ l. l ++ 10 ∷ []) (front (body s k e) 10) ∙ sym (line_body s k e)

read_so : (s : PlainSite) → HasAllNames s → AreTexts (names_of s) → (k : ℕ) (h : List Entry) → AllByRecursion (IsPrintable s k) h → AllByRecursion FitsEntry h → AreLinesOf s k (map (saved_line s k) h) h
read_so s n texts k [] printable fits = refl
read_so s n texts k (e ∷ h) printable fits =
    ap₂ (λ x xs. x ∷ xs) (ap (entry_two_read (names_of s)) (whole_line s k e) ∙ entry_two_complete s k e n texts (record { printable = printable.0; fits = fits.0 }))
    (read_so s n texts k h printable.1 fits.1)

-- Checkables.

saved_at : (s : PlainSite) (first : ℕ) (cs : List PlainCheck) (hs : Histories) (i : ℕ) (x : Saved) → slice_get (saved_from s first cs hs) i ≡ Some x
    → (c : PlainCheck) × (h : List Entry) × (slice_get cs i ≡ Some c) × (slice_get hs i ≡ Some h) × (x ≡ saved s (first + i) c h)
saved_at s first [] hs i x at = absurd cc
saved_at s first (c ∷ cs) [] i x at = absurd cc
saved_at s first (c ∷ cs) (h ∷ hs) zero x at = let up : first ≡ first + 0 = omega arith in (c, h, refl, refl, sym (same_Some (saved s first c h) x at) ∙ ap (λ k. saved s k c h) up)
saved_at s first (c ∷ cs) (h ∷ hs) (suc i) x at =
    let more = saved_at s (suc first) cs hs i x at in
    let up : suc first + i ≡ first + suc i = omega arith in
    (more.0, more.1, more.2, more.3, more.4 ∙ ap (λ k. saved s k more.0 more.1) up)

at_saved : (s : PlainSite) (first : ℕ) (cs : List PlainCheck) (hs : Histories) (i : ℕ) (c : PlainCheck) → length hs ≡ length cs → slice_get cs i ≡ Some c → (x : Saved) × (slice_get (saved_from s first cs hs) i ≡ Some x) × (x.name ≡ c.name)
at_saved s first [] hs i c many at = absurd cc
at_saved s first (b ∷ cs) [] i c many at = absurd (omega (arith, many))
at_saved s first (b ∷ cs) (h ∷ hs) zero c many at = (saved s first b h, refl, ap (λ (p : PlainCheck). p.name) (same_Some b c at))
at_saved s first (b ∷ cs) (h ∷ hs) (suc i) c many at = at_saved s (suc first) cs hs i c (omega (arith, many)) at

saved_names : (s : PlainSite) (first : ℕ) (cs : List PlainCheck) (hs : Histories) → length hs ≡ length cs → map (λ (x : Saved). x.name) (saved_from s first cs hs) ≡ map (λ (c : PlainCheck). c.name) cs
saved_names s first [] hs many = refl
saved_names s first (c ∷ cs) [] many = absurd (omega (arith, many))
saved_names s first (c ∷ cs) (h ∷ hs) many = ap (λ ns. c.name ∷ ns) (saved_names s (suc first) cs hs (omega (arith, many)))

pub saved_state : (s : PlainSite) (hs : Histories) → HasAllNames s → AreTexts (names_of s) → AreKept s hs → IsUtf8 (state_file s hs) → IsState s (state_file s hs) hs
unfolding state_file
saved_state s hs n texts kept utf8 = record {
  told = told;
  text = utf8;
  shape = read_back told;
  once = subst (λ (ns : List (List ℕ)). AreDistinct ns) (sym names) n.checkables.distinct;
  own = All-from_recursion (λ (x : Saved). Contains s.names x.name) told (all_by_place (λ (x : Saved). Contains s.names x.name) told own);
  whole = kept.printable.whole;
  lawful = kept.lawful;
  named = All-from_recursion (HasLines s hs) told (all_by_place (HasLines s hs) told named);
  unnamed = unnamed;
}
  where
    told : List Saved
    told = saved_from s 0 s.checkables hs

    names : map (λ (x : Saved). x.name) told ≡ s.names
    names = saved_names s 0 s.checkables hs kept.printable.whole ∙ sym n.checkables.named

    name_at : (i : ℕ) (x : Saved) → slice_get told i ≡ Some x → slice_get s.names i ≡ Some x.name
    name_at i x at = ap (λ ns. slice_get ns i) (sym names) ∙ map_at (λ (y : Saved). y.name) told i x at

    own : (i : ℕ) (x : Saved) → slice_get told i ≡ Some x → Contains s.names x.name
    own i x at = contains_at s.names x.name i (name_at i x at)

    named : (i : ℕ) (x : Saved) → slice_get told i ≡ Some x → HasLines s hs x
    named i x at k h there here =
        let parts = saved_at s 0 s.checkables hs i x at in
        let same : i ≡ k = same_place s.names x.name i k n.checkables.distinct (name_at i x at) there in
        let counted : 0 + i ≡ k = omega (arith, same) in
        let own_history : parts.1 ≡ h = same_Some parts.1 h (sym parts.3 ∙ ap (slice_get hs) same ∙ here) in
        let lines : x.lines ≡ map (saved_line s k) h = ap (λ (y : Saved). y.lines) parts.4 ∙ ap₂ (λ j g. map (saved_line s j) g) counted own_history in
        let printable : AllByRecursion (IsPrintable s k) h = one_by_one (IsPrintable s k) h (kept.printable.each k h here) in
        let fits : AllByRecursion FitsEntry h = one_by_one FitsEntry h (all_at (All FitsEntry) hs k h (one_by_one (All FitsEntry) hs kept.fitting) here) in
        subst (λ ls. AreLinesOf s k ls h) (sym lines) (read_so s n texts k h printable fits)

    unnamed : (k : ℕ) (name : List ℕ) → slice_get s.names k ≡ Some name → All (λ (x : Saved). x.name ≢ name) told → slice_get hs k ≡ Some []
    unnamed k name at others =
        let inside : k < length s.checkables = omega (arith, slice_get_within s.names k name at, ap length n.checkables.named, length_map (λ (c : PlainCheck). c.name) s.checkables) in
        let check = some_at s.checkables k inside in
        let x = at_saved s 0 s.checkables hs k check.0 kept.printable.whole check.1 in
        let same : x.0.name ≡ name = same_Some x.0.name name (sym (name_at k x.0 x.1) ∙ at) in
        absurd (all_at (λ (y : Saved). y.name ≢ name) told k x.0 (one_by_one (λ (y : Saved). y.name ≢ name) told others) x.1 same)
