-- What is gathered by checkable is the segments of the round.
use Rattle.std.proofs.Common.{◌≡◌, ℕ, zero, suc, ◌+◌, ◌<◌, cond, List, [], ◌∷◌, ◌++◌, length, map, Some, None, refl, sym, ap, ◌∙◌, arith}
use Rattle.std.proofs.lemmas.Bool.Decides.{nat_tests}
use Rattle.std.specs.BTreeMap.{insert_entry, is_at}
use Rattle.std.specs.Map.{lookup, set_value}
use Rattle.std.specs.Ordering.{is_eq, nat_cmp, match_ordering}
use Rattle.std.specs.declared.cmp.Ordering.TheVariants.{Less, Equal, Greater}
use Rattle.run_meaning.specs.Alone.{with_entry}
use Rattle.run_meaning.specs.Turns.{Histories}
use Rattle.site_model.specs.declared.entry.Entry.{Entry}
use Rattle.site_posts.specs.declared.segment.Segment.{Segment}
use Rattle.site_posts.specs.Segments.{segment_of, segments_from}

abbrev Kept : Type 0
Kept = ℕ × List Entry

-- Keys.

less : (k j : ℕ) → k < j → nat_cmp k j ≡ Less
less k j h = grind (arith, nat_tests)

same : (k j : ℕ) → k ≡ j → nat_cmp k j ≡ Equal
same k j h = grind (arith, nat_tests)

greater : (k j : ℕ) → j < k → nat_cmp k j ≡ Greater
greater k j h = grind (arith, nat_tests)

-- the first of two lists of segments
abbrev first_key : List Segment → ℕ
first_key [] = 0
first_key (x ∷ xs) = x.checkable

abbrev first_entries : List Segment → List Entry
first_entries [] = []
first_entries (x ∷ xs) = x.entries

abbrev others : List Segment → List Segment
others [] = []
others (x ∷ xs) = xs

-- what no key stands behind is not found, and goes to the front
not_found : (k j : ℕ) (kept : List Kept) (round : Histories) → k < j → map segment_of kept ≡ segments_from j round → lookup (is_at (nat_cmp k)) kept ≡ None
not_found k j [] round h is = refl
not_found k j (p ∷ kept) [] h is = absurd cc
not_found k j (p ∷ kept) ([] ∷ round) h is = not_found k (suc j) (p ∷ kept) round (omega (arith, h)) is
not_found k j (p ∷ kept) ((e ∷ es) ∷ round) h is =
    let key : p.0 ≡ j = ap first_key is in
    let later : k < p.0 = omega (arith, key, h) in
    ap (λ o. cond (is_eq o) (Some p.1) (lookup (is_at (nat_cmp k)) kept)) (less k p.0 later) ∙ not_found k (suc j) kept round (omega (arith, h)) (ap others is)

at_front : (k j : ℕ) (kept : List Kept) (round : Histories) (es : List Entry) → k < j → map segment_of kept ≡ segments_from j round → insert_entry nat_cmp kept k es ≡ (k, es) ∷ kept
at_front k j [] round es h is = refl
at_front k j (p ∷ kept) [] es h is = absurd cc
at_front k j (p ∷ kept) ([] ∷ round) es h is = at_front k (suc j) (p ∷ kept) round es (omega (arith, h)) is
at_front k j (p ∷ kept) ((f ∷ fs) ∷ round) es h is =
    let key : p.0 ≡ j = ap first_key is in
    let later : k < p.0 = omega (arith, key, h) in
    ap (λ o. match_ordering o ((k, es) ∷ p ∷ kept) ((p.0, es) ∷ kept) (p ∷ insert_entry nat_cmp kept k es)) (less k p.0 later)

-- One entry more.

-- of a checkable that has some
pub one_of_some : (i j k : ℕ) (e : Entry) (old : List Entry) (kept : List Kept) (round : Histories) → k ≡ j + i → map segment_of kept ≡ segments_from j round → lookup (is_at (nat_cmp k)) kept ≡ Some old
    → map segment_of (set_value (is_at (nat_cmp k)) kept (old ++ e ∷ [])) ≡ segments_from j (with_entry i e round)
one_of_some i j k e old [] round at is found = absurd cc
one_of_some i j k e old (p ∷ kept) [] at is found = absurd cc
one_of_some zero j k e old (p ∷ kept) ([] ∷ round) at is found =
    let none = not_found k (suc j) (p ∷ kept) round (omega (arith, at)) is in
    let both : None ≡ Some old = sym none ∙ found in absurd cc
one_of_some zero j k e old (p ∷ kept) ((f ∷ fs) ∷ round) at is found =
    let key : p.0 ≡ j = ap first_key is in
    let here : nat_cmp k p.0 ≡ Equal = same k p.0 (omega (arith, key, at)) in
    let had : Some p.1 ≡ Some old = sym (ap (λ o. cond (is_eq o) (Some p.1) (lookup (is_at (nat_cmp k)) kept)) here) ∙ found in
    let olds : p.1 ≡ old = cc in
    ap (λ o. map segment_of (cond (is_eq o) ((p.0, old ++ e ∷ []) ∷ kept) (p ∷ set_value (is_at (nat_cmp k)) kept (old ++ e ∷ [])))) here
    ∙ ap (λ n. segment_of (n, old ++ e ∷ []) ∷ map segment_of kept) key
    ∙ ap (λ es. segment_of (j, es ++ e ∷ []) ∷ map segment_of kept) (sym olds ∙ ap first_entries is)
    ∙ ap (λ ss. segment_of (j, (f ∷ fs) ++ e ∷ []) ∷ ss) (ap others is)
one_of_some (suc i) j k e old (p ∷ kept) ([] ∷ round) at is found = one_of_some i (suc j) k e old (p ∷ kept) round (omega (arith, at)) is found
one_of_some (suc i) j k e old (p ∷ kept) ((f ∷ fs) ∷ round) at is found =
    let key : p.0 ≡ j = ap first_key is in
    let there : nat_cmp k p.0 ≡ Greater = greater k p.0 (omega (arith, key, at)) in
    let further : lookup (is_at (nat_cmp k)) kept ≡ Some old = sym (ap (λ o. cond (is_eq o) (Some p.1) (lookup (is_at (nat_cmp k)) kept)) there) ∙ found in
    ap (λ o. map segment_of (cond (is_eq o) ((p.0, old ++ e ∷ []) ∷ kept) (p ∷ set_value (is_at (nat_cmp k)) kept (old ++ e ∷ [])))) there
    ∙ ap (λ s. s ∷ map segment_of (set_value (is_at (nat_cmp k)) kept (old ++ e ∷ []))) (ap (λ ss. first_or (segment_of p) ss) is)
    ∙ ap (λ ss. segment_of (j, f ∷ fs) ∷ ss) (one_of_some i (suc j) k e old kept round (omega (arith, at)) (ap others is) further)
  where
    first_or : Segment → List Segment → Segment
    first_or d [] = d
    first_or d (x ∷ xs) = x

-- of one that has none
pub one_of_none : (i j k : ℕ) (e : Entry) (kept : List Kept) (round : Histories) → k ≡ j + i → i < length round → map segment_of kept ≡ segments_from j round → lookup (is_at (nat_cmp k)) kept ≡ None
    → map segment_of (insert_entry nat_cmp kept k (e ∷ [])) ≡ segments_from j (with_entry i e round)
one_of_none i j k e kept [] at h is none = absurd (omega (arith, h))
one_of_none zero j k e kept ([] ∷ round) at h is none =
    ap (map segment_of) (at_front k (suc j) kept round (e ∷ []) (omega (arith, at)) is)
    ∙ ap (λ ss. segment_of (k, e ∷ []) ∷ ss) is
    ∙ ap (λ n. segment_of (n, e ∷ []) ∷ segments_from (suc j) round) (omega (arith, at))
one_of_none zero j k e [] ((f ∷ fs) ∷ round) at h is none = absurd cc
one_of_none zero j k e (p ∷ kept) ((f ∷ fs) ∷ round) at h is none =
    let key : p.0 ≡ j = ap first_key is in
    let here : nat_cmp k p.0 ≡ Equal = same k p.0 (omega (arith, key, at)) in
    let both : Some p.1 ≡ None = sym (ap (λ o. cond (is_eq o) (Some p.1) (lookup (is_at (nat_cmp k)) kept)) here) ∙ none in
    absurd cc
one_of_none (suc i) j k e kept ([] ∷ round) at h is none = one_of_none i (suc j) k e kept round (omega (arith, at)) (omega (arith, h)) is none
one_of_none (suc i) j k e [] ((f ∷ fs) ∷ round) at h is none = absurd cc
one_of_none (suc i) j k e (p ∷ kept) ((f ∷ fs) ∷ round) at h is none =
    let key : p.0 ≡ j = ap first_key is in
    let there : nat_cmp k p.0 ≡ Greater = greater k p.0 (omega (arith, key, at)) in
    let further : lookup (is_at (nat_cmp k)) kept ≡ None = sym (ap (λ o. cond (is_eq o) (Some p.1) (lookup (is_at (nat_cmp k)) kept)) there) ∙ none in
    ap (λ o. map segment_of (match_ordering o ((k, e ∷ []) ∷ p ∷ kept) ((p.0, e ∷ []) ∷ kept) (p ∷ insert_entry nat_cmp kept k (e ∷ [])))) there
    ∙ ap (λ s. s ∷ map segment_of (insert_entry nat_cmp kept k (e ∷ []))) (ap (λ ss. first_or (segment_of p) ss) is)
    ∙ ap (λ ss. segment_of (j, f ∷ fs) ∷ ss) (one_of_none i (suc j) k e kept round (omega (arith, at)) (omega (arith, h)) (ap others is) further)
  where
    first_or : Segment → List Segment → Segment
    first_or d [] = d
    first_or d (x ∷ xs) = x

-- Before a round nothing is gathered.

pub none_from : {A : Type 0} (k : ℕ) (xs : List A) → segments_from k (map (λ _. []) xs) ≡ []
none_from k [] = refl
none_from k (x ∷ xs) = none_from (suc k) xs
