-- Gates and pairs, as loops make them.
use Rattle.std.proofs.Common.{◌≡◌, ◌+◌, ◌-◌, ◌<◌, ◌≤◌, ℕ, zero, suc, nat_lt, Bool, true, false, cond, List, [], ◌∷◌, ◌++◌, length, drop, get_or, All, MatchOption, sym, ap, ◌∙◌, subst, arith, append_assoc, append-nil, Option, Some, None}
use Rattle.std.proofs.lemmas.Bool.Decides.{nat_tests}
use Rattle.std.proofs.lemmas.List.Elements.{All-from_recursion, recursion_from_All}
use Rattle.std.specs.List.{AllByRecursion}
use Rattle.site_audit.specs.Tracks.{same_track, low_behind, low_from, low_of, next_behind, next_from, next_of, spot_pairs, gate_pairs, pair_with, things_of}
use Rattle.site_audit.specs.declared.order.Pair.{Pair}
use Rattle.site_audit.specs.declared.tracks.Last.{Last}
use Rattle.site_audit.specs.declared.tracks.Spot.{Spot}
use Rattle.site_audit.proofs.Ordering.{drop_one, drop_all, AreWithin, IsWithin}

abbrev no_gate : Option ℕ
no_gate = None

pub no_low : (last : Last) (gates : ℕ) (x : Spot) → gates ≡ 0 → no_gate ≡ low_from last gates x
no_low last gates x e = sym (ap (λ g. low_from last g x) e)

pub low_at : (last : Last) (gates : ℕ) (x : Spot) → 0 < gates → low_behind last (gates - 1) x ≡ low_from last gates x
low_at last zero x l = absurd (omega (arith, l))
low_at last (suc g) x l = let e : suc g - 1 ≡ g = omega arith in ap (λ n. low_behind last n x) e

pub no_next : (last : Last) (gates : ℕ) (x : Spot) → gates ≡ 0 → no_gate ≡ next_from last gates x
no_next last gates x e = sym (ap (λ g. next_from last g x) e)

pub next_at : (last : Last) (gates : ℕ) (x : Spot) → 0 < gates → next_behind last (gates - 1) x ≡ next_from last gates x
next_at last zero x l = absurd (omega (arith, l))
next_at last (suc g) x l = let e : suc g - 1 ≡ g = omega arith in ap (λ n. next_behind last n x) e

-- one spot more
pub pairs_next : (m i : ℕ) (last : Option Last) (done all : List Pair) (spots : List Spot) (x : Spot) → i < length spots → x ≡ get_or spots i x → done ++ gate_pairs m i last (drop i spots) ≡ all
    → (done ++ spot_pairs (m + x.thing) i (low_of last i x) (next_of last i x)) ++ gate_pairs m (i + 1) (Some (record { spot = x; low = low_of last i x })) (drop (i + 1) spots) ≡ all
pairs_next m i last done all spots x l is so_far =
    let one : i + 1 ≡ suc i = omega arith in
    let now : Option Last = Some (record { spot = x; low = low_of last i x }) in
    append_assoc done (spot_pairs (m + x.thing) i (low_of last i x) (next_of last i x)) (gate_pairs m (i + 1) now (drop (i + 1) spots))
    ∙ (ap (λ n. done ++ (spot_pairs (m + x.thing) i (low_of last i x) (next_of last i x) ++ gate_pairs m n now (drop (i + 1) spots))) one
    ∙ (sym (ap (λ xs. done ++ gate_pairs m i last xs) (drop_one i spots x l)
    ∙ ap (λ (y : Spot). done ++ (spot_pairs (m + y.thing) i (low_of last i y) (next_of last i y) ++ gate_pairs m (suc i) (Some (record { spot = y; low = low_of last i y })) (drop (i + 1) spots))) (sym is)) ∙ so_far))

pub pairs_end : (m i : ℕ) (last : Option Last) (done all : List Pair) (spots : List Spot) → length spots ≤ i → done ++ gate_pairs m i last (drop i spots) ≡ all → done ≡ all
pairs_end m i last done all spots le so_far = sym (ap (λ xs. done ++ gate_pairs m i last xs) (drop_all i spots le) ∙ append-nil done) ∙ so_far

-- three pairs, one behind another
pub three_pairs : (old : List Pair) (low next : Option ℕ) (thing gate : ℕ) → ((old ++ pair_with low thing) ++ pair_with next gate) ++ pair_with (Some thing) gate ≡ old ++ spot_pairs thing gate low next
three_pairs old low next thing gate =
    append_assoc (old ++ pair_with low thing) (pair_with next gate) (pair_with (Some thing) gate) ∙ append_assoc old (pair_with low thing) (pair_with next gate ++ pair_with (Some thing) gate)

-- all pairs are of things and gates that there are
within_append : (n : ℕ) (ps qs : List Pair) → AreWithin n ps → AreWithin n qs → AreWithin n (ps ++ qs)
within_append n [] qs h g = g
within_append n (p ∷ ps) qs h g = (h.0, within_append n ps qs h.1 g)

abbrev IsGate : ℕ → Option ℕ → Type 0
IsGate n None = Unit {0}
IsGate n (Some g) = g < n

pair_within : (n : ℕ) (o : Option ℕ) (b : ℕ) → IsGate n o → b < n → AreWithin n (pair_with o b)
pair_within n None b h l = tt
pair_within n (Some a) b h l = ((h, l), tt)

abbrev IsLow : ℕ → Option Last → Type 0
IsLow n None = Unit {0}
IsLow n (Some last) = IsGate n last.low

low_within : (n gates : ℕ) (last : Option Last) (x : Spot) → gates ≤ n → IsLow n last → IsGate n (low_of last gates x)
low_within n gates None x l h = tt
low_within n zero (Some last) x l h = tt
low_within n (suc g) (Some last) x l h = by (same_track last.spot x) (nat_lt last.spot.at x.at)
  where
    by : (t s : Bool) → IsGate n (cond t (cond s (Some g) last.low) None)
    by false s = tt
    by true true = omega (arith, l)
    by true false = h

next_within : (n gates : ℕ) (last : Option Last) (x : Spot) → gates ≤ n → IsGate n (next_of last gates x)
next_within n gates None x l = tt
next_within n zero (Some last) x l = tt
next_within n (suc g) (Some last) x l = by (same_track last.spot x)
  where
    by : (t : Bool) → IsGate n (cond t (Some g) None)
    by false = tt
    by true = omega (arith, l)

gates_within : (n m i : ℕ) (last : Option Last) (xs : List Spot) → i + length xs ≤ m → m ≤ n → IsLow n last → AllByRecursion (λ x. m + x.thing < n) xs → AreWithin n (gate_pairs m i last xs)
gates_within n m i last [] l w h all = tt
gates_within n m i last (x ∷ xs) l w h all =
    let low = low_within n i last x (omega (arith, l, w)) h in
    let here : i < n = omega (arith, l, w) in
    within_append n (spot_pairs (m + x.thing) i (low_of last i x) (next_of last i x)) (gate_pairs m (suc i) (Some (record { spot = x; low = low_of last i x })) xs)
    (within_append n (pair_with (low_of last i x) (m + x.thing)) (pair_with (next_of last i x) i ++ pair_with (Some (m + x.thing)) i) (pair_within n (low_of last i x) (m + x.thing) low all.0)
    (within_append n (pair_with (next_of last i x) i) (pair_with (Some (m + x.thing)) i) (pair_within n (next_of last i x) i (next_within n i last x (omega (arith, l, w))) here) (pair_within n (Some (m + x.thing)) i all.0 here)))
    (gates_within n m (suc i) (Some (record { spot = x; low = low_of last i x })) xs (omega (arith, l)) w low all.1)

pub all_within : (n m : ℕ) (spots : List Spot) (ps : List Pair) → m ≡ length spots → m ≤ n → All (λ x. m + x.thing < n) spots → ps ≡ gate_pairs m 0 None spots → All (IsWithin n) ps
all_within n m spots ps many w all is =
    All-from_recursion (IsWithin n) ps (subst (AreWithin n) (sym is) (gates_within n m 0 None spots (omega (arith, many)) w tt (recursion_from_All (λ x. m + x.thing < n) spots all)))

-- things among gates and things
pub thing_kept : (i gates k : ℕ) (order done all : List ℕ) → i < length order → k ≡ get_or order i k → gates ≤ k → done ++ things_of gates (drop i order) ≡ all → (done ++ (k - gates) ∷ []) ++ things_of gates (drop (i + 1) order) ≡ all
thing_kept i gates k order done all l is le so_far =
    append_assoc done ((k - gates) ∷ []) (things_of gates (drop (i + 1) order))
    ∙ (sym (ap (λ xs. done ++ things_of gates xs) (drop_one i order k l) ∙ (ap (λ n. done ++ things_of gates (n ∷ drop (i + 1) order)) (sym is)
    ∙ (let t : nat_lt k gates ≡ false = grind (arith, nat_tests, le) in ap (λ t. done ++ cond t (things_of gates (drop (i + 1) order)) ((k - gates) ∷ things_of gates (drop (i + 1) order))) t))) ∙ so_far)

pub gate_dropped : (i gates k : ℕ) (order done all : List ℕ) → i < length order → k ≡ get_or order i k → k < gates → done ++ things_of gates (drop i order) ≡ all → done ++ things_of gates (drop (i + 1) order) ≡ all
gate_dropped i gates k order done all l is le so_far =
    sym (ap (λ xs. done ++ things_of gates xs) (drop_one i order k l) ∙ (ap (λ n. done ++ things_of gates (n ∷ drop (i + 1) order)) (sym is)
    ∙ (let t : nat_lt k gates ≡ true = grind (arith, nat_tests, le) in ap (λ t. done ++ cond t (things_of gates (drop (i + 1) order)) ((k - gates) ∷ things_of gates (drop (i + 1) order))) t))) ∙ so_far

pub things_end : (i gates : ℕ) (order done all : List ℕ) → length order ≤ i → done ++ things_of gates (drop i order) ≡ all → done ≡ all
things_end i gates order done all le so_far = sym (ap (λ xs. done ++ things_of gates xs) (drop_all i order le) ∙ append-nil done) ∙ so_far

pub all_same : (P : Spot → Type 0) (xs ys : List Spot) → xs ≡ ys → All P xs → All P ys
all_same P xs ys e h = subst (All P) e h

-- what a match says of a value that is there, and of none
pub match_some : {A : Type 0} (P : Type 0) (Q : A → Type 0) (o : Option A) (x : A) → o ≡ Some x → MatchOption o P Q → Q x
match_some P Q o x e h = subst (λ r. MatchOption r P Q) e h

pub match_none : {A : Type 0} (P : Type 0) (Q : A → Type 0) (o : Option A) → o ≡ None → MatchOption o P Q → P
match_none P Q o e h = subst (λ r. MatchOption r P Q) e h
