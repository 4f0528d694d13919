-- Names that differ.
use Rattle.std.proofs.Common.{◌≡◌, ◌≢◌, ℕ, zero, suc, ◌+◌, ◌<◌, ◌||◌, Bool, true, false, cond, List, [], ◌∷◌, ◌++◌, length, map, get_or, nat_lt, All, AllPairs, Option, Some, None, refl, sym, ap, ◌∙◌, subst, arith, rules}
use Rattle.std.specs.List.{flat_map, list_any}
use Rattle.std.specs.Option.{option_to_list}
use Rattle.std.specs.Str.{bytes_eq}
use Rattle.std.proofs.lemmas.List.Folds.{list_any-append}
use Rattle.std.proofs.lemmas.List.Kept.{AllPairs-cons}
use Rattle.std.proofs.lemmas.Slice.Eq.{bytes_eq-Decides}
use Rattle.site_model.specs.PlainSite.{PlainObject}
use Rattle.site_model.specs.Sound.{AreDistinct}
use Rattle.conf_check.specs.Keys.{name_of}
use Rattle.object_lists.specs.Listed.{firsts_behind}

pub no_items : {A : Type 0} (P : A → Type 0) → All P []
no_items P k d h = absurd (omega arith)

pub all_cons : {A : Type 0} (P : A → Type 0) (x : A) (xs : List A) → P x → All P xs → All P (x ∷ xs)
all_cons P x xs p ps zero d h = p
all_cons P x xs p ps (suc k) d h = ps k d (omega arith)

no_pairs : {A : Type 0} (R : A → A → Type 0) → AllPairs R []
no_pairs R i j d low high = absurd (omega arith)

-- a name is none of some
abbrev pub Lacks : List ℕ → List (List ℕ) → Type 0
Lacks n ns = list_any (bytes_eq n) ns ≡ false

pub none_either : (a b : Bool) → (a || b) ≡ false → (a ≡ false) × (b ≡ false)
none_either true b h = absurd (cc)
none_either false b h = (refl, h)

pub neither : (a b : Bool) → a ≡ false → b ≡ false → (a || b) ≡ false
neither true b h k = absurd (cc)
neither false b h k = k

flipped : (n m : List ℕ) → bytes_eq n m ≡ false → bytes_eq m n ≡ false
flipped n m h = by (bytes_eq m n) refl
  where
    by : (b : Bool) → bytes_eq m n ≡ b → bytes_eq m n ≡ false
    by false e = e
    by true e = let turned : bytes_eq n m ≡ true = (bytes_eq-Decides n m).1 (sym ((bytes_eq-Decides m n).0 e)) in absurd (cc)

apart : (n m : List ℕ) → bytes_eq n m ≡ false → n ≢ m
apart n m h same = let yes : bytes_eq n m ≡ true = (bytes_eq-Decides n m).1 same in cc

others : (n : List ℕ) (ns : List (List ℕ)) → Lacks n ns → All (λ m. n ≢ m) ns
others n [] h = no_items (λ m. n ≢ m)
others n (m ∷ ns) h =
    let both = none_either (bytes_eq n m) (list_any (bytes_eq n) ns) h in
    all_cons (λ x. n ≢ x) m ns (apart n m both.0) (others n ns both.1)

-- no two of some names are the same
abbrev pub Differ : List (List ℕ) → Type 0
Differ [] = Unit {0}
Differ (n ∷ ns) = Lacks n ns × Differ ns

pub distinct : (ns : List (List ℕ)) → Differ ns → AreDistinct ns
distinct [] h = no_pairs (λ x y. x ≢ y)
distinct (n ∷ ns) h = AllPairs-cons (λ x y. x ≢ y) n ns (others n ns h.0) (distinct ns h.1)

-- The names of what is made of some objects.

kept_lack : {X : Type 0} (f : PlainObject → Option X) (name : X → List ℕ) → ((o : PlainObject) (x : X) → f o ≡ Some x → name x ≡ o.name)
    → (n : List ℕ) (os : List PlainObject) → Lacks n (map name_of os) → Lacks n (map name (flat_map (λ o. option_to_list (f o)) os))
kept_lack f name same n [] h = refl
kept_lack {X} f name same n (o ∷ os) h =
    let both = none_either (bytes_eq n o.name) (list_any (bytes_eq n) (map name_of os)) h in
    by both.0 (kept_lack f name same n os both.1) (f o) refl
  where
    by : bytes_eq n o.name ≡ false → Lacks n (map name (flat_map (λ x. option_to_list (f x)) os)) → (y : Option X) → f o ≡ y
        → Lacks n (map name (option_to_list y ++ flat_map (λ x. option_to_list (f x)) os))
    by here rest None e = rest
    by here rest (Some x) e = neither (bytes_eq n (name x)) (list_any (bytes_eq n) (map name (flat_map (λ z. option_to_list (f z)) os))) (ap (bytes_eq n) (same o x e) ∙ here) rest

pub kept_differ : {X : Type 0} (f : PlainObject → Option X) (name : X → List ℕ) → ((o : PlainObject) (x : X) → f o ≡ Some x → name x ≡ o.name)
    → (os : List PlainObject) → Differ (map name_of os) → Differ (map name (flat_map (λ o. option_to_list (f o)) os))
kept_differ f name same [] h = tt
kept_differ {X} f name same (o ∷ os) h = by (kept_lack f name same o.name os h.0) (kept_differ f name same os h.1) (f o) refl
  where
    by : Lacks o.name (map name (flat_map (λ x. option_to_list (f x)) os)) → Differ (map name (flat_map (λ x. option_to_list (f x)) os)) → (y : Option X) → f o ≡ y
        → Differ (map name (option_to_list y ++ flat_map (λ x. option_to_list (f x)) os))
    by lacks rest None e = rest
    by lacks rest (Some x) e = (ap (λ n. list_any (bytes_eq n) (map name (flat_map (λ z. option_to_list (f z)) os))) (same o x e) ∙ lacks, rest)

-- The names of the first objects.

stays_taken : (n m : List ℕ) (taken : List (List ℕ)) → list_any (bytes_eq n) taken ≡ true → list_any (bytes_eq n) (taken ++ m ∷ []) ≡ true
stays_taken n m taken h = list_any-append (bytes_eq n) taken (m ∷ []) ∙ ap (λ b. b || list_any (bytes_eq n) (m ∷ [])) h

now_taken : (n : List ℕ) (taken : List (List ℕ)) → list_any (bytes_eq n) (taken ++ n ∷ []) ≡ true
now_taken n taken = list_any-append (bytes_eq n) taken (n ∷ []) ∙ by (list_any (bytes_eq n) taken) (bytes_eq n n) ((bytes_eq-Decides n n).1 refl)
  where
    by : (a b : Bool) → b ≡ true → (a || (b || false)) ≡ true
    by true b h = refl
    by false true h = refl
    by false false h = absurd (cc)

firsts_lack : (n : List ℕ) (taken : List (List ℕ)) (os : List PlainObject) → list_any (bytes_eq n) taken ≡ true → Lacks n (map name_of (firsts_behind taken os))
firsts_lack n taken [] h = refl
firsts_lack n taken (o ∷ os) h = by (firsts_lack n taken os h) (firsts_lack n (taken ++ o.name ∷ []) os (stays_taken n o.name taken h)) (list_any (bytes_eq o.name) taken) refl
  where
    other : list_any (bytes_eq o.name) taken ≡ false → (b : Bool) → bytes_eq n o.name ≡ b → bytes_eq n o.name ≡ false
    other none false e = e
    other none true e = let there : list_any (bytes_eq o.name) taken ≡ true = sym (ap (λ m. list_any (bytes_eq m) taken) ((bytes_eq-Decides n o.name).0 e)) ∙ h in absurd (cc)

    by : Lacks n (map name_of (firsts_behind taken os)) → Lacks n (map name_of (firsts_behind (taken ++ o.name ∷ []) os)) → (b : Bool) → list_any (bytes_eq o.name) taken ≡ b
        → Lacks n (map name_of (cond b (firsts_behind taken os) (o ∷ firsts_behind (taken ++ o.name ∷ []) os)))
    by same more true e = same
    by same more false e = neither (bytes_eq n o.name) (list_any (bytes_eq n) (map name_of (firsts_behind (taken ++ o.name ∷ []) os))) (other e (bytes_eq n o.name) refl) more

pub firsts_differ : (taken : List (List ℕ)) (os : List PlainObject) → Differ (map name_of (firsts_behind taken os))
firsts_differ taken [] = tt
firsts_differ taken (o ∷ os) = by (firsts_differ taken os) (firsts_differ (taken ++ o.name ∷ []) os) (list_any (bytes_eq o.name) taken)
  where
    by : Differ (map name_of (firsts_behind taken os)) → Differ (map name_of (firsts_behind (taken ++ o.name ∷ []) os)) → (b : Bool)
        → Differ (map name_of (cond b (firsts_behind taken os) (o ∷ firsts_behind (taken ++ o.name ∷ []) os)))
    by same more true = same
    by same more false = (firsts_lack o.name (taken ++ o.name ∷ []) os (now_taken o.name taken), more)

-- Names behind others.

-- each of the latter is none of the former
abbrev pub Apart : List (List ℕ) → List (List ℕ) → Type 0
Apart [] ns = Unit {0}
Apart (m ∷ ms) ns = Lacks m ns × Apart ms ns

apart_head : (n : List ℕ) (ns ms : List (List ℕ)) → Apart ms (n ∷ ns) → Lacks n ms
apart_head n ns [] h = refl
apart_head n ns (m ∷ ms) h =
    neither (bytes_eq n m) (list_any (bytes_eq n) ms) (flipped m n (none_either (bytes_eq m n) (list_any (bytes_eq m) ns) h.0).0) (apart_head n ns ms h.1)

apart_tail : (n : List ℕ) (ns ms : List (List ℕ)) → Apart ms (n ∷ ns) → Apart ms ns
apart_tail n ns [] h = tt
apart_tail n ns (m ∷ ms) h = ((none_either (bytes_eq m n) (list_any (bytes_eq m) ns) h.0).1, apart_tail n ns ms h.1)

pub append_differ : (ns ms : List (List ℕ)) → Differ ns → Differ ms → Apart ms ns → Differ (ns ++ ms)
append_differ [] ms h k a = k
append_differ (n ∷ ns) ms h k a =
    (list_any-append (bytes_eq n) ns ms ∙ neither (list_any (bytes_eq n) ns) (list_any (bytes_eq n) ms) h.0 (apart_head n ns ms a), append_differ ns ms h.1 k (apart_tail n ns ms a))

-- a name that differs from those before it is new
pub new_name : (ns : List (List ℕ)) (n : List ℕ) (ms : List (List ℕ)) → AreDistinct (ns ++ n ∷ ms) → Lacks n ns
new_name [] n ms h = refl
new_name (m ∷ ns) n ms h =
    neither (bytes_eq n m) (list_any (bytes_eq n) ns) (first (bytes_eq n m) refl) (new_name ns n ms (λ i j d low high. h (suc i) (suc j) d (omega arith) (omega arith)))
  where
    at : (xs : List (List ℕ)) (d : List ℕ) → get_or (xs ++ n ∷ ms) (length xs) d ≡ n
    at [] d = refl
    at (x ∷ xs) d = at xs d

    inside : (xs : List (List ℕ)) → length xs < length (xs ++ n ∷ ms)
    inside [] = omega arith
    inside (x ∷ xs) = let low = inside xs in omega arith

    first : (b : Bool) → bytes_eq n m ≡ b → bytes_eq n m ≡ false
    first false e = e
    first true e =
        let low = inside ns in
        absurd (h 0 (suc (length ns)) n (omega arith) (omega arith) (sym ((bytes_eq-Decides n m).0 e) ∙ sym (at ns n)))
