-- Laws of tests of lists, and of which numbers stand in one.
use Rattle.std.proofs.Common.{◌≡◌, ◌<◌, ◌≢◌, ℕ, zero, suc, List, [], ◌∷◌, ◌++◌, length, get_or, nat_eq, ◌||◌, ◌⊎◌, inl, inr, Bool, true, false, Contains, refl, sym, ap, ◌∙◌, arith, eq-eqb, eqb-true}
use Rattle.std.specs.List.{list_any}
use Rattle.std.proofs.lemmas.List.Folds.{list_any-append}
use Rattle.std.proofs.lemmas.Bool.{or_cases, or_left, or_right}
use Rattle.depend_graph.specs.Parents.{has}

pub eq_back : (a b : ℕ) → nat_eq a b ≡ true → nat_eq b a ≡ true
eq_back a b h = eq-eqb b a (sym (eqb-true a b h))

pub eq_self : (a : ℕ) → nat_eq a a ≡ true
eq_self a = eq-eqb a a refl

pub false_from : (t : Bool) → (t ≡ true → ⊥) → t ≡ false
false_from true h = absurd (h refl)
false_from false h = refl

pub eq_apart : (a b : ℕ) → a ≢ b → nat_eq a b ≡ false
eq_apart a b h = false_from (nat_eq a b) (λ q. h (eqb-true a b q))

pub never_both : {t : Bool} → t ≡ true → t ≡ false → ⊥
never_both h q = let e : true ≡ false = sym h ∙ q in cc

-- two tests that are true together
pub same_tests : (a b : Bool) → (a ≡ true → b ≡ true) → (b ≡ true → a ≡ true) → a ≡ b
same_tests true b f g = sym (f refl)
same_tests false true f g = absurd (never_both (g refl) refl)
same_tests false false f g = refl

-- What some element of a list meets.

pub has_own : {A : Type 0} (test : A → Bool) (xs : List A) → list_any test xs ≡ true → (k : ℕ) × (x : A) × (k < length xs) × ((d : A) → get_or xs k d ≡ x) × (test x ≡ true)
has_own test [] h = absurd cc
has_own {A = A} test (x ∷ xs) h = by (test x) refl (has_own test xs)
  where
    by : (t : Bool) → test x ≡ t → (list_any test xs ≡ true → (k : ℕ) × (y : A) × (k < length xs) × ((d : A) → get_or xs k d ≡ y) × (test y ≡ true))
        → (k : ℕ) × (y : A) × (k < length (x ∷ xs)) × ((d : A) → get_or (x ∷ xs) k d ≡ y) × (test y ≡ true)
    by true q f = (0, x, omega arith, λ d. refl, q)
    by false q f =
        let more : list_any test xs ≡ true = ap (λ b. b || list_any test xs) (sym q) ∙ h in
        let found = f more in
        (suc found.0, found.1, (let l = found.2 in omega arith), found.3, found.4)

pub has_at : {A : Type 0} (test : A → Bool) (xs : List A) (k : ℕ) (d : A) → k < length xs → test (get_or xs k d) ≡ true → list_any test xs ≡ true
has_at test [] k d l h = absurd (omega (arith, l))
has_at test (x ∷ xs) zero d l h = or_left (test x) (list_any test xs) h
has_at test (x ∷ xs) (suc k) d l h = or_right (test x) (list_any test xs) (has_at test xs k d (omega (arith, l)) h)

pub any_weaker : {A : Type 0} (test other : A → Bool) (xs : List A) → ((x : A) → test x ≡ true → other x ≡ true) → list_any test xs ≡ true → list_any other xs ≡ true
any_weaker test other xs f h =
    let found = has_own test xs h in
    has_at other xs found.0 found.1 found.2 (ap other (found.3 found.1) ∙ f found.1 found.4)

-- Which numbers stand in a list.

pub has_first : (n m : ℕ) (ns : List ℕ) → has n (m ∷ ns) ≡ true → nat_eq m n ≡ false → has n ns ≡ true
has_first n m ns h q = by (or_cases (nat_eq n m) (has n ns) h)
  where
    by : (nat_eq n m ≡ true) ⊎ (has n ns ≡ true) → has n ns ≡ true
    by (inl e) = absurd (never_both (eq_back n m e) q)
    by (inr e) = e

pub place_of : (n : ℕ) (ns : List ℕ) → has n ns ≡ true → (k : ℕ) × (k < length ns) × ((d : ℕ) → get_or ns k d ≡ n)
place_of n ns h =
    let found = has_own (nat_eq n) ns h in
    (found.0, found.2, λ d. found.3 d ∙ sym (eqb-true n found.1 found.4))

pub stands_at : (n : ℕ) (ns : List ℕ) (k d : ℕ) → k < length ns → get_or ns k d ≡ n → has n ns ≡ true
stands_at n ns k d l e = has_at (nat_eq n) ns k d l (eq-eqb n (get_or ns k d) (sym e))

pub has_push : (n m : ℕ) (ns : List ℕ) → has n ns ≡ true → has n (ns ++ m ∷ []) ≡ true
has_push n m ns h = list_any-append (nat_eq n) ns (m ∷ []) ∙ or_left (has n ns) (has n (m ∷ [])) h

pub has_pushed : (n : ℕ) (ns : List ℕ) → has n (ns ++ n ∷ []) ≡ true
has_pushed n ns =
    list_any-append (nat_eq n) ns (n ∷ []) ∙ or_right (has n ns) (has n (n ∷ [])) (or_left (nat_eq n n) false (eq_self n))

pub has_push_other : (n m : ℕ) (ns : List ℕ) → n ≢ m → has n (ns ++ m ∷ []) ≡ has n ns
has_push_other n m ns h = list_any-append (nat_eq n) ns (m ∷ []) ∙ by (has n ns) (nat_eq n m) (eq_apart n m h)
  where
    by : (t u : Bool) → u ≡ false → (t || (u || false)) ≡ t
    by true u q = refl
    by false true q = q
    by false false q = refl

pub has_of_contains : (n : ℕ) (ns : List ℕ) → Contains ns n → has n ns ≡ true
has_of_contains n ns c = stands_at n ns c.0 n c.1 c.2

pub contains_of_has : (n : ℕ) (ns : List ℕ) → has n ns ≡ true → Contains ns n
contains_of_has n ns h = let p = place_of n ns h in (p.0, p.1, p.2 n)
