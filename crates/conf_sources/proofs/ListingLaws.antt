-- Lists of names in byte order are told by what is in them.
use Rattle.std.proofs.Common.{◌≡◌, ◌⊎◌, inl, inr, ℕ, zero, suc, Bool, true, false, cond, List, [], ◌∷◌, map, filter, Contains, refl, sym, ap, subst, ◌∙◌, arith}
use Rattle.std.specs.List.{AllByRecursion}
use Rattle.std.specs.List.Sorted.{IsStrictlySortedBy}
use Rattle.std.specs.Cmp.Lexicographic.{slice_cmp, nat_list_cmp_total, texts_ties, same_text}
use Rattle.std.specs.Ordering.{nat_cmp, ordering_reverse}
use Rattle.std.specs.declared.cmp.Ordering.{Ordering}
use Rattle.std.specs.declared.cmp.Ordering.TheVariants.{Less, Equal, Greater}
use Rattle.site_edge.specs.Told.{IsListingOf, is_below, name_of}
use Rattle.conf_sources.specs.Listings.{placed_by, placed, ordered, listing}

abbrev cmp : List ℕ → List ℕ → Ordering
cmp = slice_cmp nat_cmp

-- a name is among these
abbrev IsIn : List ℕ → List (List ℕ) → Type 0
IsIn n [] = ⊥
IsIn n (x ∷ xs) = (x ≡ n) ⊎ IsIn n xs

in_from : (xs : List (List ℕ)) (n : List ℕ) → Contains xs n → IsIn n xs
in_from [] n (k, h, e) = absurd (omega (arith, h))
in_from (x ∷ xs) n (zero, h, e) = inl e
in_from (x ∷ xs) n (suc k, h, e) = inr (in_from xs n (k, omega (arith, h), e))

in_to : (xs : List (List ℕ)) (n : List ℕ) → IsIn n xs → Contains xs n
in_to [] n h = absurd h
in_to (x ∷ xs) n (inl e) = (0, omega arith, e)
in_to (x ∷ xs) n (inr h) = let m = in_to xs n h in (suc m.0, omega (arith, m.1), m.2)

all_at : (P : List ℕ → Type 0) (xs : List (List ℕ)) (n : List ℕ) → AllByRecursion P xs → IsIn n xs → P n
all_at P [] n a h = absurd h
all_at P (x ∷ xs) n a (inl e) = subst P e a.0
all_at P (x ∷ xs) n a (inr h) = all_at P xs n a.1 h

all_map : (P Q : List ℕ → Type 0) → ((y : List ℕ) → P y → Q y) → (xs : List (List ℕ)) → AllByRecursion P xs → AllByRecursion Q xs
all_map P Q f [] a = tt
all_map P Q f (x ∷ xs) a = (f x a.0, all_map P Q f xs a.1)

turned : (m n : List ℕ) (o : Ordering) → cmp n m ≡ o → cmp m n ≡ ordering_reverse o
turned m n o e = nat_list_cmp_total.antisymm m n ∙ ap ordering_reverse e

-- a name isn't below itself, and no two are below each other
not_both : (m n : List ℕ) → cmp m n ≡ Less → cmp n m ≡ Less → ⊥
not_both m n e f = let g : Less ≡ Greater = sym e ∙ turned m n Less f in cc

not_itself : (n : List ℕ) → cmp n n ≡ Less → ⊥
not_itself n e = not_both n n e e

same_from : (m n : List ℕ) → cmp m n ≡ Equal → m ≡ n
same_from m n e = same_text m n (sym (texts_ties m n ∙ ap is_tie e))
  where
    is_tie : Ordering → Bool
    is_tie Less = false
    is_tie Equal = true
    is_tie Greater = false

-- two lists in byte order with the same names are one list
same_head : (x y : List ℕ) (xs ys : List (List ℕ)) → AllByRecursion (λ z. cmp x z ≡ Less) xs → AllByRecursion (λ z. cmp y z ≡ Less) ys → IsIn x (y ∷ ys) → IsIn y (x ∷ xs) → x ≡ y
same_head x y xs ys a b (inl e) k = sym e
same_head x y xs ys a b (inr h) (inl e) = e
same_head x y xs ys a b (inr h) (inr k) = absurd (not_both x y (all_at (λ z. cmp x z ≡ Less) xs y a k) (all_at (λ z. cmp y z ≡ Less) ys x b h))

in_tail : (x y n : List ℕ) (xs ys : List (List ℕ)) → x ≡ y → AllByRecursion (λ z. cmp x z ≡ Less) xs → IsIn n xs → IsIn n (y ∷ ys) → IsIn n ys
in_tail x y n xs ys e a h (inl f) = absurd (not_itself x (subst (λ z. cmp x z ≡ Less) (sym (e ∙ f)) (all_at (λ z. cmp x z ≡ Less) xs n a h)))
in_tail x y n xs ys e a h (inr k) = k

one_list : (xs ys : List (List ℕ)) → IsStrictlySortedBy cmp xs → IsStrictlySortedBy cmp ys → ((n : List ℕ) → IsIn n xs → IsIn n ys) → ((n : List ℕ) → IsIn n ys → IsIn n xs) → xs ≡ ys
unfolding IsStrictlySortedBy
one_list [] [] s t f g = refl
one_list [] (y ∷ ys) s t f g = absurd (g y (inl refl))
one_list (x ∷ xs) [] s t f g = absurd (f x (inl refl))
one_list (x ∷ xs) (y ∷ ys) s t f g =
    let e : x ≡ y = same_head x y xs ys s.0 t.0 (f x (inl refl)) (g y (inl refl)) in
    let more : xs ≡ ys = one_list xs ys s.1 t.1 (λ n h. in_tail x y n xs ys e s.0 h (f n (inr h))) (λ n h. in_tail y x n ys xs (sym e) t.0 h (g n (inr h))) in
    ap (λ z. z ∷ xs) e ∙ ap (λ zs. y ∷ zs) more

-- a name at its place among others
in_placed_by : (n m y : List ℕ) (ms more : List (List ℕ)) (o : Ordering) → cmp n m ≡ o → (IsIn y more → (n ≡ y) ⊎ IsIn y ms) → IsIn y (placed_by o n m ms more) → (n ≡ y) ⊎ IsIn y (m ∷ ms)
in_placed_by n m y ms more Less e f (inl h) = inl h
in_placed_by n m y ms more Less e f (inr h) = inr h
in_placed_by n m y ms more Equal e f h = inr h
in_placed_by n m y ms more Greater e f (inl h) = inr (inl h)
in_placed_by n m y ms more Greater e f (inr h) = elim (f h) [ inl a ↦ inl a | inr b ↦ inr (inr b) ]

in_placed : (n y : List ℕ) (ms : List (List ℕ)) → IsIn y (placed n ms) → (n ≡ y) ⊎ IsIn y ms
in_placed n y [] h = h
in_placed n y (m ∷ ms) h = in_placed_by n m y ms (placed n ms) (cmp n m) refl (in_placed n y ms) h

to_placed_by : (n m y : List ℕ) (ms more : List (List ℕ)) (o : Ordering) → cmp n m ≡ o → ((n ≡ y) ⊎ IsIn y ms → IsIn y more) → (n ≡ y) ⊎ IsIn y (m ∷ ms) → IsIn y (placed_by o n m ms more)
to_placed_by n m y ms more Less e f h = h
to_placed_by n m y ms more Equal e f (inl h) = inl (sym (same_from n m e) ∙ h)
to_placed_by n m y ms more Equal e f (inr h) = h
to_placed_by n m y ms more Greater e f (inl h) = inr (f (inl h))
to_placed_by n m y ms more Greater e f (inr (inl h)) = inl h
to_placed_by n m y ms more Greater e f (inr (inr h)) = inr (f (inr h))

to_placed : (n y : List ℕ) (ms : List (List ℕ)) → (n ≡ y) ⊎ IsIn y ms → IsIn y (placed n ms)
to_placed n y [] h = h
to_placed n y (m ∷ ms) h = to_placed_by n m y ms (placed n ms) (cmp n m) refl (to_placed n y ms) h

all_placed_by : (P : List ℕ → Type 0) (n m : List ℕ) (ms more : List (List ℕ)) (o : Ordering) → P n → P m → AllByRecursion P ms → AllByRecursion P more → AllByRecursion P (placed_by o n m ms more)
all_placed_by P n m ms more Less p q a b = (p, (q, a))
all_placed_by P n m ms more Equal p q a b = (q, a)
all_placed_by P n m ms more Greater p q a b = (q, b)

all_placed : (P : List ℕ → Type 0) (n : List ℕ) (ms : List (List ℕ)) → P n → AllByRecursion P ms → AllByRecursion P (placed n ms)
all_placed P n [] p a = (p, tt)
all_placed P n (m ∷ ms) p a = all_placed_by P n m ms (placed n ms) (cmp n m) p a.0 a.1 (all_placed P n ms p a.1)

sorted_by : (n m : List ℕ) (ms : List (List ℕ)) (o : Ordering) → cmp n m ≡ o → IsStrictlySortedBy cmp (m ∷ ms) → IsStrictlySortedBy cmp (placed n ms) → IsStrictlySortedBy cmp (placed_by o n m ms (placed n ms))
unfolding IsStrictlySortedBy
sorted_by n m ms Less e s t = ((e, all_map (λ z. cmp m z ≡ Less) (λ z. cmp n z ≡ Less) (λ y h. nat_list_cmp_total.trans n m y e h) ms s.0), s)
sorted_by n m ms Equal e s t = s
sorted_by n m ms Greater e s t = (all_placed (λ z. cmp m z ≡ Less) n ms (turned m n Greater e) s.0, t)

sorted_placed : (n : List ℕ) (ms : List (List ℕ)) → IsStrictlySortedBy cmp ms → IsStrictlySortedBy cmp (placed n ms)
unfolding IsStrictlySortedBy
sorted_placed n [] s = (tt, tt)
sorted_placed n (m ∷ ms) s = sorted_by n m ms (cmp n m) refl s (sorted_placed n ms s.1)

sorted_ordered : (ns : List (List ℕ)) → IsStrictlySortedBy cmp (ordered ns)
unfolding IsStrictlySortedBy
sorted_ordered [] = tt
sorted_ordered (n ∷ ns) = sorted_placed n (ordered ns) (sorted_ordered ns)

in_ordered : (ns : List (List ℕ)) (y : List ℕ) → IsIn y (ordered ns) → IsIn y ns
in_ordered [] y h = h
in_ordered (n ∷ ns) y h = elim (in_placed n y (ordered ns) h) [ inl a ↦ inl a | inr b ↦ inr (in_ordered ns y b) ]

to_ordered : (ns : List (List ℕ)) (y : List ℕ) → IsIn y ns → IsIn y (ordered ns)
to_ordered [] y h = h
to_ordered (n ∷ ns) y (inl h) = to_placed n y (ordered ns) (inl h)
to_ordered (n ∷ ns) y (inr h) = to_placed n y (ordered ns) (inr (to_ordered ns y h))

-- what a filter leaves
in_filter_by : (p : List ℕ → Bool) (x y : List ℕ) (xs more : List (List ℕ)) (b : Bool) → p x ≡ b → (IsIn y more → IsIn y xs × (p y ≡ true)) → IsIn y (cond b (x ∷ more) more) → IsIn y (x ∷ xs) × (p y ≡ true)
in_filter_by p x y xs more true e f (inl h) = (inl h, ap p (sym h) ∙ e)
in_filter_by p x y xs more true e f (inr h) = (inr (f h).0, (f h).1)
in_filter_by p x y xs more false e f h = (inr (f h).0, (f h).1)

in_filter : (p : List ℕ → Bool) (xs : List (List ℕ)) (y : List ℕ) → IsIn y (filter p xs) → IsIn y xs × (p y ≡ true)
in_filter p [] y h = absurd h
in_filter p (x ∷ xs) y h = in_filter_by p x y xs (filter p xs) (p x) refl (in_filter p xs y) h

to_filter_by : (p : List ℕ → Bool) (x y : List ℕ) (xs more : List (List ℕ)) (b : Bool) → p x ≡ b → p y ≡ true → (IsIn y xs → IsIn y more) → IsIn y (x ∷ xs) → IsIn y (cond b (x ∷ more) more)
to_filter_by p x y xs more true e t f (inl h) = inl h
to_filter_by p x y xs more true e t f (inr h) = inr (f h)
to_filter_by p x y xs more false e t f (inl h) = let g : true ≡ false = sym t ∙ ap p (sym h) ∙ e in cc
to_filter_by p x y xs more false e t f (inr h) = f h

to_filter : (p : List ℕ → Bool) (xs : List (List ℕ)) (y : List ℕ) → p y ≡ true → IsIn y xs → IsIn y (filter p xs)
to_filter p [] y t h = absurd h
to_filter p (x ∷ xs) y t h = to_filter_by p x y xs (filter p xs) (p x) refl t (to_filter p xs y t) h

-- a listing of a folder is the one
pub listing_is : (dir : List ℕ) (files : List (List ℕ × List ℕ)) (names : List (List ℕ)) → IsListingOf dir files names → names ≡ listing dir files
unfolding listing
listing_is dir files names h =
    let all : List (List ℕ) = map name_of files in
    one_list names (ordered (filter (is_below dir) all)) h.ordered (sorted_ordered (filter (is_below dir) all))
    (λ n i. let m = (h.members n).0 (in_to names n i) in to_ordered (filter (is_below dir) all) n (to_filter (is_below dir) all n m.1 (in_from all n m.0)))
    (λ n i. let f = in_filter (is_below dir) all n (in_ordered (filter (is_below dir) all) n i) in in_from names n ((h.members n).1 (in_to all n f.0, f.1)))
