-- Where a byte stands first, and texts that lack it.
use Rattle.std.proofs.Common.{◌≡◌, ℕ, zero, suc, ◌+◌, ◌<◌, ◌≤◌, ◌==◌, not, Bool, true, false, cond, List, [], ◌∷◌, ◌++◌, length, take, drop, get_or, refl, sym, ap, ◌∙◌, subst, arith, inl, inr, ◌⊎◌}
use Rattle.std.proofs.lemmas.Bool.{cases_lt}
use Rattle.std.proofs.lemmas.Bool.Decides.{nat_tests}
use Rattle.std.proofs.lemmas.List.{length-append, take_all, drop_all}
use Rattle.std.proofs.lemmas.List.Sums.{passes_at_first}
use Rattle.std.proofs.lemmas.Str.{IsUtf8-take, IsUtf8-drop, IsUtf8-nil, IsCharBoundary-before_ascii, IsCharBoundary-after_ascii}
use Rattle.std.specs.List.{AllByRecursion, before_first, after_first, position_or_len}
use Rattle.std.specs.Str.{IsUtf8}
use Rattle.event_text.specs.Cuts.{IsUncut, cut, uncut, cut_at}
use Rattle.event_text.proofs.CutLaws.{byte_cut, byte_uncut}

abbrev pub Lacks : ℕ → List ℕ → Type 0
Lacks c bs = AllByRecursion (λ b. (b == c) ≡ false) bs

pub lacks_take : (c n : ℕ) (bs : List ℕ) → Lacks c bs → Lacks c (take n bs)
lacks_take c zero bs h = tt
lacks_take c (suc n) [] h = tt
lacks_take c (suc n) (b ∷ bs) h = (h.0, lacks_take c n bs h.1)

pub lacks_drop : (c n : ℕ) (bs : List ℕ) → Lacks c bs → Lacks c (drop n bs)
lacks_drop c zero bs h = h
lacks_drop c (suc n) [] h = tt
lacks_drop c (suc n) (b ∷ bs) h = lacks_drop c n bs h.1

pub lacks_append : (c : ℕ) (xs ys : List ℕ) → Lacks c xs → Lacks c ys → Lacks c (xs ++ ys)
lacks_append c [] ys h k = k
lacks_append c (x ∷ xs) ys h k = (h.0, lacks_append c xs ys h.1 k)

abbrev pub at : ℕ → List ℕ → ℕ
at c bs = position_or_len (λ b. b == c) bs

abbrev pub front : ℕ → List ℕ → List ℕ
front c bs = before_first (λ b. b == c) bs

abbrev pub behind : ℕ → List ℕ → List ℕ
behind c bs = after_first (λ b. b == c) bs

one_more : (n : ℕ) → 1 + n ≡ suc n
one_more n = omega arith

one_after : (n : ℕ) → (1 + n) + 1 ≡ suc (n + 1)
one_after n = omega arith

pub lacks_front : (c : ℕ) (bs : List ℕ) → Lacks c (front c bs)
lacks_front c [] = tt
lacks_front c (b ∷ bs) = by (b == c) refl (lacks_front c bs)
  where
    by : (t : Bool) → (b == c) ≡ t → Lacks c (take (at c bs) bs) → Lacks c (take (cond (not t) (1 + at c bs) 0) (b ∷ bs))
    by true e ih = tt
    by false e ih = subst (λ n. Lacks c (take n (b ∷ bs))) (sym (one_more (at c bs))) (e, ih)

pub front_all : (c : ℕ) (bs : List ℕ) → Lacks c bs → front c bs ≡ bs
front_all c [] h = refl
front_all c (b ∷ bs) h =
    ap (λ t. take (cond (not t) (1 + at c bs) 0) (b ∷ bs)) h.0
    ∙ (ap (λ n. take n (b ∷ bs)) (one_more (at c bs)) ∙ ap (λ xs. b ∷ xs) (front_all c bs h.1))

pub behind_none : (c : ℕ) (bs : List ℕ) → Lacks c bs → behind c bs ≡ []
behind_none c [] h = refl
behind_none c (b ∷ bs) h =
    ap (λ t. drop (cond (not t) (1 + at c bs) 0 + 1) (b ∷ bs)) h.0
    ∙ (ap (λ n. drop n (b ∷ bs)) (one_after (at c bs)) ∙ behind_none c bs h.1)

is_same : (c : ℕ) → (c == c) ≡ true
is_same c = grind (arith, nat_tests)

pub front_of : (c : ℕ) (xs ys : List ℕ) → Lacks c xs → front c (xs ++ c ∷ ys) ≡ xs
front_of c [] ys h = ap (λ t. take (cond (not t) (1 + at c ys) 0) (c ∷ ys)) (is_same c)
front_of c (x ∷ xs) ys h =
    ap (λ t. take (cond (not t) (1 + at c (xs ++ c ∷ ys)) 0) (x ∷ xs ++ c ∷ ys)) h.0
    ∙ (ap (λ n. take n (x ∷ xs ++ c ∷ ys)) (one_more (at c (xs ++ c ∷ ys))) ∙ ap (λ zs. x ∷ zs) (front_of c xs ys h.1))

pub behind_of : (c : ℕ) (xs ys : List ℕ) → Lacks c xs → behind c (xs ++ c ∷ ys) ≡ ys
behind_of c [] ys h = ap (λ t. drop (cond (not t) (1 + at c ys) 0 + 1) (c ∷ ys)) (is_same c)
behind_of c (x ∷ xs) ys h =
    ap (λ t. drop (cond (not t) (1 + at c (xs ++ c ∷ ys)) 0 + 1) (x ∷ xs ++ c ∷ ys)) h.0
    ∙ (ap (λ n. drop n (x ∷ xs ++ c ∷ ys)) (one_after (at c (xs ++ c ∷ ys))) ∙ behind_of c xs ys h.1)

-- ---- cuts

byte_is : (b c : ℕ) → (b == c) ≡ true → b ≡ c
byte_is b c e = grind (arith, nat_tests, e)

pub uncut_lacks : (c : ℕ) (bs : List ℕ) → IsUncut (c ∷ []) bs → Lacks c bs
uncut_lacks c [] h = tt
uncut_lacks c (b ∷ bs) h = by (b == c) refl (uncut_lacks c bs (λ f g e. h (b ∷ f) g (ap (λ xs. b ∷ xs) e)))
  where
    by : (t : Bool) → (b == c) ≡ t → Lacks c bs → Lacks c (b ∷ bs)
    by true e ih = absurd (h [] bs (ap (λ x. x ∷ bs) (byte_is b c e)))
    by false e ih = (e, ih)

lacks_at : (c : ℕ) (bs : List ℕ) → Lacks c bs → at c bs ≡ length bs
lacks_at c [] h = refl
lacks_at c (b ∷ bs) h =
    ap (λ t. cond (not t) (1 + at c bs) 0) h.0
    ∙ (one_more (at c bs) ∙ ap suc (lacks_at c bs h.1))

pub lacks_uncut : (c : ℕ) (bs : List ℕ) → Lacks c bs → cut_at (c ∷ []) bs ≡ uncut
lacks_uncut c bs h = byte_uncut c bs (lacks_at c bs h)

first_at : (c : ℕ) (xs ys : List ℕ) → Lacks c xs → at c (xs ++ c ∷ ys) ≡ length xs
first_at c [] ys h = ap (λ t. cond (not t) (1 + at c ys) 0) (is_same c)
first_at c (x ∷ xs) ys h =
    ap (λ t. cond (not t) (1 + at c (xs ++ c ∷ ys)) 0) h.0
    ∙ (one_more (at c (xs ++ c ∷ ys)) ∙ ap suc (first_at c xs ys h.1))

pub lacks_cut : (c : ℕ) (xs ys : List ℕ) → Lacks c xs → cut_at (c ∷ []) (xs ++ c ∷ ys) ≡ cut xs ys
lacks_cut c xs ys h =
    byte_cut c (xs ++ c ∷ ys) (let n = first_at c xs ys h in let m = length-append xs (c ∷ ys) in omega (arith, n, m))
    ∙ (ap (λ f. cut f (behind c (xs ++ c ∷ ys))) (front_of c xs ys h) ∙ ap (λ g. cut xs g) (behind_of c xs ys h))

-- ---- parts

pub lacks_left : (c : ℕ) (xs ys : List ℕ) → Lacks c (xs ++ ys) → Lacks c xs
lacks_left c [] ys h = tt
lacks_left c (x ∷ xs) ys h = (h.0, lacks_left c xs ys h.1)

pub lacks_right : (c : ℕ) (xs ys : List ℕ) → Lacks c (xs ++ ys) → Lacks c ys
lacks_right c [] ys h = h
lacks_right c (x ∷ xs) ys h = lacks_right c xs ys h.1

-- ---- texts

byte_at : (c : ℕ) (bs : List ℕ) → at c bs < length bs → get_or bs (at c bs) 0 ≡ c
byte_at c bs h = let e = passes_at_first (λ b. b == c) bs 0 h in grind (arith, nat_tests, e)

pub front_text : (c : ℕ) (bs : List ℕ) → c < 128 → IsUtf8 bs → IsUtf8 (front c bs)
front_text c bs small h = by (cases_lt (at c bs) (length bs))
  where
    by : (at c bs < length bs) ⊎ (length bs ≤ at c bs) → IsUtf8 (front c bs)
    by (inl lt) = IsUtf8-take bs (at c bs) h (IsCharBoundary-before_ascii bs (at c bs) lt (let e = byte_at c bs lt in omega (arith, e, small)))
    by (inr le) = subst IsUtf8 (sym (take_all (at c bs) bs le)) h

pub behind_text : (c : ℕ) (bs : List ℕ) → c < 128 → IsUtf8 bs → IsUtf8 (behind c bs)
behind_text c bs small h = by (cases_lt (at c bs) (length bs))
  where
    by : (at c bs < length bs) ⊎ (length bs ≤ at c bs) → IsUtf8 (behind c bs)
    by (inl lt) = IsUtf8-drop bs (at c bs + 1) h (IsCharBoundary-after_ascii bs (at c bs) h lt (let e = byte_at c bs lt in omega (arith, e, small)))
    by (inr le) = subst IsUtf8 (sym (drop_all (at c bs + 1) bs (omega (arith, le)))) IsUtf8-nil
