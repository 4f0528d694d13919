-- The last byte of a kind.
use Rattle.std.proofs.Common.{◌≡◌, ◌⊎◌, inl, inr, ℕ, zero, suc, ◌+◌, ◌<◌, ◌≤◌, Bool, true, false, cond, List, [], ◌∷◌, length, drop, get_or, refl, sym, ap, subst, ◌∙◌, arith, drop-cons, add-one}
use Rattle.std.specs.Str.{IsCharBoundary, IsUtf8}
use Rattle.std.proofs.lemmas.Bool.Decides.{nat_tests}
use Rattle.std.proofs.lemmas.Str.{IsCharBoundary-before_ascii, IsCharBoundary-after_ascii, IsCharBoundary-start, IsCharBoundary-end}
use Rattle.conf_sources.specs.Names.{through_by, through_last, is_slash, is_other, folder_len, trimmed_len}

-- what was found before this place, and what is found from there on
abbrev pub found_by : ℕ → ℕ → ℕ → ℕ
found_by i len zero = len
found_by i len (suc n) = suc n + i

abbrev pub so_far : (ℕ → Bool) → ℕ → ℕ → List ℕ → ℕ
so_far p i len rest = found_by i len (through_last p rest)

step_by : (c : Bool) (n i len : ℕ) → found_by i len (through_by c n) ≡ found_by (i + 1) (cond c (i + 1) len) n
step_by true zero i len = omega arith
step_by false zero i len = refl
step_by c (suc n) i len = omega arith

turn_by : (p : ℕ → Bool) (bs : List ℕ) (i len : ℕ) (c : Bool) → i < length bs → p (get_or bs i 0) ≡ c → so_far p (i + 1) (cond c (i + 1) len) (drop (i + 1) bs) ≡ so_far p i len (drop i bs)
turn_by p bs i len c inside e =
    ap (λ x. so_far p (i + 1) (cond c (i + 1) len) (drop x bs)) (add-one i)
    ∙ sym (ap (so_far p i len) (drop-cons bs i 0 inside) ∙ step_by (p (get_or bs i 0)) (through_last p (drop (suc i) bs)) i len
    ∙ ap (λ x. so_far p (i + 1) (cond x (i + 1) len) (drop (suc i) bs)) e)

-- a turn of the search, at a byte of the kind
pub turn_hit : (p : ℕ → Bool) (bs : List ℕ) (i len next : ℕ) → i < length bs → p (get_or bs i 0) ≡ true → next ≡ i + 1 → so_far p (i + 1) next (drop (i + 1) bs) ≡ so_far p i len (drop i bs)
turn_hit p bs i len next inside e en = ap (λ x. so_far p (i + 1) x (drop (i + 1) bs)) en ∙ turn_by p bs i len true inside e

-- and at another
pub turn_miss : (p : ℕ → Bool) (bs : List ℕ) (i len next : ℕ) → i < length bs → p (get_or bs i 0) ≡ false → next ≡ len → so_far p (i + 1) next (drop (i + 1) bs) ≡ so_far p i len (drop i bs)
turn_miss p bs i len next inside e en = ap (λ x. so_far p (i + 1) x (drop (i + 1) bs)) en ∙ turn_by p bs i len false inside e

begins_by : (n : ℕ) → found_by 0 0 n ≡ n
begins_by zero = refl
begins_by (suc n) = omega arith

pub begins : (p : ℕ → Bool) (bs : List ℕ) → so_far p 0 0 bs ≡ through_last p bs
begins p bs = begins_by (through_last p bs)

nothing_left : {A : Type 0} (xs : List A) (i : ℕ) → length xs ≤ i → drop i xs ≡ []
nothing_left [] zero h = refl
nothing_left [] (suc i) h = refl
nothing_left (x ∷ xs) zero h = absurd (omega arith)
nothing_left (x ∷ xs) (suc i) h = nothing_left xs i (omega arith)

pub ends : (p : ℕ → Bool) (bs : List ℕ) (i len : ℕ) → length bs ≤ i → so_far p i len (drop i bs) ≡ through_last p bs → len ≡ through_last p bs
ends p bs i len past h = sym (ap (so_far p i len) (nothing_left bs i past)) ∙ h

within_by : (c : Bool) (n l : ℕ) → n ≤ l → through_by c n ≤ suc l
within_by true zero l h = omega arith
within_by false zero l h = omega arith
within_by c (suc n) l h = omega arith

within : (p : ℕ → Bool) (bs : List ℕ) → through_last p bs ≤ length bs
within p [] = omega arith
within p (b ∷ bs) = within_by (p b) (through_last p bs) (length bs) (within p bs)

-- the byte before is of the kind
last_by : (p : ℕ → Bool) (b : ℕ) (bs : List ℕ) (c : Bool) (m n : ℕ) → p b ≡ c → through_last p bs ≡ m → ((k : ℕ) → m ≡ suc k → p (get_or bs k 0) ≡ true)
    → through_by c m ≡ suc n → p (get_or (b ∷ bs) n 0) ≡ true
last_by p b bs true zero zero ec em more e = ec
last_by p b bs true zero (suc n) ec em more e = absurd (omega (arith, e))
last_by p b bs false zero n ec em more e = absurd (omega (arith, e))
last_by p b bs c (suc m) zero ec em more e = absurd (omega (arith, e))
last_by p b bs c (suc m) (suc n) ec em more e = more n (omega (arith, e))

last_is : (p : ℕ → Bool) (bs : List ℕ) (n : ℕ) → through_last p bs ≡ suc n → p (get_or bs n 0) ≡ true
last_is p [] n e = absurd (omega (arith, e))
last_is p (b ∷ bs) n e = last_by p b bs (p b) (through_last p bs) n refl refl (last_is p bs) e

-- and that behind isn't
behind_by : (p : ℕ → Bool) (b : ℕ) (bs : List ℕ) (c : Bool) (m : ℕ) → p b ≡ c → (m < length bs → p (get_or bs m 0) ≡ false) → through_by c m < suc (length bs) → p (get_or (b ∷ bs) (through_by c m) 0) ≡ false
behind_by p b bs true zero ec more h = more (omega (arith, h))
behind_by p b bs false zero ec more h = ec
behind_by p b bs c (suc m) ec more h = more (omega (arith, h))

behind_isnt : (p : ℕ → Bool) (bs : List ℕ) → through_last p bs < length bs → p (get_or bs (through_last p bs) 0) ≡ false
behind_isnt p [] h = absurd (omega (arith, h))
behind_isnt p (b ∷ bs) h = behind_by p b bs (p b) (through_last p bs) refl (behind_isnt p bs) h

slash_is : (b : ℕ) → is_slash b ≡ true → b < 128
slash_is b e = grind (arith, nat_tests)

other_isnt : (b : ℕ) → is_other b ≡ false → b < 128
other_isnt b e = grind (arith, nat_tests)

folder_by : (bs : List ℕ) (n : ℕ) → IsUtf8 bs → through_last is_slash bs ≡ n → n ≤ length bs → IsCharBoundary bs n
folder_by bs zero u e h = IsCharBoundary-start bs u
folder_by bs (suc n) u e h = subst (λ k. IsCharBoundary bs k) (add-one n) (IsCharBoundary-after_ascii bs n u (omega arith) (slash_is (get_or bs n 0) (last_is is_slash bs n e)))

-- a name may be cut behind its folder
pub folder_boundary : (bs : List ℕ) → IsUtf8 bs → IsCharBoundary bs (folder_len bs)
folder_boundary bs u = folder_by bs (folder_len bs) u refl (within is_slash bs)

le_cases : (m n : ℕ) → m ≤ n → (m < n) ⊎ (m ≡ n)
le_cases zero zero h = inr refl
le_cases zero (suc n) h = inl (omega arith)
le_cases (suc m) zero h = absurd (omega arith)
le_cases (suc m) (suc n) h = elim (le_cases m n (omega arith)) [ inl a ↦ inl (omega arith) | inr b ↦ inr (ap suc b) ]

trimmed_by : (bs : List ℕ) (n : ℕ) → through_last is_other bs ≡ n → (n < length bs) ⊎ (n ≡ length bs) → IsCharBoundary bs n
trimmed_by bs n e (inl h) =
    let P : ℕ → Type 0 = λ k. k < length bs → is_other (get_or bs k 0) ≡ false in
    IsCharBoundary-before_ascii bs n h (other_isnt (get_or bs n 0) (subst P e (behind_isnt is_other bs) h))
trimmed_by bs n e (inr h) = subst (λ k. IsCharBoundary bs k) (sym h) (IsCharBoundary-end bs)

-- and before the `/` at its end
pub trimmed_boundary : (bs : List ℕ) → IsCharBoundary bs (trimmed_len bs)
trimmed_boundary bs = trimmed_by bs (trimmed_len bs) refl (le_cases (trimmed_len bs) (length bs) (within is_other bs))
