-- The parts of a text between two bytes of one kind.
use Rattle.std.proofs.Common.{◌≡◌, ℕ, zero, suc, ◌+◌, ◌<◌, ◌==◌, not, Bool, true, false, cond, List, [], ◌∷◌, ◌++◌, length, get_or, refl, sym, ap, ap₂, ◌∙◌, arith, MatchOption, IfSome, Option, Some, None}
use Rattle.std.proofs.lemmas.Bool.Decides.{nat_tests}
use Rattle.std.proofs.lemmas.List.{length-drop}
use Rattle.std.proofs.lemmas.List.Splits.{slice_split_first, slice_split_none, slice_split_at, join_with_byte-slice_split}
use Rattle.std.proofs.lemmas.List.Sums.{fails_before_first, AllPass-from_list_all}
use Rattle.std.specs.List.{All, after_first, before_first, position_or_len, slice_split, onto_first, list_all, join_with_byte}
use denote.Ref.{Bor}

-- the parts between bytes c
abbrev pub parts : ℕ → List ℕ → List (List ℕ)
parts c text = slice_split (λ b. b == c) text

-- no byte is c
abbrev pub Lacks : ℕ → List ℕ → Type 0
Lacks c text = All (λ b. (b == c) ≡ false) text

-- what `split_once` gives
abbrev pub IsCutOnce : ℕ → List ℕ → Option (Bor (List ℕ) × Bor (List ℕ)) → Type 0
IsCutOnce c text r =
    MatchOption r (position_or_len (λ b. b == c) text ≡ length text)
    (λ x. (x.0.now ≡ before_first (λ b. b == c) text) × (x.1.now ≡ after_first (λ b. b == c) text) × (position_or_len (λ b. b == c) text < length text))

pub cut_parts : (c : ℕ) (text : List ℕ) (r : Option (Bor (List ℕ) × Bor (List ℕ))) → IsCutOnce c text r
    → MatchOption r (parts c text ≡ text ∷ []) (λ x. parts c text ≡ x.0.now ∷ parts c x.1.now)
cut_parts c text None h = slice_split_none (λ b. b == c) text (λ k d lt. fails_before_first (λ b. b == c) text k d (omega (arith, h)))
cut_parts c text (Some x) h = slice_split_first (λ b. b == c) text 0 h.2 ∙ ap₂ (λ f b. f ∷ parts c b) (sym h.0) (sym h.1)

pub cut_shorter : (c : ℕ) (text : List ℕ) (r : Option (Bor (List ℕ) × Bor (List ℕ))) → IsCutOnce c text r → IfSome r (λ x. length x.1.now < length text)
cut_shorter c text None h = tt
cut_shorter c text (Some x) h = omega (arith, h.2, ap length h.1, length-drop (position_or_len (λ b. b == c) text + 1) text)

-- a text that is tested byte by byte
no_byte : (t : Bool) → not t ≡ true → t ≡ false
no_byte true e = cc
no_byte false e = refl

pub lacks_by_test : (c : ℕ) (text : List ℕ) → list_all (λ b. not (b == c)) text ≡ true → Lacks c text
lacks_by_test c text e = λ k d lt. no_byte (get_or text k d == c) (AllPass-from_list_all (λ b. not (b == c)) text e k d lt)

same_byte : (c : ℕ) → (c == c) ≡ true
same_byte c = grind (arith, nat_tests)

-- a part before others
pub parts_at : (c : ℕ) (front behind : List ℕ) → Lacks c front → parts c (front ++ c ∷ behind) ≡ front ∷ parts c behind
parts_at c front behind h = slice_split_at (λ b. b == c) front c behind h (same_byte c)

pub parts_alone : (c : ℕ) (text : List ℕ) → Lacks c text → parts c text ≡ text ∷ []
parts_alone c text h = slice_split_none (λ b. b == c) text h

-- joined again
pub parts_joined : (c : ℕ) (text : List ℕ) → join_with_byte c (parts c text) ≡ text
parts_joined c text = join_with_byte-slice_split c text

-- there is a part
pub record HasPart (ts : List (List ℕ)) : Type 0 where
  pub first : List ℕ
  pub more : List (List ℕ)
  pub is : ts ≡ first ∷ more

some_first : (b : ℕ) (ts : List (List ℕ)) → HasPart ts → HasPart (onto_first b ts)
some_first b ts h = record { first = b ∷ h.first; more = h.more; is = ap (onto_first b) h.is }

pub some_part : (c : ℕ) (text : List ℕ) → HasPart (parts c text)
some_part c [] = record { first = []; more = []; is = refl }
some_part c (b ∷ bs) = by (b == c) (some_part c bs)
  where
    by : (t : Bool) → HasPart (parts c bs) → HasPart (cond t ([] ∷ parts c bs) (onto_first b (parts c bs)))
    by true h = record { first = []; more = parts c bs; is = refl }
    by false h = some_first b (parts c bs) h

-- no part has the byte
abbrev pub AllLack : ℕ → List (List ℕ) → Type 0
AllLack c [] = Unit {0}
AllLack c (t ∷ ts) = Lacks c t × AllLack c ts

lacks_none : (c : ℕ) → Lacks c []
lacks_none c = λ k d lt. absurd (omega (arith, lt))

lacks_more : (c b : ℕ) (bs : List ℕ) → (b == c) ≡ false → Lacks c bs → Lacks c (b ∷ bs)
lacks_more c b bs e h = by
  where
    by : (k d : ℕ) → k < length (b ∷ bs) → (get_or (b ∷ bs) k d == c) ≡ false
    by zero d lt = e
    by (suc k) d lt = h k d (omega (arith, lt))

first_lacks : (c b : ℕ) (ts : List (List ℕ)) → (b == c) ≡ false → AllLack c ts → AllLack c (onto_first b ts)
first_lacks c b [] e h = (lacks_more c b [] e (lacks_none c), tt)
first_lacks c b (t ∷ ts) e h = (lacks_more c b t e h.0, h.1)

pub parts_lack : (c : ℕ) (text : List ℕ) → AllLack c (parts c text)
parts_lack c [] = (lacks_none c, tt)
parts_lack c (b ∷ bs) = by (b == c) refl (parts_lack c bs)
  where
    by : (t : Bool) → (b == c) ≡ t → AllLack c (parts c bs) → AllLack c (cond t ([] ∷ parts c bs) (onto_first b (parts c bs)))
    by true e h = (lacks_none c, h)
    by false e h = first_lacks c b (parts c bs) e h

-- the parts of what is joined
pub parts_of_joined : (c : ℕ) (t : List ℕ) (ts : List (List ℕ)) → AllLack c (t ∷ ts) → parts c (join_with_byte c (t ∷ ts)) ≡ t ∷ ts
parts_of_joined c t [] h = parts_alone c t h.0
parts_of_joined c t (u ∷ ts) h = parts_at c t (join_with_byte c (u ∷ ts)) h.0 ∙ ap (λ us. t ∷ us) (parts_of_joined c u ts h.1)
