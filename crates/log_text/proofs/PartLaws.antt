-- Parts that are joined, both ways.
use Rattle.std.proofs.Common.{◌≡◌, ℕ, zero, suc, ◌<◌, true, false, cond, List, [], ◌∷◌, ◌++◌, length, drop, map, codes, refl, sym, ap, ◌∙◌, subst, append_assoc, append-nil, arith, Option, Some, None}
use Rattle.std.proofs.lemmas.List.{length-append}
use Rattle.std.specs.List.{AllByRecursion}
use Rattle.site_text.specs.Entries.{list_text, parts_text}
use Rattle.site_text.specs.ScriptReading.{begins}
use Rattle.log_text.specs.Fronts.{Front, ◌>>=◌, behind, with_first, joined, after_part, parts_within, list_at}
use Rattle.log_text.proofs.FieldLaws.{bind_some, some_is, word_or, behind_sound}

-- a reader and a spelling of the same values, where what may stand behind a value is known
pub record Spells {A : Type 0} (text : A → List ℕ) (part : List ℕ → Front A) (V : A → Type 0) (Stop : List ℕ → Type 0) : Type 0 where
  pub sound : (bs : List ℕ) (y : A × List ℕ) → part bs ≡ Some y → (bs ≡ text y.0 ++ y.1) × V y.0
  pub complete : (x : A) (rest : List ℕ) → V x → Stop rest → part (text x ++ rest) ≡ Some (x, rest)
  pub some : (x : A) → 0 < length (text x)
  pub no_dash : (x : A) (rest : List ℕ) → begins (codes "-") (text x ++ rest) ≡ false
  pub before_comma : (rest : List ℕ) → Stop (codes ", " ++ rest)

-- What is read is spelled so.
module _ {A : Type 0} (text : A → List ℕ) (part : List ℕ → Front A) (V : A → Type 0) (sound : (bs : List ℕ) (y : A × List ℕ) → part bs ≡ Some y → (bs ≡ text y.0 ++ y.1) × V y.0) where
  abbrev parts : List A → List ℕ
  parts xs = parts_text false (map text xs)

  -- behind a first part
  later : (xs : List A) → 0 < length xs → parts_text true (map text xs) ≡ codes ", " ++ parts xs
  later [] some = absurd (omega arith)
  later (x ∷ xs) some = refl

  abbrev AreParts : List ℕ → List A × List ℕ → Type 0
  AreParts bs y = (bs ≡ parts y.0 ++ y.1) × AllByRecursion V y.0 × (0 < length y.0)

  parts_sound : (most : ℕ) (bs : List ℕ) (y : List A × List ℕ) → parts_within most part bs ≡ Some y → AreParts bs y
  parts_sound zero bs y e = absurd cc
  parts_sound (suc most) bs y e =
      let a = bind_some (part bs) (after_part (parts_within most part)) y e in
      by (λ next z h. parts_sound most next z h) a.0 (sound bs a.0 a.1) (behind (codes ", ") a.0.1) refl a.2
    where
      by : ((next : List ℕ) (z : List A × List ℕ) → parts_within most part next ≡ Some z → AreParts next z) → (x : A × List ℕ) → (bs ≡ text x.0 ++ x.1) × V x.0 → (r : Option (List ℕ)) → behind (codes ", ") x.1 ≡ r
          → joined (parts_within most part) x r ≡ Some y → AreParts bs y
      by again x h None none e =
          subst (AreParts bs) (some_is (x.0 ∷ [], x.1) y e) (h.0 ∙ ap (λ t. t ++ x.1) (sym (append-nil (text x.0))), (h.1, tt), omega arith)
      by again x h (Some next) comma e =
          let b = bind_some (parts_within most part next) (with_first x.0) y e in
          let more = again next b.0 b.1 in
          let after : x.1 ≡ codes ", " ++ next = behind_sound (codes ", ") x.1 next comma in
          let whole : bs ≡ parts (x.0 ∷ b.0.0) ++ b.0.1 =
          h.0 ∙ (ap (λ xs. text x.0 ++ xs) (after ∙ ap (λ xs. codes ", " ++ xs) more.0)
          ∙ (ap (λ xs. text x.0 ++ (xs ++ b.0.1)) (sym (later b.0.0 more.2)) ∙ sym (append_assoc (text x.0) (parts_text true (map text b.0.0)) b.0.1))) in
          subst (AreParts bs) (some_is (x.0 ∷ b.0.0, b.0.1) y b.2) (whole, (h.1, more.1), omega arith)

  pub list_sound : (bs : List ℕ) (y : List A × List ℕ) → list_at part bs ≡ Some y → (bs ≡ list_text (map text y.0) ++ y.1) × AllByRecursion V y.0
  list_sound bs y e =
      word_or (codes "-") bs (Some ([], drop 1 bs)) (parts_within (length bs) part bs) y
      (λ front h. subst (λ (z : List A × List ℕ). (bs ≡ list_text (map text z.0) ++ z.1) × AllByRecursion V z.0) (some_is ([], drop 1 bs) y h) (front, tt))
      (λ h. let all = parts_sound (length bs) bs y h in (all.0 ∙ ap (λ t. t ++ y.1) (sym (full y.0 all.2)), all.1))
      e
    where
      full : (xs : List A) → 0 < length xs → list_text (map text xs) ≡ parts xs
      full [] some = absurd (omega arith)
      full (x ∷ xs) some = refl

-- And what is spelled so is read.
module _ {A : Type 0} (text : A → List ℕ) (part : List ℕ → Front A) (V : A → Type 0) (Stop : List ℕ → Type 0) (s : Spells text part V Stop) where
  abbrev all_parts : List A → List ℕ
  all_parts xs = parts_text false (map text xs)

  -- what may stand behind the last part
  abbrev pub Ends : List ℕ → Type 0
  Ends rest = Stop rest × (behind (codes ", ") rest ≡ None)

  parts_complete : (most : ℕ) (x : A) (xs : List A) (rest : List ℕ) → length xs < most → AllByRecursion V (x ∷ xs) → Ends rest → parts_within most part (all_parts (x ∷ xs) ++ rest) ≡ Some (x ∷ xs, rest)
  parts_complete zero x xs rest few valid end = absurd (omega arith)
  parts_complete (suc most) x [] rest few valid end =
      let spelled : all_parts (x ∷ []) ++ rest ≡ text x ++ rest = ap (λ t. t ++ rest) (append-nil (text x)) in
      ap (λ bs. part bs >>= after_part (parts_within most part)) spelled
      ∙ (ap (λ r. r >>= after_part (parts_within most part)) (s.complete x rest valid.0 end.0) ∙ ap (joined (parts_within most part) (x, rest)) end.1)
  parts_complete (suc most) x (z ∷ zs) rest few valid end =
      let more : List ℕ = all_parts (z ∷ zs) ++ rest in
      let spelled : all_parts (x ∷ z ∷ zs) ++ rest ≡ text x ++ (codes ", " ++ more) = append_assoc (text x) (codes ", " ++ all_parts (z ∷ zs)) rest in
      ap (λ bs. part bs >>= after_part (parts_within most part)) spelled
      ∙ (ap (λ r. r >>= after_part (parts_within most part)) (s.complete x (codes ", " ++ more) valid.0 (s.before_comma more))
      ∙ ap (λ r. r >>= with_first x) (parts_complete most z zs rest (omega arith) valid.1 end))

  enough : (x : A) (xs : List A) (rest : List ℕ) → length xs < length (all_parts (x ∷ xs) ++ rest)
  enough x [] rest = omega (arith, s.some x, length-append (text x ++ []) rest, length-append (text x) [])
  enough x (z ∷ zs) rest =
      omega (arith, s.some x, enough z zs rest, ap length (append_assoc (text x) (codes ", " ++ all_parts (z ∷ zs)) rest), length-append (text x) (codes ", " ++ (all_parts (z ∷ zs) ++ rest)))

  pub list_complete : (xs : List A) (rest : List ℕ) → AllByRecursion V xs → Ends rest → list_at part (list_text (map text xs) ++ rest) ≡ Some (xs, rest)
  list_complete [] rest valid end = refl
  list_complete (x ∷ xs) rest valid end =
      let whole : List ℕ = all_parts (x ∷ xs) ++ rest in
      let dash : begins (codes "-") whole ≡ false = ap (begins (codes "-")) (append_assoc (text x) (parts_text true (map text xs)) rest) ∙ s.no_dash x (parts_text true (map text xs) ++ rest) in
      ap (λ t. cond t (Some ([], drop 1 whole)) (parts_within (length whole) part whole)) dash
      ∙ parts_complete (length whole) x xs rest (enough x xs rest) valid end
