-- Names, sights and the beginnings of lines that are spelled alike are the same.
use Rattle.std.proofs.Common.{◌≡◌, ℕ, ◌^◌, ◌<◌, ◌≤◌, ◌==◌, not, true, false, List, [], ◌∷◌, ◌++◌, length, map, codes, get_or, refl, sym, ap, ◌∙◌, append_assoc, arith, ◌⊎◌, inl, inr}
use Rattle.std.proofs.lemmas.Bool.{cases_lt}
use Rattle.std.specs.Fmt.{decimal}
use Rattle.std.specs.List.{AllByRecursion}
use Rattle.site_base.specs.Quoted.{quoted}
use Rattle.site_model.specs.PlainSite.{PlainSite, full_names}
use Rattle.site_model.specs.Sound.{AreDistinct}
use Rattle.site_model.specs.declared.sight.Sight.{Sight}
use Rattle.site_text.proofs.BodyLaws.{quoted_complete}
use Rattle.site_text.specs.Entries.{list_text, name_text, parts_text, sight_text}
use Rattle.site_text.specs.ScriptReading.{got, quoted_at}
use Rattle.site_audit.proofs.Bytes.{decimal_digits, decimal_is, head_of, is_digit, is_itself, lacks, same_front, tail_of}

-- Names.

got_same : (a b r q : List ℕ) → got a r ≡ got b q → (a ≡ b) × (r ≡ q)
got_same a b r q e = (cc, cc)

pub same_quoted : (a b r q : List ℕ) → quoted a ++ r ≡ quoted b ++ q → (a ≡ b) × (r ≡ q)
same_quoted a b r q e = got_same a b r q (sym (quoted_complete a r) ∙ (ap quoted_at e ∙ quoted_complete b q))

same_place : (names : List (List ℕ)) (j k : ℕ) → AreDistinct names → j < length names → k < length names → get_or names j [] ≡ get_or names k [] → j ≡ k
same_place names j k apart inside inside2 e = by (cases_lt j k) (cases_lt k j)
  where
    by : (j < k) ⊎ (k ≤ j) → (k < j) ⊎ (j ≤ k) → j ≡ k
    by (inl lt) other = absurd (apart j k [] lt inside2 e)
    by (inr le) (inl lt) = absurd (apart k j [] lt inside (sym e))
    by (inr le) (inr ge) = omega (arith, le, ge)

pub same_name : (names : List (List ℕ)) (j k : ℕ) (r q : List ℕ) → AreDistinct names → j < length names → k < length names → name_text names j ++ r ≡ name_text names k ++ q → (j ≡ k) × (r ≡ q)
same_name names j k r q apart inside inside2 e =
    let both = same_quoted (get_or names j []) (get_or names k []) r q e in
    (same_place names j k apart inside inside2 both.0, both.1)

-- Sights.

-- a sight of a checkable of the site, and one whose count has its bits
abbrev pub IsInside : PlainSite → Sight → Type 0
IsInside s x = x.checkable < length (full_names s)

abbrev pub IsLow : PlainSite → Sight → Type 0
IsLow s x = IsInside s x × (x.count < 2 ^ 64)

module _ (s : PlainSite) (apart : AreDistinct (full_names s)) where
  abbrev spelled : Sight → List ℕ
  spelled x = sight_text s x

  sight_front : (x : Sight) (rest : List ℕ) → spelled x ++ rest ≡ name_text (full_names s) x.checkable ++ 32 ∷ (decimal x.count ++ rest)
  sight_front x rest = append_assoc (name_text (full_names s) x.checkable) (32 ∷ decimal x.count) rest

  same_sight : (x y : Sight) (c d : ℕ) (r q : List ℕ) → IsInside s x → IsLow s y → is_digit c ≡ false → is_digit d ≡ false → spelled x ++ c ∷ r ≡ spelled y ++ d ∷ q → (x ≡ y) × (c ∷ r ≡ d ∷ q)
  same_sight x y c d r q inside low stop stop2 e =
      let names = same_name (full_names s) x.checkable y.checkable (32 ∷ (decimal x.count ++ c ∷ r)) (32 ∷ (decimal y.count ++ d ∷ q)) apart inside low.0 (sym (sight_front x (c ∷ r)) ∙ (e ∙ sight_front y (d ∷ q))) in
      let counts = same_front is_digit (decimal x.count) (decimal y.count) c d r q (decimal_digits x.count) (decimal_digits y.count) stop stop2 (ap tail_of names.1) in
      let count : x.count ≡ y.count = decimal_is x.count y.count low.1 counts.0 in
      ((λ i. record { checkable = names.0 i; count = count i }), counts.1)

  -- what stands behind a sight begins with no digit
  abbrev others : List Sight → List ℕ → List ℕ
  others xs r = parts_text true (map spelled xs) ++ 32 ∷ 124 ∷ r

  record IsStopped (bs : List ℕ) : Type 0 where
    first : ℕ
    rest : List ℕ
    is : bs ≡ first ∷ rest
    stop : is_digit first ≡ false

  stopped : (xs : List Sight) (r : List ℕ) → IsStopped (others xs r)
  stopped [] r = record { first = 32; rest = 124 ∷ r; is = refl; stop = refl }
  stopped (x ∷ xs) r = record { first = 44; rest = tail_of (others (x ∷ xs) r); is = refl; stop = refl }

  -- a sight with those behind it
  one_and_others : (x : Sight) (xs : List Sight) (r : List ℕ) → (spelled x ++ parts_text true (map spelled xs)) ++ 32 ∷ 124 ∷ r ≡ spelled x ++ others xs r
  one_and_others x xs r = append_assoc (spelled x) (parts_text true (map spelled xs)) (32 ∷ 124 ∷ r)

  both_parts : (x y : Sight) (xs ys : List Sight) (r q : List ℕ) → IsInside s x → IsLow s y → (spelled x ++ parts_text true (map spelled xs)) ++ 32 ∷ 124 ∷ r ≡ (spelled y ++ parts_text true (map spelled ys)) ++ 32 ∷ 124 ∷ q → (x ≡ y) × (others xs r ≡ others ys q)
  both_parts x y xs ys r q inside low e =
      let a = stopped xs r in
      let b = stopped ys q in
      let same = same_sight x y a.first b.first a.rest b.rest inside low a.stop b.stop
      (sym (one_and_others x xs r ∙ ap (λ bs. spelled x ++ bs) a.is) ∙ (e ∙ (one_and_others y ys q ∙ ap (λ bs. spelled y ++ bs) b.is))) in
      (same.0, a.is ∙ (same.1 ∙ sym b.is))

  same_others : (xs ys : List Sight) (r q : List ℕ) → AllByRecursion (IsInside s) xs → AllByRecursion (IsLow s) ys → others xs r ≡ others ys q → xs ≡ ys
  same_others [] [] r q inside low e = refl
  same_others [] (y ∷ ys) r q inside low e = let bad : 32 ≡ 44 = ap head_of e in absurd (omega (arith, bad))
  same_others (x ∷ xs) [] r q inside low e = let bad : 44 ≡ 32 = ap head_of e in absurd (omega (arith, bad))
  same_others (x ∷ xs) (y ∷ ys) r q inside low e =
      let both = both_parts x y xs ys r q inside.0 low.0 (ap (λ bs. tail_of (tail_of bs)) e) in
      let more = same_others xs ys r q inside.1 low.1 both.1 in
      λ i. both.0 i ∷ more i

  pub same_sights : (xs ys : List Sight) (r q : List ℕ) → AllByRecursion (IsInside s) xs → AllByRecursion (IsLow s) ys → list_text (map spelled xs) ++ 32 ∷ 124 ∷ r ≡ list_text (map spelled ys) ++ 32 ∷ 124 ∷ q → xs ≡ ys
  same_sights [] [] r q inside low e = refl
  same_sights [] (y ∷ ys) r q inside low e = let bad : 45 ≡ 34 = ap head_of e in absurd (omega (arith, bad))
  same_sights (x ∷ xs) [] r q inside low e = let bad : 34 ≡ 45 = ap head_of e in absurd (omega (arith, bad))
  same_sights (x ∷ xs) (y ∷ ys) r q inside low e =
      let both = both_parts x y xs ys r q inside.0 low.0 e in
      let more = same_others xs ys r q inside.1 low.1 both.1 in
      λ i. both.0 i ∷ more i

  -- Lines of entries.

  -- a line of the entry of a checkable: its number, its caller, what stands before the first bar, and what was seen
  abbrev pub line_as : ℕ → ℕ → ℕ → List ℕ → List Sight → List ℕ → List ℕ
  line_as k number caller middle sights more =
      codes "entry " ++ (name_text (full_names s) k ++ 32 ∷ (decimal number ++ 32 ∷ (codes "by " ++ (decimal caller ++ 32 ∷ (middle ++ 124 ∷ 32 ∷ (list_text (map spelled sights) ++ 32 ∷ 124 ∷ more))))))

  -- what it tells but for its number
  pub record AreSame (k j caller other : ℕ) (xs ys : List Sight) : Type 0 where
    pub checkable : k ≡ j
    pub callers : caller ≡ other
    pub sights : xs ≡ ys

  pub same_line : (k j n m caller other : ℕ) (middle middle2 : List ℕ) (xs ys : List Sight) (r q : List ℕ) → k < length (full_names s) → j < length (full_names s) → caller < 2 ^ 64 → lacks 124 middle ≡ true → lacks 124 middle2 ≡ true → AllByRecursion (IsInside s) xs → AllByRecursion (IsLow s) ys
      → line_as k n caller middle xs r ≡ line_as j m other middle2 ys q → AreSame k j caller other xs ys
  same_line k j n m caller other middle middle2 xs ys r q inside inside2 few lacking lacking2 own low e =
      let tails = λ (bs : List ℕ). tail_of (tail_of (tail_of bs)) in
      let rest : ℕ → List ℕ → List Sight → List ℕ → List ℕ = λ c mid zs more. decimal c ++ 32 ∷ (mid ++ 124 ∷ 32 ∷ (list_text (map spelled zs) ++ 32 ∷ 124 ∷ more)) in
      let names = same_name (full_names s) k j (32 ∷ (decimal n ++ 32 ∷ (codes "by " ++ rest caller middle xs r))) (32 ∷ (decimal m ++ 32 ∷ (codes "by " ++ rest other middle2 ys q))) apart inside inside2 (ap (λ bs. tails (tails bs)) e) in
      let numbers = same_front is_digit (decimal n) (decimal m) 32 32 (codes "by " ++ rest caller middle xs r) (codes "by " ++ rest other middle2 ys q) (decimal_digits n) (decimal_digits m) refl refl (ap tail_of names.1) in
      let callers = same_front is_digit (decimal caller) (decimal other) 32 32 (middle ++ 124 ∷ 32 ∷ (list_text (map spelled xs) ++ 32 ∷ 124 ∷ r)) (middle2 ++ 124 ∷ 32 ∷ (list_text (map spelled ys) ++ 32 ∷ 124 ∷ q)) (decimal_digits caller) (decimal_digits other) refl refl (ap (λ bs. tails (tail_of bs)) numbers.1) in
      let middles = same_front (λ b. not (b == 124)) middle middle2 124 124 (32 ∷ (list_text (map spelled xs) ++ 32 ∷ 124 ∷ r)) (32 ∷ (list_text (map spelled ys) ++ 32 ∷ 124 ∷ q)) lacking lacking2 (is_itself 124) (is_itself 124) (ap tail_of callers.1) in
      record {
        checkable = names.0;
        callers = sym (decimal_is other caller few (sym callers.0));
        sights = same_sights xs ys r q own low (ap (λ bs. tail_of (tail_of bs)) middles.1);
      }
