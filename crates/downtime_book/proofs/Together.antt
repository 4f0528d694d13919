-- What changes of runs make of all downtimes together.
use Rattle.std.proofs.Common.{◌≡◌, ℕ, suc, zero, ◌+◌, ◌<◌, ◌≤◌, ◌==◌, ◌||◌, Bool, true, false, not, cond, List, [], ◌∷◌, ◌++◌, length, filter, take, drop, set, get_or, IsPermutation, refl, sym, ap, ◌∙◌, subst, arith, append-nil, append_assoc, length-append, take-append-drop, length-set, drop-set-lt, drop-drop, get_or-drop, take_all}
use Rattle.std.specs.List.{flat_map, list_any}
use Rattle.std.proofs.lemmas.Bool.{true≢false}
use Rattle.std.proofs.lemmas.Bool.Decides.{nat_tests}
use Rattle.std.proofs.lemmas.List.{take_more, take_more_set}
use Rattle.std.proofs.lemmas.List.Concat.{flat_map-append}
use Rattle.std.proofs.lemmas.List.Elements.{filter-append}
use Rattle.std.proofs.lemmas.List.Sorted.{IsPermutation-append_left, IsPermutation-append_right, IsPermutation-middle, IsPermutation-sym, IsPermutation-to_front, IsPermutation-trans}
use Rattle.downtime_book.specs.declared.downtime.Downtime.{Downtime}
use Rattle.downtime_book.specs.Contents.{together}

abbrev pub Runs : Type 0
Runs = List (List Downtime)

pub together-push : (runs : Runs) (run : List Downtime) → together (runs ++ run ∷ []) ≡ together runs ++ run
together-push runs run =
    flat_map-append (λ (r : List Downtime). r) runs (run ∷ []) ∙ ap (λ (l : List Downtime). together runs ++ l) (append-nil run)

-- ---- a change of each run in turn
-- so many runs are changed, which the relation says of all their downtimes, and the rest is as it was
pub record Met (R : List Downtime → List Downtime → Type 0) (before now : Runs) (i : ℕ) : Type 0 where
  pub done : R (together (take i before)) (together (take i now))
  pub rest : drop i now ≡ drop i before
  pub long : length now ≡ length before

-- the run that is next
next_is : (R : List Downtime → List Downtime → Type 0) (before now : Runs) (i : ℕ) (x : List Downtime) → Met R before now i → get_or now i x ≡ get_or before i x
next_is R before now i x met =
    let e : i ≡ i + 0 = omega arith in
    ap (λ k. get_or now k x) e ∙ sym (get_or-drop i now 0 x) ∙ ap (λ (l : Runs). get_or l 0 x) met.rest ∙ get_or-drop i before 0 x ∙ ap (λ k. get_or before k x) (sym e)

pub met_more : (R : List Downtime → List Downtime → Type 0) → ((xs ys us vs : List Downtime) → R xs ys → R us vs → R (xs ++ us) (ys ++ vs)) → (before now : Runs) (i : ℕ) (x y : List Downtime) → Met R before now i → i < length before → x ≡ get_or now i x → R x y → Met R before (set now i y) (i + 1)
met_more R both before now i x y met h is r =
    let here : i < length now = omega (arith, met.long) in
    let at : x ≡ get_or before i x = is ∙ next_is R before now i x met in
    let old : together (take (i + 1) before) ≡ together (take i before) ++ x =
    ap together (take_more before i x h) ∙ together-push (take i before) (get_or before i x) ∙ ap (λ (l : List Downtime). together (take i before) ++ l) (sym at) in
    let new : together (take (i + 1) (set now i y)) ≡ together (take i now) ++ y =
    ap together (take_more_set now i y here) ∙ together-push (take i now) y in
    let all : R (together (take i before) ++ x) (together (take i now) ++ y) = both _ _ _ _ met.done r in
    record {
      done = subst (λ (l : List Downtime). R l (together (take (i + 1) (set now i y)))) (sym old) (subst (λ (l : List Downtime). R (together (take i before) ++ x) l) (sym new) all);
      rest = drop-set-lt (i + 1) now i y (omega arith) ∙ sym (drop-drop 1 i now) ∙ ap (drop 1) met.rest ∙ drop-drop 1 i before;
      long = length-set now i y ∙ met.long;
    }

pub met_whole : (R : List Downtime → List Downtime → Type 0) (before now : Runs) (i : ℕ) → length before ≤ i → Met R before now i → R (together before) (together now)
met_whole R before now i h met =
    let up : length now ≤ i = omega (arith, h, met.long) in
    subst (λ (l : Runs). R (together l) (together now)) (take_all i before h) (subst (λ (l : Runs). R (together (take i before)) (together l)) (take_all i now up) met.done)

-- ---- how many they are
pub counted_more : (runs : Runs) (i : ℕ) (d : List Downtime) → i < length runs → length (together (take (i + 1) runs)) ≡ length (together (take i runs)) + length (get_or runs i d)
counted_more runs i d h =
    ap length (ap together (take_more runs i d h) ∙ together-push (take i runs) (get_or runs i d)) ∙ length-append (together (take i runs)) (get_or runs i d)

pub counted_most : (runs : Runs) (i : ℕ) → length (together (take i runs)) ≤ length (together runs)
counted_most runs i =
    let parts = ap together (sym (take-append-drop i runs)) ∙ flat_map-append (λ (r : List Downtime). r) (take i runs) (drop i runs) in
    let long = ap length parts ∙ length-append (together (take i runs)) (together (drop i runs)) in
    omega (arith, long)

pub fewer : (p : Downtime → Bool) (xs : List Downtime) → length (filter p xs) ≤ length xs
fewer p [] = omega arith
fewer p (x ∷ xs) = by (p x) (fewer p xs)
  where
    by : (b : Bool) → length (filter p xs) ≤ length xs → length (cond b (x ∷ filter p xs) (filter p xs)) ≤ suc (length xs)
    by true h = omega arith
    by false h = omega arith

-- ---- runs without a downtime
abbrev pub is_full : List Downtime → Bool
is_full run = not (length run == 0)

more_than_none : (n : ℕ) → (suc n == 0) ≡ false
more_than_none n = grind (arith, nat_tests)

pub together-full : (runs : Runs) → together (filter is_full runs) ≡ together runs
together-full [] = refl
together-full ([] ∷ runs) = together-full runs
together-full ((d ∷ ds) ∷ runs) =
    ap (λ b. together (cond (not b) ((d ∷ ds) ∷ filter is_full runs) (filter is_full runs))) (more_than_none (length ds)) ∙ ap (λ (l : List Downtime). (d ∷ ds) ++ l) (together-full runs)

pub nothing : (xs : List Downtime) → (length xs == 0) ≡ true → xs ≡ []
nothing [] h = refl
nothing (x ∷ xs) h = absurd (true≢false (sym h ∙ more_than_none (length xs)))

-- ---- two neighbours
module _ (a b : List Downtime) where
  -- both of the joined lists stand where the two did
  in_place : (xs left right : List Downtime) → IsPermutation (left ++ right) (a ++ b) → IsPermutation (left ++ (right ++ xs)) (a ++ (b ++ xs))
  in_place xs left right h =
      let all = IsPermutation-append_left xs (left ++ right) (a ++ b) h in
      subst (λ (l : List Downtime). IsPermutation l (a ++ (b ++ xs))) (append_assoc left right xs) (subst (λ (l : List Downtime). IsPermutation ((left ++ right) ++ xs) l) (append_assoc a b xs) all)

  pub joined : (runs : Runs) (i : ℕ) (none x y : List Downtime) → suc i < length runs → x ≡ get_or runs i x → y ≡ get_or runs (suc i) y → IsPermutation (x ++ y) (a ++ b) → IsPermutation (together runs) (together (set (set (set runs (suc i) none) i a) (suc i) b))
  joined [] i none x y h e f p = absurd (omega arith)
  joined (r ∷ []) i none x y h e f p = absurd (omega arith)
  joined (r ∷ s ∷ runs) zero none x y h e f p =
      in_place (together runs) r s (subst (λ (l : List Downtime). IsPermutation (r ++ l) (a ++ b)) f (subst (λ (l : List Downtime). IsPermutation (l ++ y) (a ++ b)) e p))
  joined (r ∷ runs) (suc i) none x y h e f p = IsPermutation-append_right r _ _ (joined runs i none x y (omega arith) e f p)

-- ---- one downtime more
pub put_in : (runs : Runs) (i : ℕ) (d : Downtime) (run new : List Downtime) → i < length runs → run ≡ get_or runs i run → IsPermutation (d ∷ run) new → IsPermutation (d ∷ together runs) (together (set runs i new))
put_in [] i d run new h e p = absurd (omega arith)
put_in (r ∷ runs) zero d run new h e p =
    IsPermutation-append_left (together runs) (d ∷ r) new (subst (λ (l : List Downtime). IsPermutation (d ∷ l) new) e p)
put_in (r ∷ runs) (suc i) d run new h e p =
    IsPermutation-trans _ _ _ (IsPermutation-sym _ _ (IsPermutation-middle r d (together runs))) (IsPermutation-append_right r _ _ (put_in runs i d run new (omega arith) e p))

pub put_behind : (runs : Runs) (d : Downtime) (none run : List Downtime) → none ≡ [] → IsPermutation (d ∷ none) run → IsPermutation (d ∷ together runs) (together (runs ++ run ∷ []))
put_behind runs d none run e p =
    let one : IsPermutation (d ∷ []) run = subst (λ (l : List Downtime). IsPermutation (d ∷ l) run) e p in
    let last = IsPermutation-trans _ _ _ (IsPermutation-sym _ _ (IsPermutation-to_front (together runs) d)) (IsPermutation-append_right (together runs) (d ∷ []) run one) in
    subst (λ (l : List Downtime). IsPermutation (d ∷ together runs) l) (sym (together-push runs run)) last

-- ---- what is asked of each run
pub filter_together : (p : Downtime → Bool) (runs : Runs) → flat_map (λ run. filter p run) runs ≡ filter p (together runs)
filter_together p [] = refl
filter_together p (run ∷ runs) = ap (λ (l : List Downtime). filter p run ++ l) (filter_together p runs) ∙ sym (filter-append p run (together runs))

any_either : (p : Downtime → Bool) (xs ys : List Downtime) → list_any p (xs ++ ys) ≡ (list_any p xs || list_any p ys)
any_either p [] ys = refl
any_either p (x ∷ xs) ys = ap (λ b. p x || b) (any_either p xs ys) ∙ sym (grouped (p x) (list_any p xs) (list_any p ys))
  where
    grouped : (a b c : Bool) → ((a || b) || c) ≡ (a || (b || c))
    grouped true b c = refl
    grouped false b c = refl

pub any_together : (p q : Downtime → Bool) (runs : Runs) → list_any (λ run. list_any p (filter q run)) runs ≡ list_any p (filter q (together runs))
any_together p q [] = refl
any_together p q (run ∷ runs) =
    ap (λ b. list_any p (filter q run) || b) (any_together p q runs) ∙ sym (any_either p (filter q run) (filter q (together runs))) ∙ ap (list_any p) (sym (filter-append q run (together runs)))
