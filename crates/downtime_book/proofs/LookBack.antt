-- What one more call does to the look back.
use Rattle.std.proofs.Common.{◌≡◌, ℕ, ◌≤◌, max, Bool, true, false, not, ◌&&◌, ◌||◌, ◌==◌, nat_lt, nat_le, cond, Option, Some, None, List, [], ◌∷◌, ◌++◌, map, filter, refl, sym, ap, ◌∙◌, arith}
use Rattle.std.proofs.lemmas.Bool.Decides.{nat_tests}
use Rattle.downtime_book.specs.declared.downtime.Downtime.{Downtime}
use Rattle.downtime_book.specs.declared.kind.Kind.{Kind}
use Rattle.downtime_book.specs.declared.kind.Kind.TheVariants.{Fixed, Flexible}
use Rattle.downtime_book.specs.Downtime.{after_result, kind_is_waiting, triggered_at}
use Rattle.downtime_book.specs.Calls.{Call, added, resulted, cancelled, first_problem, is_cancelled, downtime_of, downtimes, latest}

abbrev made : ℕ → ℕ → ℕ → Kind → Downtime
made n s e k = record { number = n; start = s; «end» = e; kind = k }

entry-same : (a b : Bool) (xs ys : List Downtime) (x y : Downtime) → a ≡ b → xs ≡ ys → x ≡ y → cond a xs (x ∷ xs) ≡ cond b ys (y ∷ ys)
entry-same a b xs ys x y e f g = cc

-- ---- a downtime more
module _ (n s e : ℕ) (f : Bool) (d : ℕ) where
  first_problem-added : (start finish : ℕ) (h : List Call) → first_problem start finish (h ++ added n s e f d ∷ []) ≡ first_problem start finish h
  first_problem-added start finish [] = refl
  first_problem-added start finish (added _ _ _ _ _ ∷ h) = first_problem-added start finish h
  first_problem-added start finish (resulted t p ∷ h) =
      ap (λ o. cond (p && nat_le start t && nat_lt t finish) (Some t) o) (first_problem-added start finish h)
  first_problem-added start finish (cancelled _ _ ∷ h) = first_problem-added start finish h

  is_cancelled-added : (k : ℕ) (h : List Call) → is_cancelled k (h ++ added n s e f d ∷ []) ≡ is_cancelled k h
  is_cancelled-added k [] = refl
  is_cancelled-added k (added _ _ _ _ _ ∷ h) = is_cancelled-added k h
  is_cancelled-added k (resulted _ _ ∷ h) = is_cancelled-added k h
  is_cancelled-added k (cancelled i _ ∷ h) = ap (λ b. (i == k) || b) (is_cancelled-added k h)

  downtime_of-added : (n' s' e' : ℕ) (f' : Bool) (d' : ℕ) (h : List Call) → downtime_of n' s' e' f' d' (h ++ added n s e f d ∷ []) ≡ downtime_of n' s' e' f' d' h
  downtime_of-added n' s' e' f' d' h = ap (λ o. made n' s' e' (cond f' Fixed (Flexible d' o))) (first_problem-added s' e' h)

  pub downtimes-added : (h : List Call) → downtimes (h ++ added n s e f d ∷ []) ≡ downtimes h ++ downtime_of n s e f d [] ∷ []
  downtimes-added [] = refl
  downtimes-added (added n' s' e' f' d' ∷ h) =
      let more = downtime_of n s e f d [] ∷ [] in
      let parted : (b : Bool) → cond b (downtimes h ++ more) (downtime_of n' s' e' f' d' h ∷ (downtimes h ++ more)) ≡ cond b (downtimes h) (downtime_of n' s' e' f' d' h ∷ downtimes h) ++ more =
      λ b. elim b as (λ b. cond b (downtimes h ++ more) (downtime_of n' s' e' f' d' h ∷ (downtimes h ++ more)) ≡ cond b (downtimes h) (downtime_of n' s' e' f' d' h ∷ downtimes h) ++ more) [ true ↦ refl | false ↦ refl ] in
      entry-same _ _ _ _ _ _ (is_cancelled-added n' h) (downtimes-added h) (downtime_of-added n' s' e' f' d' h) ∙ parted (is_cancelled n' h)
  downtimes-added (resulted _ _ ∷ h) = downtimes-added h
  downtimes-added (cancelled _ _ ∷ h) = downtimes-added h

  pub latest-added : (h : List Call) → latest (h ++ added n s e f d ∷ []) ≡ latest h
  latest-added [] = refl
  latest-added (added _ _ _ _ _ ∷ h) = latest-added h
  latest-added (resulted t _ ∷ h) = ap (max t) (latest-added h)
  latest-added (cancelled _ t ∷ h) = ap (max t) (latest-added h)

-- ---- a result more
-- the trigger once a result came whose tests are a and b
abbrev trigger_after : ℕ → Bool → Option ℕ → Option ℕ
trigger_after m b None = cond b (Some m) None
trigger_after m b (Some t) = Some t

after_fixed : (n s e m : ℕ) (p : Bool) → after_result m p (made n s e Fixed) ≡ made n s e Fixed
after_fixed n s e m true = refl
after_fixed n s e m false = refl

after_flexible : (n s e d m : ℕ) (p a b : Bool) (o : Option ℕ) → made n s e (Flexible d (trigger_after m (p && a && b) o)) ≡ cond (p && (kind_is_waiting (Flexible d o) && a && b)) (made n s e (triggered_at m (Flexible d o))) (made n s e (Flexible d o))
after_flexible n s e d m true true true None = refl
after_flexible n s e d m true true false None = refl
after_flexible n s e d m true false b None = refl
after_flexible n s e d m false a b None = refl
after_flexible n s e d m true a b (Some t) = refl
after_flexible n s e d m false a b (Some t) = refl

module _ (m : ℕ) (p : Bool) where
  first_problem-resulted : (start finish : ℕ) (h : List Call) → first_problem start finish (h ++ resulted m p ∷ []) ≡ trigger_after m (p && nat_le start m && nat_lt m finish) (first_problem start finish h)
  first_problem-resulted start finish [] = refl
  first_problem-resulted start finish (added _ _ _ _ _ ∷ h) = first_problem-resulted start finish h
  first_problem-resulted start finish (resulted t q ∷ h) =
      let b = p && nat_le start m && nat_lt m finish in
      let parted : (a : Bool) → cond a (Some t) (trigger_after m b (first_problem start finish h)) ≡ trigger_after m b (cond a (Some t) (first_problem start finish h)) =
      λ a. elim a as (λ a. cond a (Some t) (trigger_after m b (first_problem start finish h)) ≡ trigger_after m b (cond a (Some t) (first_problem start finish h))) [ true ↦ refl | false ↦ refl ] in
      rw (first_problem-resulted start finish h) (parted (q && nat_le start t && nat_lt t finish))
  first_problem-resulted start finish (cancelled _ _ ∷ h) = first_problem-resulted start finish h

  is_cancelled-resulted : (k : ℕ) (h : List Call) → is_cancelled k (h ++ resulted m p ∷ []) ≡ is_cancelled k h
  is_cancelled-resulted k [] = refl
  is_cancelled-resulted k (added _ _ _ _ _ ∷ h) = is_cancelled-resulted k h
  is_cancelled-resulted k (resulted _ _ ∷ h) = is_cancelled-resulted k h
  is_cancelled-resulted k (cancelled i _ ∷ h) = ap (λ b. (i == k) || b) (is_cancelled-resulted k h)

  -- the calls before h settle whether what came before them is triggered
  downtime_of-resulted : (n s e : ℕ) (f : Bool) (d : ℕ) (h : List Call) → downtime_of n s e f d (h ++ resulted m p ∷ []) ≡ after_result m p (downtime_of n s e f d h)
  downtime_of-resulted n s e true d h = sym (after_fixed n s e m p)
  downtime_of-resulted n s e false d h =
      ap (λ o. made n s e (Flexible d o)) (first_problem-resulted s e h) ∙ after_flexible n s e d m p (nat_le s m) (nat_lt m e) (first_problem s e h)

  pub downtimes-resulted : (h : List Call) → downtimes (h ++ resulted m p ∷ []) ≡ map (after_result m p) (downtimes h)
  downtimes-resulted [] = refl
  downtimes-resulted (added n s e f d ∷ h) =
      let f' = after_result m p in
      let x = downtime_of n s e f d h in
      let parted : (b : Bool) → cond b (map f' (downtimes h)) (f' x ∷ map f' (downtimes h)) ≡ map f' (cond b (downtimes h) (x ∷ downtimes h)) =
      λ b. elim b as (λ b. cond b (map f' (downtimes h)) (f' x ∷ map f' (downtimes h)) ≡ map f' (cond b (downtimes h) (x ∷ downtimes h))) [ true ↦ refl | false ↦ refl ] in
      entry-same _ _ _ _ _ _ (is_cancelled-resulted n h) (downtimes-resulted h) (downtime_of-resulted n s e f d h) ∙ parted (is_cancelled n h)
  downtimes-resulted (resulted _ _ ∷ h) = downtimes-resulted h
  downtimes-resulted (cancelled _ _ ∷ h) = downtimes-resulted h

  pub latest-resulted : (h : List Call) → latest h ≤ m → latest (h ++ resulted m p ∷ []) ≡ m
  latest-resulted [] l = omega arith
  latest-resulted (added _ _ _ _ _ ∷ h) l = latest-resulted h l
  latest-resulted (resulted t _ ∷ h) l = let e = latest-resulted h (omega arith) in omega (arith, e)
  latest-resulted (cancelled _ t ∷ h) l = let e = latest-resulted h (omega arith) in omega (arith, e)

-- ---- a cancel more
eqb-sym : (a b : ℕ) → (a == b) ≡ (b == a)
eqb-sym a b = grind (arith, nat_tests)

or_turn : (a b c : Bool) → (a || (b || c)) ≡ (b || (a || c))
or_turn true true c = refl
or_turn true false c = refl
or_turn false b c = refl

module _ (n m : ℕ) where
  first_problem-cancelled : (start finish : ℕ) (h : List Call) → first_problem start finish (h ++ cancelled n m ∷ []) ≡ first_problem start finish h
  first_problem-cancelled start finish [] = refl
  first_problem-cancelled start finish (added _ _ _ _ _ ∷ h) = first_problem-cancelled start finish h
  first_problem-cancelled start finish (resulted t p ∷ h) =
      ap (λ o. cond (p && nat_le start t && nat_lt t finish) (Some t) o) (first_problem-cancelled start finish h)
  first_problem-cancelled start finish (cancelled _ _ ∷ h) = first_problem-cancelled start finish h

  pub latest-cancelled : (h : List Call) → latest h ≤ m → latest (h ++ cancelled n m ∷ []) ≡ m
  latest-cancelled [] l = omega arith
  latest-cancelled (added _ _ _ _ _ ∷ h) l = latest-cancelled h l
  latest-cancelled (resulted t _ ∷ h) l = let e = latest-cancelled h (omega arith) in omega (arith, e)
  latest-cancelled (cancelled _ t ∷ h) l = let e = latest-cancelled h (omega arith) in omega (arith, e)

  is_cancelled-cancelled : (k : ℕ) (h : List Call) → is_cancelled k (h ++ cancelled n m ∷ []) ≡ (k == n) || is_cancelled k h
  is_cancelled-cancelled k [] = ap (λ b. b || false) (eqb-sym n k)
  is_cancelled-cancelled k (added _ _ _ _ _ ∷ h) = is_cancelled-cancelled k h
  is_cancelled-cancelled k (resulted _ _ ∷ h) = is_cancelled-cancelled k h
  is_cancelled-cancelled k (cancelled i _ ∷ h) = ap (λ b. (i == k) || b) (is_cancelled-cancelled k h) ∙ or_turn (i == k) (k == n) (is_cancelled k h)

  downtime_of-cancelled : (n' s' e' : ℕ) (f' : Bool) (d' : ℕ) (h : List Call) → downtime_of n' s' e' f' d' (h ++ cancelled n m ∷ []) ≡ downtime_of n' s' e' f' d' h
  downtime_of-cancelled n' s' e' f' d' h = ap (λ o. made n' s' e' (cond f' Fixed (Flexible d' o))) (first_problem-cancelled s' e' h)

  pub downtimes-cancelled : (h : List Call) → downtimes (h ++ cancelled n m ∷ []) ≡ filter (λ d. not (d.number == n)) (downtimes h)
  downtimes-cancelled [] = refl
  downtimes-cancelled (added n' s' e' f' d' ∷ h) =
      let q : Downtime → Bool = λ d. not (d.number == n) in
      let x = downtime_of n' s' e' f' d' h in
      let r = filter q (downtimes h) in
      let parted : (a b : Bool) → cond (a || b) r (x ∷ r) ≡ cond b r (cond (not a) (x ∷ r) r) =
      λ a b. elim a as (λ a. cond (a || b) r (x ∷ r) ≡ cond b r (cond (not a) (x ∷ r) r))
      [ true ↦ elim b as (λ b. r ≡ cond b r r) [ true ↦ refl | false ↦ refl ] | false ↦ refl ] in
      let out : (b : Bool) → cond b r (cond (not (n' == n)) (x ∷ r) r) ≡ filter q (cond b (downtimes h) (x ∷ downtimes h)) =
      λ b. elim b as (λ b. cond b r (cond (not (n' == n)) (x ∷ r) r) ≡ filter q (cond b (downtimes h) (x ∷ downtimes h))) [ true ↦ refl | false ↦ refl ] in
      entry-same _ _ _ _ _ _ (is_cancelled-cancelled n' h) (downtimes-cancelled h) (downtime_of-cancelled n' s' e' f' d' h) ∙ parted (n' == n) (is_cancelled n' h) ∙ out (is_cancelled n' h)
  downtimes-cancelled (resulted _ _ ∷ h) = downtimes-cancelled h
  downtimes-cancelled (cancelled _ _ ∷ h) = downtimes-cancelled h
