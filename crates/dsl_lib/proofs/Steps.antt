-- Numbers by steps.
use Rattle.std.proofs.Common.{◌≡◌, ◌⊎◌, inl, inr, ℕ, ℤ, pos, negsuc, suc, ◌+◌, ◌-◌, ◌*◌, ◌/◌, ◌%◌, ◌<◌, ◌≤◌, ◌+ℤ◌, ◌-ℤ◌, ◌<ℤ◌, ◌≤ℤ◌, List, [], ◌∷◌, ◌++◌, ◌^◌, Bool, true, false, cond, ltb, Option, Some, None, refl, sym, ap, ◌∙◌, arith, append_assoc, append-nil}
use Rattle.std.proofs.lemmas.Int.{ints}
use Rattle.std.proofs.lemmas.Nat.{div-mul-add, div-add-mod'}
use Rattle.std.proofs.lemmas.Bool.{cases_lt}
use borrow.Author.Tests.{ltb-false}
use Rattle.std.proofs.Math.Nat.{div-eq_of_lt}
use Rattle.dsl_value.specs.declared.value.Value.{Value}
use Rattle.dsl_value.specs.declared.value.Value.TheVariants as value
use Rattle.site_base.specs.Numbers.{ranged, sum_of, in_range}
use Rattle.dsl_lib.specs.Sets.{numbers_from, steps_below}

-- a step more of the quotient
quotient_more : (n s : ℕ) → 0 < s → (n + s) / s ≡ suc (n / s)
quotient_more n s h =
    let e : n + s ≡ suc (n / s) * s + n % s = omega (arith, div-add-mod' n s) in
    let r : n % s < s = omega arith in
    ap (λ k. k / s) e ∙ div-mul-add (suc (n / s)) s (n % s) r

by_steps : (d s : ℕ) → 0 < d → 0 < s → (d < s) ⊎ (s ≤ d) → (d + (s - 1)) / s ≡ suc (steps_below (pos d -ℤ pos s) (pos s))
by_steps d s hd hs (inl h) =
    let e : pos d -ℤ pos s ≡ negsuc (s - d - 1) = omega (arith, ints) in
    let sum : d + (s - 1) ≡ (d - 1) + s = omega arith in
    let few : d - 1 < s = omega arith in
    ap (λ n. n / s) sum ∙ quotient_more (d - 1) s hs ∙ ap suc (div-eq_of_lt few) ∙ sym (ap (λ z. suc (steps_below z (pos s))) e)
by_steps d s hd hs (inr h) =
    let e : pos d -ℤ pos s ≡ pos (d - s) = omega (arith, ints) in
    let sum : d + (s - 1) ≡ ((d - s) + (s - 1)) + s = omega arith in
    ap (λ n. n / s) sum ∙ quotient_more ((d - s) + (s - 1)) s hs ∙ sym (ap (λ z. suc (steps_below z (pos s))) e)

-- the first step of a distance
steps_more : (d s : ℤ) → pos 0 <ℤ d → pos 0 <ℤ s → steps_below d s ≡ suc (steps_below (d -ℤ s) s)
steps_more (pos d) (pos s) hd hs = by_steps d s (omega (arith, ints, hd)) (omega (arith, ints, hs)) (cases_lt d s)
steps_more (negsuc d) s hd hs = absurd (omega (arith, ints, hd))
steps_more (pos d) (negsuc s) hd hs = absurd (omega (arith, ints, hs))

-- no distance
steps_none : (d s : ℤ) → d ≤ℤ pos 0 → pos 0 <ℤ s → steps_below d s ≡ 0
steps_none (negsuc d) s hd hs = refl
steps_none (pos d) (negsuc s) hd hs = refl
steps_none (pos d) (pos s) hd hs =
    let few : d + (s - 1) < s = omega (arith, ints, hd, hs) in
    div-eq_of_lt few

-- what is left once there is no distance
pub numbers_end : (next end step : ℤ) (made all : List Value) → end ≤ℤ next → pos 0 <ℤ step → made ++ numbers_from (steps_below (end -ℤ next) step) next step ≡ all → made ≡ all
numbers_end next end step made all he hs inv =
    let none : (end -ℤ next) ≤ℤ pos 0 = omega (arith, ints) in
    sym (append-nil made) ∙ sym (ap (λ n. made ++ numbers_from n next step) (steps_none (end -ℤ next) step none hs)) ∙ inv

-- one number more
pub numbers_more : (next end step sum : ℤ) (made new all : List Value) → next <ℤ end → pos 0 <ℤ step → sum ≡ next +ℤ step → new ≡ made ++ value.Number next ∷ [] → made ++ numbers_from (steps_below (end -ℤ next) step) next step ≡ all
    → new ++ numbers_from (steps_below (end -ℤ sum) step) sum step ≡ all
numbers_more next end step sum made new all he hs es en inv =
    let some : pos 0 <ℤ (end -ℤ next) = omega (arith, ints) in
    let left : end -ℤ sum ≡ (end -ℤ next) -ℤ step = omega (arith, ints) in
    ap (λ l. l ++ numbers_from (steps_below (end -ℤ sum) step) sum step) en ∙ append_assoc made (value.Number next ∷ []) (numbers_from (steps_below (end -ℤ sum) step) sum step)
    ∙ ap (λ z. made ++ value.Number next ∷ numbers_from (steps_below z step) sum step) left
    ∙ ap (λ z. made ++ value.Number next ∷ numbers_from (steps_below ((end -ℤ next) -ℤ step) step) z step) es
    ∙ sym (ap (λ n. made ++ numbers_from n next step) (steps_more (end -ℤ next) step some hs))
    ∙ inv

-- a sum is out of range above every number
abbrev value_or : {A : Type 0} → A → Option A → A
value_or d None = d
value_or d (Some a) = a

none_is : {A : Type 0} (b : Bool) (x : A) → cond b (Some x) None ≡ None → b ≡ false
none_is true x e = cc
none_is false x e = refl

past_end : (z next end step : ℤ) → z ≡ next +ℤ step → ranged z ≡ None → pos 0 <ℤ step → negsuc (2 ^ 63 - 1) ≤ℤ next → end ≤ℤ pos (2 ^ 63 - 1) → end ≤ℤ z
past_end (pos n) next end step e none hs low high =
    let above : 2 ^ 63 ≤ n = ltb-false n (2 ^ 63) (none_is (ltb n (2 ^ 63)) (pos n) none) in
    omega (arith, ints)
past_end (negsuc n) next end step e none hs low high =
    let below : 2 ^ 63 ≤ n = ltb-false n (2 ^ 63) (none_is (ltb n (2 ^ 63)) (negsuc n) none) in
    absurd (omega (arith, ints, hs, low, e))

-- the last number, where the next one is out of range
pub numbers_last : (next end step : ℤ) (made new all : List Value) → next <ℤ end → pos 0 <ℤ step → sum_of next step ≡ None → negsuc (2 ^ 63 - 1) ≤ℤ next → end ≤ℤ pos (2 ^ 63 - 1) → new ≡ made ++ value.Number next ∷ []
    → made ++ numbers_from (steps_below (end -ℤ next) step) next step ≡ all → new ≡ all
numbers_last next end step made new all he hs none low high en inv =
    numbers_end (next +ℤ step) end step new all (past_end (next +ℤ step) next end step refl none hs low high) hs (numbers_more next end step (next +ℤ step) made new all he hs refl en inv)

some_is : {A : Type 0} (b : Bool) (x y : A) → cond b (Some x) None ≡ Some y → y ≡ x
some_is true x y e = sym (ap (value_or x) e)
some_is false x y e = cc

pub sum_is : (a b z : ℤ) → sum_of a b ≡ Some z → z ≡ a +ℤ b
sum_is a b z e = some_is (in_range (a +ℤ b)) (a +ℤ b) z e

-- a step more leaves less
pub numbers_fewer : (next end step sum : ℤ) → next <ℤ end → pos 0 <ℤ step → sum ≡ next +ℤ step → steps_below (end -ℤ sum) step < steps_below (end -ℤ next) step
numbers_fewer next end step sum he hs es =
    let some : pos 0 <ℤ (end -ℤ next) = omega (arith, ints) in
    let left : end -ℤ sum ≡ (end -ℤ next) -ℤ step = omega (arith, ints) in
    let more : steps_below (end -ℤ next) step ≡ suc (steps_below ((end -ℤ next) -ℤ step) step) = steps_more (end -ℤ next) step some hs in
    let same : steps_below (end -ℤ sum) step ≡ steps_below ((end -ℤ next) -ℤ step) step = ap (λ z. steps_below z step) left in
    omega (arith, more, same)
