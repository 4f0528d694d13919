-- Values that are kept.
use Rattle.std.proofs.Common.{◌≡◌, ℕ, suc, ◌+◌, ◌<◌, Bool, true, false, cond, ◌&&◌, List, [], ◌∷◌, ◌++◌, length, drop, get_or, refl, sym, ap, ◌∙◌, arith, append-nil, append_assoc, drop-cons}
use Rattle.std.specs.List.{filter}
use Rattle.dsl_value.specs.Contents.{PlainCell}
use Rattle.dsl_value.specs.declared.value.Value.{Value}
use Rattle.dsl_ops.specs.Seen.{IsSeen, found_in}
use Rattle.dsl_ops.specs.declared.seen.Seen.{Seen}
use Rattle.dsl_lib.specs.Arrays.{has_equal}
use Rattle.dsl_lib.specs.Sets.{is_common}

-- those that are found are those that equal one
pub kept_seen : (count functions : ℕ) (content : List PlainCell) (others : List Value) (s : Seen) → IsSeen count functions content others s → (vs : List Value) → filter (found_in content s) vs ≡ filter (has_equal content others) vs
kept_seen count functions content others s h [] = refl
kept_seen count functions content others s h (v ∷ vs) = λ i. cond (h.found v i) (v ∷ kept_seen count functions content others s h vs i) (kept_seen count functions content others s h vs i)

-- one after another
kept_next : (test : Value → Bool) (kept : List Value) (v : Value) (vs : List Value) → kept ++ filter test (v ∷ vs) ≡ (kept ++ filter test (v ∷ [])) ++ filter test vs
kept_next test kept v vs = elim (test v) as (λ b. kept ++ cond b (v ∷ filter test vs) (filter test vs) ≡ (kept ++ cond b (v ∷ []) []) ++ filter test vs) [
  | true ↦ sym (append_assoc kept (v ∷ []) (filter test vs))
  | false ↦ ap (λ ws. ws ++ filter test vs) (sym (append-nil kept))
]

pub kept_step : (test : Value → Bool) (values : List Value) (i : ℕ) (v : Value) (kept all : List Value) → i < length values → v ≡ get_or values i v → kept ++ filter test (drop i values) ≡ all
    → (kept ++ filter test (v ∷ [])) ++ filter test (drop (i + 1) values) ≡ all
kept_step test values i v kept all h e inv =
    let more : suc i ≡ i + 1 = omega arith in
    sym (kept_next test kept v (drop (i + 1) values))
    ∙ ap (λ vs. kept ++ filter test vs) (ap (λ n. v ∷ drop n values) (sym more) ∙ ap (λ x. x ∷ drop (suc i) values) e ∙ sym (drop-cons values i v h))
    ∙ inv

-- no array takes any away
pub kept_by_none : (cells : List PlainCell) (vs : List Value) → filter (is_common cells []) vs ≡ vs
kept_by_none cells [] = refl
kept_by_none cells (v ∷ vs) = ap (λ ws. v ∷ ws) (kept_by_none cells vs)

and_true : (a : Bool) → (a && true) ≡ a
and_true true = refl
and_true false = refl

and_assoc : (a b d : Bool) → (a && (b && d)) ≡ ((a && b) && d)
and_assoc true b d = refl
and_assoc false b d = refl

common_more : (cells : List PlainCell) (made : List (List Value)) (xs : List Value) (v : Value) → is_common cells (made ++ xs ∷ []) v ≡ (is_common cells made v && has_equal cells xs v)
common_more cells [] xs v = and_true (has_equal cells xs v)
common_more cells (ys ∷ made) xs v = ap (λ b. has_equal cells ys v && b) (common_more cells made xs v) ∙ and_assoc (has_equal cells ys v) (is_common cells made v) (has_equal cells xs v)

by_both : (b : Bool) (test : Value → Bool) (v : Value) (kept all : List Value) → kept ≡ filter test all → cond (b && test v) (v ∷ kept) kept ≡ filter test (cond b (v ∷ all) all)
by_both true test v kept all e = λ i. cond (test v) (v ∷ e i) (e i)
by_both false test v kept all e = e

-- one more array
pub kept_more : (cells : List PlainCell) (made : List (List Value)) (xs vs : List Value) → filter (is_common cells (made ++ xs ∷ [])) vs ≡ filter (has_equal cells xs) (filter (is_common cells made) vs)
kept_more cells made xs [] = refl
kept_more cells made xs (v ∷ vs) =
    let behind = kept_more cells made xs vs in
    ap (λ b. cond b (v ∷ filter (is_common cells (made ++ xs ∷ [])) vs) (filter (is_common cells (made ++ xs ∷ [])) vs)) (common_more cells made xs v)
    ∙ by_both (is_common cells made v) (has_equal cells xs) v (filter (is_common cells (made ++ xs ∷ [])) vs) (filter (is_common cells made) vs) behind
