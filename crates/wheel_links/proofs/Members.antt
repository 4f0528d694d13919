-- The map from ids to moments after a change at one id.
use Rattle.std.proofs.Common.{◌≡◌, ℕ, zero, suc, ◌+◌, ◌<◌, Option, Some, None, IsSome, is_some, cond, length, refl, sym, ap, ◌∙◌, inl, inr, arith}
use Rattle.std.proofs.lemmas.Bool.{cases_lt, false≢true}
use Rattle.std.proofs.lemmas.List.{get_or_past, get_or-replicate, length-replicate}
use Rattle.std.proofs.lemmas.List.Sums.{sum_by-set}
use Rattle.std.proofs.lemmas.Option.{none-some}
use Rattle.wheel_links.specs.Members.{Members, IsMember, empty, insert, member_count, moment_of, remove}

some_of : (o : Option ℕ) → IsSome o → (m : ℕ) × (o ≡ Some m)
some_of None h = absurd (false≢true h)
some_of (Some m) h = (m, refl)

-- a member has a moment
pub member_at : (ms : Members) (id : ℕ) → IsMember ms id → (m : ℕ) × (moment_of ms id ≡ Some m)
member_at ms id h = some_of (moment_of ms id) h

-- a member's id is below the capacity
pub member_within : (ms : Members) (id m : ℕ) → moment_of ms id ≡ Some m → id < length ms
member_within ms id m e = elim (cases_lt id (length ms)) [
  | inl low ↦ low
  | inr high ↦ absurd (none-some m (sym (get_or_past ms id None high) ∙ e))
]

-- one member for each place that holds a moment
pub count-insert : (ms : Members) (id m : ℕ) → id < length ms → moment_of ms id ≡ None → member_count (insert ms id m) ≡ member_count ms + 1
count-insert ms id m within at =
    let h = sum_by-set (λ (x : Option ℕ). cond (is_some x) 1 0) ms id (Some m) None within in
    let held : Option ℕ → ℕ = λ o. cond (is_some o) 1 0 in
    let z : held (moment_of ms id) ≡ 0 = ap held at in
    omega (arith, h, z)

pub count-remove : (ms : Members) (id m : ℕ) → moment_of ms id ≡ Some m → member_count (remove ms id) + 1 ≡ member_count ms
count-remove ms id m at =
    let h = sum_by-set (λ (x : Option ℕ). cond (is_some x) 1 0) ms id None None (member_within ms id m at) in
    let held : Option ℕ → ℕ = λ o. cond (is_some o) 1 0 in
    let z : held (moment_of ms id) ≡ 1 = ap held at in
    omega (arith, h, z)

-- in the empty map
pub length-empty : (capacity : ℕ) → length (empty capacity) ≡ capacity
length-empty capacity = length-replicate capacity None

pub none_at_first : (capacity id m : ℕ) → moment_of (empty capacity) id ≡ Some m → ⊥
none_at_first capacity id m at = none-some m (sym (elim (cases_lt id capacity) [
  | inl low ↦ get_or-replicate capacity id None None low
  | inr high ↦ get_or_past (empty capacity) id None (omega (arith, length-empty capacity))
]) ∙ at)

pub count-empty : (capacity : ℕ) → member_count (empty capacity) ≡ 0
count-empty zero = refl
count-empty (suc capacity) = count-empty capacity
