-- The slot of a cell, and the slots after a change of one member.
use Rattle.std.proofs.Common.{◌≡◌, ◌≢◌, ℕ, ◌+◌, ◌-◌, ◌%◌, ◌<◌, ◌≤◌, Option, Some, None, length, set, refl, sym, ap, ◌∙◌, inl, inr, arith, get_or-set_other, get_or-set_same}
use Rattle.std.proofs.lemmas.Bool.{cases_lt}
use Rattle.std.proofs.lemmas.Bool.Decides.{nat_tests}
use Rattle.std.proofs.lemmas.Option.{none-some, same_Some}
use Rattle.std.specs.Option.{option_map}
use Rattle.wheel_links.specs.Members.{Members, moment_of}
use Rattle.wheel_links.proofs.Members.{member_within}
use Rattle.wheel_links.specs.Rings.{slot_of}

option_map_some : (f : ℕ → ℕ) (o : Option ℕ) (s : ℕ) → option_map f o ≡ Some s → (m : ℕ) × (o ≡ Some m) × (f m ≡ s)
option_map_some f None s e = absurd (none-some s e)
option_map_some f (Some m) s e = (m, refl, same_Some (f m) s e)

-- a head is in its own ring
pub slot-head : (n : ℕ) (ms : Members) (c : ℕ) → c < n → slot_of n ms c ≡ Some c
unfolding slot_of
slot-head n ms c low = grind (arith, nat_tests)

slot-high : (n : ℕ) (ms : Members) (c : ℕ) → n ≤ c → slot_of n ms c ≡ option_map (λ m. m % n) (moment_of ms (c - n))
unfolding slot_of
slot-high n ms c high = grind (arith, nat_tests)

-- an id's cell is in the ring of its moment's slot
pub slot-id : (n : ℕ) (ms : Members) (id : ℕ) → slot_of n ms (n + id) ≡ option_map (λ m. m % n) (moment_of ms id)
slot-id n ms id =
    let e : n + id - n ≡ id = omega arith in
    slot-high n ms (n + id) (omega arith) ∙ ap (λ k. option_map (λ m. m % n) (moment_of ms k)) e

pub slot-member : (n : ℕ) (ms : Members) (id m : ℕ) → moment_of ms id ≡ Some m → slot_of n ms (n + id) ≡ Some (m % n)
slot-member n ms id m e = slot-id n ms id ∙ ap (option_map (λ k. k % n)) e

-- a cell of a ring that is no head is a member's
pub member_of_slot : (n : ℕ) (ms : Members) (c s : ℕ) → slot_of n ms c ≡ Some s → n ≤ c → (m : ℕ) × (moment_of ms (c - n) ≡ Some m) × (m % n ≡ s)
member_of_slot n ms c s here high = option_map_some (λ m. m % n) (moment_of ms (c - n)) s (sym (slot-high n ms c high) ∙ here)

-- a cell of a ring exists
pub slot_within : (n : ℕ) (ms : Members) (c s : ℕ) → slot_of n ms c ≡ Some s → c < n + length ms
slot_within n ms c s here = elim (cases_lt c n) [
  | inl low ↦ omega arith
  | inr high ↦
      let m = member_of_slot n ms c s here high in
      let within : c - n < length ms = member_within ms (c - n) m.0 m.1 in
      omega arith
]

-- a change at one id leaves the slots of the other cells
pub slot-set_other : (n : ℕ) (ms : Members) (id : ℕ) (v : Option ℕ) (c : ℕ) → c ≢ n + id → slot_of n (set ms id v) c ≡ slot_of n ms c
slot-set_other n ms id v c other = elim (cases_lt c n) [
  | inl low ↦ slot-head n (set ms id v) c low ∙ sym (slot-head n ms c low)
  | inr high ↦
      let apart : c - n ≢ id = λ e. omega arith in
      slot-high n (set ms id v) c high ∙ ap (option_map (λ m. m % n)) (get_or-set_other ms id (c - n) v None apart) ∙ sym (slot-high n ms c high)
]

pub slot-set_same : (n : ℕ) (ms : Members) (id : ℕ) (v : Option ℕ) → id < length ms → slot_of n (set ms id v) (n + id) ≡ option_map (λ m. m % n) v
slot-set_same n ms id v within =
    slot-id n (set ms id v) id ∙ ap (option_map (λ m. m % n)) (get_or-set_same ms id v None within)
