-- Orders of things of which some must stand before others.
use Rattle.std.specs.Prelude.{◌≡◌, ◌<◌, ℕ, zero, suc, not, Bool, true, false, List, [], filter, slice_get, IsPermutation, Option, Some}
use Rattle.run_meaning.specs.Turns.{from_on}
use Rattle.site_audit.specs.Order.{all_or_none, stands, taken_next}

-- one stands before another
pub record StandsBefore (order : List ℕ) (a b : ℕ) : Type 0 where
  pub first : ℕ
  pub second : ℕ
  pub a_is : slice_get order first ≡ Some a
  pub b_is : slice_get order second ≡ Some b
  pub earlier : first < second

-- so many things, each of them once, and each before those before which it must stand
pub record IsOrder (must : ℕ → ℕ → Type 0) (count : ℕ) (order : List ℕ) : Type 0 where
  pub whole : IsPermutation (from_on 0 count) order
  pub meets : (a b : ℕ) → must a b → StandsBefore order a b

-- a test by which one waits if it stands already, or if one that must stand before it doesn't
pub record IsWaiting (must : ℕ → ℕ → Type 0) (waits : List ℕ → ℕ → Bool) : Type 0 where
  pub left : (done : List ℕ) (k : ℕ) → waits done k ≡ false → stands done k ≡ false
  pub ready : (done : List ℕ) (a k : ℕ) → waits done k ≡ false → must a k → stands done a ≡ true
  pub free : (done : List ℕ) (k : ℕ) → stands done k ≡ false → ((a : ℕ) → must a k → stands done a ≡ true) → waits done k ≡ false

-- one is taken after another, each time the first that doesn't wait
abbrev pub taken_so : (List ℕ → ℕ → Bool) → ℕ → ℕ → List ℕ → List ℕ
taken_so waits zero count done = done
taken_so waits (suc most) count done = taken_next (taken_so waits most count) done (filter (λ k. not (waits done k)) (from_on 0 count))

-- all of them, if each can be taken
abbrev pub all_taken : (List ℕ → ℕ → Bool) → ℕ → Option (List ℕ)
all_taken waits count = all_or_none count (taken_so waits count count [])

-- what must stand before what are these things alone
abbrev pub AreWithin : (ℕ → ℕ → Type 0) → ℕ → Type 0
AreWithin must count = (a b : ℕ) → must a b → b < count

-- what is taken is an order
abbrev pub TakesInOrder : (ℕ → ℕ → Type 0) → (List ℕ → ℕ → Bool) → Type 0
TakesInOrder must waits = (count : ℕ) (told : List ℕ) → AreWithin must count → all_taken waits count ≡ Some told → IsOrder must count told

-- if there is an order, some thing can always be taken, and so all are
abbrev pub TakesAll : (ℕ → ℕ → Type 0) → (List ℕ → ℕ → Bool) → Type 0
TakesAll must waits = (count : ℕ) (order : List ℕ) → IsOrder must count order → (told : List ℕ) × (all_taken waits count ≡ Some told)

-- Things that stand at spots.

-- of two things one has a spot that is earlier than a spot of the other
pub record IsEarlierThing {S : Type 0} (spots : List S) (is_earlier : S → S → Bool) (thing : S → ℕ) (a b : ℕ) : Type 0 where
  pub first : S
  pub second : S
  pub i : ℕ
  pub j : ℕ
  pub first_is : slice_get spots i ≡ Some first
  pub second_is : slice_get spots j ≡ Some second
  pub earlier : is_earlier first second ≡ true
  pub a_is : thing first ≡ a
  pub b_is : thing second ≡ b
