-- Orders have numbers behind those that were given, and those that lack a macro are reported in the next turn.
use Rattle.std.proofs.Common.{◌≡◌, ◌<◌, ◌≤◌, ◌+◌, ℕ, zero, suc, List, [], ◌∷◌, ◌++◌, length, map, nat_eq, cond, Bool, true, false, Some, refl, sym, ap, ◌∙◌, subst, arith}
use Rattle.std.specs.List.{AllByRecursion}
use Rattle.run_meaning.specs.Dealing.{checkable_of, report_refusals, refusing, without}
use Rattle.run_meaning.specs.Runs.{due_of, due_with}
use Rattle.run_meaning.specs.Turns.{Command, Ordered, Outstanding, Reported, from_on, missing, words}
use Rattle.run_meaning.proofs.Lookback.{given}
use Rattle.audit_laws.specs.Rereported.{orders_of}
use Rattle.audit_laws.specs.ToldTurns.{AreRising}
use Rattle.audit_laws.proofs.EventFacts.{all_imply}
use Rattle.audit_laws.proofs.Giving.{number_of}
use Rattle.audit_laws.proofs.Ordering.{eq_is, is_eq}
use Rattle.audit_laws.proofs.Rereporting.{stays}

abbrev pub IsThere : List Outstanding → ℕ → Type 0
IsThere os n = (c : ℕ) × (checkable_of n os ≡ Some c)

there_more : (o : Outstanding) (os : List Outstanding) (n : ℕ) → IsThere os n → IsThere (o ∷ os) n
there_more o os n h = by (nat_eq o.order n)
  where
    by : (t : Bool) → (c : ℕ) × (cond t (Some o.checkable) (checkable_of n os) ≡ Some c)
    by true = (o.checkable, refl)
    by false = h

there_behind : (os ps : List Outstanding) (n : ℕ) → IsThere ps n → IsThere (os ++ ps) n
there_behind [] ps n h = h
there_behind (o ∷ os) ps n h = there_more o (os ++ ps) n (there_behind os ps n h)

orders_there : (os : List Ordered) → AllByRecursion (λ o. IsThere (map given os) o.number) os
orders_there [] = tt
orders_there (o ∷ os) = (
  (o.checkable, ap (λ t. cond t (Some o.checkable) (checkable_of o.number (map given os))) (is_eq o.number o.number refl)),
  all_imply (λ p. IsThere (map given os) p.number) (λ p. IsThere (map given (o ∷ os)) p.number) (λ p h. there_more (given o) (map given os) p.number h) os (orders_there os),
)

pub due_all : (P : ℕ → Type 0) (os : List Ordered) → AllByRecursion (λ o. P o.number) os → AllByRecursion (λ r. P r.order) (due_of os)
due_all P [] h = tt
due_all P (o ∷ os) h = by o.command (due_all P os h.1)
  where
    by : (command : Command) → AllByRecursion (λ r. P r.order) (due_of os) → AllByRecursion (λ r. P r.order) (due_with o.number command (due_of os))
    by (words ws) rest = rest
    by (missing name) rest = (h.0, rest)

pub due_there : (os : List Outstanding) (orders : List Ordered) → AllByRecursion (λ r. IsThere (os ++ map given orders) r.order) (due_of orders)
due_there os orders =
    due_all (IsThere (os ++ map given orders)) orders
    (all_imply (λ o. IsThere (map given orders) o.number) (λ o. IsThere (os ++ map given orders) o.number) (λ o h. there_behind os (map given orders) o.number h) orders (orders_there orders))

mapped : {A : Type 0} (f : A → ℕ) (P : ℕ → Type 0) (xs : List A) → AllByRecursion (λ x. P (f x)) xs → AllByRecursion P (map f xs)
mapped f P [] h = tt
mapped f P (x ∷ xs) h = (h.0, mapped f P xs h.1)

unmapped : {A : Type 0} (f : A → ℕ) (P : ℕ → Type 0) (xs : List A) → AllByRecursion P (map f xs) → AllByRecursion (λ x. P (f x)) xs
unmapped f P [] h = tt
unmapped f P (x ∷ xs) h = (h.0, unmapped f P xs h.1)

abbrev order_in : Reported → ℕ
order_in r = r.order

due_rises : (os : List Ordered) → AreRising (map number_of os) → AreRising (orders_of (due_of os))
due_rises [] h = tt
due_rises (o ∷ os) h = by o.command (due_rises os h.1)
  where
    by : (command : Command) → AreRising (orders_of (due_of os)) → AreRising (orders_of (due_with o.number command (due_of os)))
    by (words ws) rest = rest
    by (missing name) rest = (mapped order_in (λ m. o.number < m) (due_of os) (due_all (λ m. o.number < m) os (unmapped number_of (λ m. o.number < m) os h.0)), rest)

from_above : (k j n : ℕ) → k < j → AllByRecursion (λ m. k < m) (from_on j n)
from_above k j zero lt = tt
from_above k j (suc n) lt = (lt, from_above k (suc j) n (omega (arith, lt)))

from_rises : (k n : ℕ) → AreRising (from_on k n)
from_rises k zero = tt
from_rises k (suc n) = (from_above k (suc k) n (omega arith), from_rises (suc k) n)

pub rising_due : (g : ℕ) (os : List Ordered) → map number_of os ≡ from_on (g + 1) (length os) → AreRising (orders_of (due_of os))
rising_due g os e = due_rises os (subst AreRising (sym e) (from_rises (g + 1) (length os)))

from_below : (k n : ℕ) → AllByRecursion (λ m. m < k + n) (from_on k n)
from_below k zero = tt
from_below k (suc n) = (omega arith, all_imply (λ m. m < suc k + n) (λ m. m < k + suc n) (λ m lt. omega (arith, lt)) (from_on (suc k) n) (from_below (suc k) n))

pub numbers_low : (g : ℕ) (os : List Ordered) → map number_of os ≡ from_on (g + 1) (length os) → AllByRecursion (λ o. o.number ≤ g + length os) os
numbers_low g os e =
    all_imply (λ o. o.number < g + 1 + length os) (λ o. o.number ≤ g + length os) (λ o lt. omega (arith, lt)) os
    (unmapped number_of (λ m. m < g + 1 + length os) os (subst (AllByRecursion (λ m. m < g + 1 + length os)) (sym e) (from_below (g + 1) (length os))))

-- as many as were given are below what all orders are below
pub given_low : (g q : ℕ) (os : List Ordered) → map number_of os ≡ from_on (g + 1) (length os) → g < q → AllByRecursion (λ o. o.number < q) os → g + length os < q
given_low g q os e lt all = last (length os) g lt (subst (AllByRecursion (λ m. m < q)) e (mapped number_of (λ m. m < q) os all))
  where
    last : (n k : ℕ) → k < q → AllByRecursion (λ m. m < q) (from_on (k + 1) n) → k + n < q
    last zero k lt all = omega (arith, lt)
    last (suc n) k lt all = let more = last n (k + 1) all.0 (subst (λ m. AllByRecursion (λ m. m < q) (from_on m n)) (let z : suc (k + 1) ≡ k + 1 + 1 = omega arith in z) all.1) in omega (arith, more)

-- rising orders that are there are all taken
pub none_refused : (os : List Outstanding) (rs : List Reported) → AllByRecursion (λ r. IsThere os r.order) rs → AreRising (orders_of rs) → report_refusals os rs ≡ []
none_refused os [] h rise = refl
none_refused os (r ∷ rs) h rise =
    ap (λ c. refusing r c (report_refusals (without r.order os) rs)) h.0.1
    ∙ none_refused (without r.order os) rs (left rs h.1 (unmapped order_in (λ m. r.order < m) rs rise.0)) rise.1
  where
    above : (n : ℕ) → r.order < n → nat_eq n r.order ≡ false
    above n lt = by (nat_eq n r.order) refl
      where
        by : (t : Bool) → nat_eq n r.order ≡ t → t ≡ false
        by true q = let e = eq_is n r.order q in absurd (omega (arith, e, lt))
        by false q = refl

    left : (qs : List Reported) → AllByRecursion (λ q. IsThere os q.order) qs → AllByRecursion (λ q. r.order < q.order) qs → AllByRecursion (λ q. IsThere (without r.order os) q.order) qs
    left [] g lt = tt
    left (q ∷ qs) g lt = ((g.0.0, stays q.order r.order os (above q.order lt.0) ∙ g.0.1), left qs g.1 lt.1)
