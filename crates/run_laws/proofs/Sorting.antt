-- Those that are due are put into their order, and none is lost.
use Rattle.std.proofs.Common.{◌≡◌, ◌<◌, ℕ, suc, List, [], ◌∷◌, All, AllPairs, IsPermutation, nat_le, not, ◌&&◌, cond, Bool, true, false, refl, arith}
use Rattle.std.specs.Prelude.{⊤}
use Rattle.std.proofs.lemmas.Bool.Decides.{nat_tests}
use Rattle.std.proofs.lemmas.List.Elements.{All-cons, All-nil}
use Rattle.std.proofs.lemmas.List.Kept.{AllPairs-cons}
use Rattle.std.proofs.lemmas.List.Sorted.{IsPermutation-cons, IsPermutation-middle, IsPermutation-refl, IsPermutation-sym, IsPermutation-trans}
use Rattle.run_meaning.specs.Schedule.{Due, Watch, due_from, goes_first, put_due}
use Rattle.run_laws.specs.Due.{due_by_index}

-- None is lost.

put_permutes : (d : Due) (es : List Due) → IsPermutation (d ∷ es) (put_due d es)
put_permutes d [] = IsPermutation-refl (d ∷ [])
put_permutes d (e ∷ es) = by (goes_first d e) (put_permutes d es)
  where
    by : (t : Bool) → IsPermutation (d ∷ es) (put_due d es) → IsPermutation (d ∷ e ∷ es) (cond t (d ∷ e ∷ es) (e ∷ put_due d es))
    by true p = IsPermutation-refl (d ∷ e ∷ es)
    by false p =
        IsPermutation-trans (d ∷ e ∷ es) (e ∷ d ∷ es) (e ∷ put_due d es) (IsPermutation-sym (e ∷ d ∷ es) (d ∷ e ∷ es) (IsPermutation-middle (e ∷ []) d es))
        (IsPermutation-cons e (d ∷ es) (put_due d es) p)

pub due_are : (moment k : ℕ) (ws : List Watch) → IsPermutation (due_by_index moment k ws) (due_from moment k ws)
due_are moment k [] = IsPermutation-refl []
due_are moment k (w ∷ ws) = by (not w.waiting && nat_le w.slot.next moment) (due_are moment (suc k) ws)
  where
    here : Due
    here = record { since = w.slot.next; checkable = k }

    by : (t : Bool) → IsPermutation (due_by_index moment (suc k) ws) (due_from moment (suc k) ws)
        → IsPermutation (cond t (here ∷ due_by_index moment (suc k) ws) (due_by_index moment (suc k) ws)) (cond t (put_due here (due_from moment (suc k) ws)) (due_from moment (suc k) ws))
    by true p =
        IsPermutation-trans (here ∷ due_by_index moment (suc k) ws) (here ∷ due_from moment (suc k) ws) (put_due here (due_from moment (suc k) ws)) (IsPermutation-cons here (due_by_index moment (suc k) ws) (due_from moment (suc k) ws) p)
        (put_permutes here (due_from moment (suc k) ws))
    by false p = p

-- They stand in order.

through : (d e f : Due) → goes_first d e ≡ true → goes_first e f ≡ true → goes_first d f ≡ true
through d e f h k = grind (arith, nat_tests, h, k)

other_first : (d e : Due) → goes_first d e ≡ false → d.checkable < e.checkable → goes_first e d ≡ true
other_first d e h k = grind (arith, nat_tests, h, k)

-- one goes before all of these
abbrev First : Due → List Due → Type 0
First d [] = ⊤
First d (e ∷ es) = (goes_first d e ≡ true) × First d es

abbrev IsRising : List Due → Type 0
IsRising [] = ⊤
IsRising (d ∷ es) = First d es × IsRising es

-- all of these are of higher index
abbrev AreAbove : ℕ → List Due → Type 0
AreAbove k [] = ⊤
AreAbove k (e ∷ es) = (k < e.checkable) × AreAbove k es

first_through : (d e : Due) (es : List Due) → goes_first d e ≡ true → First e es → First d es
first_through d e [] h all = tt
first_through d e (f ∷ fs) h all = (through d e f h all.0, first_through d e fs h all.1)

first_put : (x d : Due) (es : List Due) → goes_first x d ≡ true → First x es → First x (put_due d es)
first_put x d [] h all = (h, tt)
first_put x d (e ∷ es) h all = by (goes_first d e) (first_put x d es h all.1)
  where
    by : (t : Bool) → First x (put_due d es) → First x (cond t (d ∷ e ∷ es) (e ∷ put_due d es))
    by true rest = (h, all)
    by false rest = (all.0, rest)

above_put : (k : ℕ) (d : Due) (es : List Due) → k < d.checkable → AreAbove k es → AreAbove k (put_due d es)
above_put k d [] h all = (h, tt)
above_put k d (e ∷ es) h all = by (goes_first d e) (above_put k d es h all.1)
  where
    by : (t : Bool) → AreAbove k (put_due d es) → AreAbove k (cond t (d ∷ e ∷ es) (e ∷ put_due d es))
    by true rest = (h, all)
    by false rest = (all.0, rest)

rising_put : (d : Due) (es : List Due) → AreAbove d.checkable es → IsRising es → IsRising (put_due d es)
rising_put d [] above up = (tt, tt)
rising_put d (e ∷ es) above up = by (goes_first d e) refl (rising_put d es above.1 up.1)
  where
    by : (t : Bool) → goes_first d e ≡ t → IsRising (put_due d es) → IsRising (cond t (d ∷ e ∷ es) (e ∷ put_due d es))
    by true q rest = ((q, first_through d e es q up.0), up)
    by false q rest = (first_put e d es (other_first d e q above.0) up.0, rest)

above_from : (moment k first : ℕ) (ws : List Watch) → k < first → AreAbove k (due_from moment first ws)
above_from moment k first [] h = tt
above_from moment k first (w ∷ ws) h = by (not w.waiting && nat_le w.slot.next moment) (above_from moment k (suc first) ws (omega (arith, h)))
  where
    by : (t : Bool) → AreAbove k (due_from moment (suc first) ws) → AreAbove k (cond t (put_due (record { since = w.slot.next; checkable = first }) (due_from moment (suc first) ws)) (due_from moment (suc first) ws))
    by true rest = above_put k (record { since = w.slot.next; checkable = first }) (due_from moment (suc first) ws) h rest
    by false rest = rest

rising_from : (moment k : ℕ) (ws : List Watch) → IsRising (due_from moment k ws)
rising_from moment k [] = tt
rising_from moment k (w ∷ ws) = by (not w.waiting && nat_le w.slot.next moment) (rising_from moment (suc k) ws)
  where
    by : (t : Bool) → IsRising (due_from moment (suc k) ws) → IsRising (cond t (put_due (record { since = w.slot.next; checkable = k }) (due_from moment (suc k) ws)) (due_from moment (suc k) ws))
    by true rest = rising_put (record { since = w.slot.next; checkable = k }) (due_from moment (suc k) ws) (above_from moment k (suc k) ws (omega arith)) rest
    by false rest = rest

all_behind : (d : Due) (es : List Due) → First d es → All (λ e. goes_first d e ≡ true) es
all_behind d [] h = All-nil (λ e. goes_first d e ≡ true)
all_behind d (e ∷ es) h = All-cons (λ e. goes_first d e ≡ true) e es h.0 (all_behind d es h.1)

pairs_of : (es : List Due) → IsRising es → AllPairs (λ d e. goes_first d e ≡ true) es
pairs_of [] h = λ i j d lt within. absurd (omega (arith, within))
pairs_of (e ∷ es) h = AllPairs-cons (λ d e. goes_first d e ≡ true) e es (all_behind e es h.0) (pairs_of es h.1)

pub due_rise : (moment k : ℕ) (ws : List Watch) → AllPairs (λ d e. goes_first d e ≡ true) (due_from moment k ws)
due_rise moment k ws = pairs_of (due_from moment k ws) (rising_from moment k ws)
