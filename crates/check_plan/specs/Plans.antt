-- What is kept of the checks of a site.
use Rattle.std.specs.Prelude.{◌≡◌, ◌<◌, ◌≤◌, ℕ, List, [], ◌∷◌, None, false, length, map, replicate, slice_get, Some}
use Rattle.check_slots.specs.Watches.{first_watch}
use Rattle.order_book.specs.Orders.{Orders}
use Rattle.run_meaning.specs.Dealing.{checkable_of}
use Rattle.run_meaning.specs.Schedule.{Watch, is_waiting}
use Rattle.run_meaning.specs.Turns.{Outstanding, Plans, Slot}
use Rattle.site_model.specs.PlainSite.{PlainSite}

-- what clauses see of it: the watch of each checkable, and the orders without a report
pub record Plan : Type 0 where
  pub watches : List Watch
  pub orders : Orders

abbrev pub slots_in : List Watch → List Slot
slots_in ws = map (λ w. w.slot) ws

abbrev pub plans_of : Plan → Plans
plans_of p = record { given = p.orders.given; outstanding = p.orders.outstanding; slots = slots_in p.watches }

-- before the first order, of so many checkables
abbrev pub first_plan : ℕ → Plan
first_plan count = record { watches = replicate count first_watch; orders = record { given = 0; outstanding = [] } }

-- no two orders are of one checkable, or have one number
abbrev pub AreApart : List Outstanding → Type 0
AreApart [] = Unit {0}
AreApart (o ∷ os) = (is_waiting os o.checkable ≡ false) × (checkable_of o.order os ≡ None) × AreApart os

-- none has a number above the last that was given, and each is of one of so many checkables
pub record AreGiven (count given : ℕ) (os : List Outstanding) : Type 0 where
  pub apart : AreApart os
  pub none_later : (n : ℕ) → given < n → checkable_of n os ≡ None
  pub within : (i : ℕ) (o : Outstanding) → slice_get os i ≡ Some o → o.checkable < count

-- each watch tells whether an order of its checkable is outstanding
abbrev pub TellWaiting : List Watch → List Outstanding → Type 0
TellWaiting ws os = (i : ℕ) (w : Watch) → slice_get ws i ≡ Some w → w.waiting ≡ is_waiting os i

-- what holds between turns: there is a watch of each checkable, and no more orders are outstanding than may be
pub record IsPlan (s : PlainSite) (p : Plan) : Type 0 where
  pub whole : length p.watches ≡ length s.checkables
  pub waiting : TellWaiting p.watches p.orders.outstanding
  pub given : AreGiven (length s.checkables) p.orders.given p.orders.outstanding
  pub few : length p.orders.outstanding ≤ s.max_orders
