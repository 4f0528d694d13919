-- The walk over the checkables that are due.
use Rattle.std.specs.Prelude.{◌≡◌, ◌<◌, ◌≤◌, ◌+◌, ℕ, List, [], ◌++◌, Option, Some, All, true, false, length, filter, map, slice_get}
use Rattle.jiff_tz.specs.declared.tzif.Tzif.{Tzif}
use Rattle.depend_graph.specs.Outlooks.{holds_in}
use Rattle.depend_graph.specs.Parents.{has}
use Rattle.order_book.specs.Orders.{Orders}
use Rattle.run_meaning.specs.Reachability.{Outlook}
use Rattle.run_meaning.specs.Schedule as meant
use Rattle.run_meaning.specs.Schedule.{Watch, due_from, is_waiting, outlook_after, walk_over}
use Rattle.run_meaning.specs.Turns as turns
use Rattle.run_meaning.specs.Turns.{Command, Histories, Outstanding}
use Rattle.site_model.specs.PlainSite.{PlainSite}
use Rattle.check_plan.specs.Plans.{AreGiven, Plan, slots_in}
use Rattle.check_plan.specs.declared.ordered.Ordered.{Ordered}
use Rattle.check_plan.specs.declared.walk.Walk.{Walk}

-- an order with its command
abbrev pub ordered_as : (ℕ → Command) → Ordered → turns.Ordered
ordered_as command o = record { number = o.number; checkable = o.checkable; command = command o.checkable }

abbrev pub outstanding_as : Ordered → Outstanding
outstanding_as o = record { order = o.number; checkable = o.checkable }

-- what the walk goes by where these entries stand
abbrev pub outlook_now : PlainSite → Option Tzif → ℕ → Histories → Outlook
outlook_now s zone moment histories = outlook_after s (holds_in s zone) moment histories []

-- How far it has come.

-- what is kept of the checks, the orders so far, those that were passed over, and how many orders are outstanding
pub record Standing : Type 0 where
  pub plan : Plan
  pub orders : List Ordered
  pub passed : List ℕ
  pub outstanding : ℕ

abbrev pub standing : List Watch → Orders → Walk → Standing
standing watches orders w =
    record { plan = record { watches = watches; orders = orders }; orders = w.orders.items; passed = w.passed.items; outstanding = w.outstanding }

-- the same in the words of the definition
abbrev pub walk_at : (ℕ → Command) → Standing → meant.Walk
walk_at command x =
    record { orders = map (ordered_as command) x.orders; slots = slots_in x.plan.watches; given = x.plan.orders.given; outstanding = x.outstanding }

-- what the walk comes to from there on
abbrev pub rest_of : (ℕ → Command) → Outlook → Standing → meant.Walk
rest_of command o x = walk_over command o (due_from o.moment 0 x.plan.watches) (walk_at command x)

-- where it begins
abbrev pub first_of : Plan → Standing
first_of p = record { plan = p; orders = []; passed = []; outstanding = length (filter (λ w. w.waiting) p.watches) }

-- the whole walk
abbrev pub walked : (ℕ → Command) → Outlook → Plan → meant.Walk
walked command o p = rest_of command o (first_of p)

-- each watch tells whether an order of its checkable is outstanding, but for those that were passed over: these stand aside as if one
-- were
pub record AreAside (ws : List Watch) (os : List Outstanding) (passed : List ℕ) : Type 0 where
  pub tell : (i : ℕ) (w : Watch) → slice_get ws i ≡ Some w → has i passed ≡ false → w.waiting ≡ is_waiting os i
  pub wait : (i : ℕ) (w : Watch) → slice_get ws i ≡ Some w → has i passed ≡ true → w.waiting ≡ true
  pub free : (i : ℕ) → has i passed ≡ true → is_waiting os i ≡ false

-- from the first of these the walk comes to the second: what it comes to at last is the same, and what is kept goes on by the orders
-- between them
pub record IsOnWay (o : Outlook) (x y : Standing) : Type 0 where
  pub rest : (command : ℕ → Command) → rest_of command o y ≡ rest_of command o x
  pub whole : length y.plan.watches ≡ length x.plan.watches
  pub within : All (λ k. k < length x.plan.watches) x.passed → All (λ k. k < length x.plan.watches) y.passed
  pub numbers : y.plan.orders.given + length x.orders ≡ x.plan.orders.given + length y.orders
  pub counted : y.outstanding + length x.orders ≡ x.outstanding + length y.orders
  pub few : x.outstanding ≤ o.site.max_orders → y.outstanding ≤ o.site.max_orders
  pub told : (os : List Outstanding) → x.plan.orders.outstanding ≡ os ++ map outstanding_as x.orders → y.plan.orders.outstanding ≡ os ++ map outstanding_as y.orders
  pub aside : AreAside x.plan.watches x.plan.orders.outstanding x.passed → AreAside y.plan.watches y.plan.orders.outstanding y.passed
  pub given : AreAside x.plan.watches x.plan.orders.outstanding x.passed → AreGiven (length x.plan.watches) x.plan.orders.given x.plan.orders.outstanding → AreGiven (length x.plan.watches) y.plan.orders.given y.plan.orders.outstanding
