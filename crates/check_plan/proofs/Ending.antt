-- Where the walk ends.
use Rattle.std.proofs.Common.{◌≡◌, ◌≤◌, ◌+◌, ◌-◌, ℕ, List, [], ◌∷◌, ◌++◌, length, map, slice_get, nat_lt, cond, false, refl, sym, ap, ◌∙◌, arith}
use Rattle.std.proofs.lemmas.Bool.Decides.{nat_tests}
use Rattle.std.proofs.lemmas.List.{append-nil}
use Rattle.run_meaning.specs.Reachability.{Outlook}
use Rattle.run_meaning.specs.Schedule as meant
use Rattle.run_meaning.specs.Schedule.{Due, Watch, due_from, walk_over, walk_with}
use Rattle.run_meaning.specs.Turns.{Command}
use Rattle.check_plan.specs.Plans.{Plan, slots_in}
use Rattle.check_plan.specs.Walks.{IsOnWay, Standing, first_of, ordered_as, outstanding_as, walk_at, walked}

module _ (o : Outlook) (p : Plan) (y : Standing) (way : IsOnWay o (first_of p) y)
    (ends : (command : ℕ → Command) → walk_over command o (due_from o.moment 0 y.plan.watches) (walk_at command y) ≡ walk_at command y) where
  comes_to : (command : ℕ → Command) → walk_at command y ≡ walked command o p
  comes_to command = sym (ends command) ∙ way.rest command

  pub orders_are : (command : ℕ → Command) → map (ordered_as command) y.orders ≡ (walked command o p).orders
  orders_are command = ap (λ (w : meant.Walk). w.orders) (comes_to command)

  pub slots_are : (command : ℕ → Command) (ws : List Watch) → slots_in ws ≡ slots_in y.plan.watches → slots_in ws ≡ (walked command o p).slots
  slots_are command ws same = same ∙ ap (λ (w : meant.Walk). w.slots) (comes_to command)

pub given_is : (o : Outlook) (p : Plan) (y : Standing) → IsOnWay o (first_of p) y → y.plan.orders.given ≡ p.orders.given + length y.orders
given_is o p y way = let a = way.numbers in omega (arith, a)

pub outstanding_is : (o : Outlook) (p : Plan) (y : Standing) → IsOnWay o (first_of p) y → y.plan.orders.outstanding ≡ p.orders.outstanding ++ map outstanding_as y.orders
outstanding_is o p y way = way.told p.orders.outstanding (sym (append-nil p.orders.outstanding))

-- the walk ends where there is no room
pub no_room : (command : ℕ → Command) (o : Outlook) (ds : List Due) (w : meant.Walk) → o.site.max_orders ≤ w.outstanding → walk_over command o ds w ≡ w
no_room command o [] w h = refl
no_room command o (d ∷ ds) w h =
    let shut : nat_lt w.outstanding o.site.max_orders ≡ false = grind (arith, nat_tests, h) in
    ap (λ t. cond t (walk_over command o ds (walk_with command o d (slice_get o.site.checkables d.checkable) w)) w) shut
