-- The walk comes from one standing to another.
use Rattle.std.proofs.Common.{◌≡◌, ◌<◌, ◌||◌, not, ℕ, ◌+◌, List, [], ◌∷◌, ◌++◌, All, length, map, set, slice_get, Bool, true, false, Some, Result, Ok, Err, refl, sym, ap, ◌∙◌, subst, arith, append_assoc, length-append, length-set}
use Rattle.std.specs.Prelude.{OnOk}
use Rattle.std.proofs.lemmas.List.{map-append}
use Rattle.std.proofs.lemmas.List.Elements.{All-append, All-cons, All-nil}
use Rattle.check_slots.specs.Watches.{IsFirstDue}
use Rattle.order_book.specs.Orders.{Orders}
use Rattle.run_meaning.specs.Reachability.{Outlook}
use Rattle.run_meaning.specs.Schedule.{Watch, is_off, later_by, view_of_index}
use Rattle.site_model.specs.PlainSite.{PlainCheck}
use Rattle.check_plan.specs.Walks.{IsOnWay, Standing, outstanding_as, standing}
use Rattle.check_plan.specs.declared.walk.Walk.{Walk}
use Rattle.check_plan.specs.declared.ordered.Ordered.{Ordered}
use Rattle.check_plan.proofs.Aside.{given_aside, no_order, passed_aside}
use Rattle.check_plan.proofs.Given.{given_more}
use Rattle.check_plan.proofs.Walking.{aside, first_is_due, given_next, inside, not_waiting, passed_next, rest_given, rest_passed}

module _ (o : Outlook) (x : Standing) (k : ℕ) (first : IsFirstDue o.moment x.plan.watches k) (room : x.outstanding < o.site.max_orders) (c : PlainCheck) (is : slice_get o.site.checkables k ≡ Some c) where
  abbrev w : Watch
  w = first.watch

  abbrev test : Bool
  test = w.slot.forced || not (is_off o k c (view_of_index k o.seen))

  free : w.waiting ≡ false
  free = not_waiting o.moment w (first_is_due o.moment x.plan.watches k first)

  abbrev new : Ordered
  new = record { number = x.plan.orders.given + 1; checkable = k }

  one_longer : length (x.orders ++ new ∷ []) ≡ length x.orders + 1
  one_longer = length-append x.orders (new ∷ [])

  pub gives : test ≡ true → IsOnWay o x (given_next o x k first room c is)
  gives gets = record {
    rest = rest_given o x k first room c is gets;
    whole = length-set x.plan.watches k (aside w.slot.next);
    within = λ h. h;
    numbers = (let n = one_longer in omega (arith, n));
    counted = (let n = one_longer in omega (arith, n));
    few = λ h. omega (arith, room);
    told = λ os h.
        ap (λ ps. ps ++ outstanding_as new ∷ []) h ∙ append_assoc os (map outstanding_as x.orders) (outstanding_as new ∷ [])
        ∙ ap (λ ps. os ++ ps) (sym (map-append outstanding_as x.orders (new ∷ [])));
    aside = λ are. given_aside x.plan.watches x.plan.orders.outstanding x.passed are k w first.at free w.slot.next (x.plan.orders.given + 1);
    given = λ are given.
        given_more (length x.plan.watches) x.plan.orders.given k x.plan.orders.outstanding given (no_order x.plan.watches x.plan.orders.outstanding x.passed are k w first.at free) (inside o x k first room c is);
  }

  pub passes : test ≡ false → IsOnWay o x (passed_next o x k first room c is)
  passes held = record {
    rest = rest_passed o x k first room c is held;
    whole = length-set x.plan.watches k (aside (later_by o.moment c.check_secs));
    within = λ h. All-append (λ n. n < length x.plan.watches) x.passed (k ∷ []) h (All-cons (λ n. n < length x.plan.watches) k [] (inside o x k first room c is) (All-nil (λ n. n < length x.plan.watches)));
    numbers = refl;
    counted = refl;
    few = λ h. h;
    told = λ os h. h;
    aside = λ are. passed_aside x.plan.watches x.plan.orders.outstanding x.passed are k w first.at free (later_by o.moment c.check_secs);
    given = λ are given. given;
  }

-- One way behind another.

pub nowhere : (o : Outlook) (x : Standing) → IsOnWay o x x
nowhere o x = record {
  rest = λ command. refl;
  whole = refl;
  within = λ h. h;
  numbers = refl;
  counted = refl;
  few = λ h. h;
  told = λ os h. h;
  aside = λ are. are;
  given = λ are given. given;
}

-- Standings that have the same are the same.

abbrev standing_of : List Watch → Orders → List Ordered → List ℕ → ℕ → Standing
standing_of ws os rs ps n = record { plan = record { watches = ws; orders = os }; orders = rs; passed = ps; outstanding = n }

pub same_standing : (x y : Standing) → x.plan.watches ≡ y.plan.watches → x.plan.orders ≡ y.plan.orders → x.orders ≡ y.orders → x.passed ≡ y.passed → x.outstanding ≡ y.outstanding → x ≡ y
same_standing x y ws os rs ps n =
    ap (λ z. standing_of z x.plan.orders x.orders x.passed x.outstanding) ws
    ∙ ap (λ z. standing_of y.plan.watches z x.orders x.passed x.outstanding) os
    ∙ ap (λ z. standing_of y.plan.watches y.plan.orders z x.passed x.outstanding) rs
    ∙ ap (λ z. standing_of y.plan.watches y.plan.orders y.orders z x.outstanding) ps
    ∙ ap (standing_of y.plan.watches y.plan.orders y.orders y.passed) n

module _ (o : Outlook) (x : Standing) (k : ℕ) (first : IsFirstDue o.moment x.plan.watches k) (room : x.outstanding < o.site.max_orders) (c : PlainCheck) (is : slice_get o.site.checkables k ≡ Some c) where
  -- what the code tests is what the definition does
  pub gives_so : {t : Bool} (w : Watch) → w ≡ first.watch → (w.slot.forced || not (is_off o k c (view_of_index k o.seen))) ≡ t → (first.watch.slot.forced || not (is_off o k c (view_of_index k o.seen))) ≡ t
  gives_so w same so = sym (ap (λ (v : Watch). v.slot.forced || not (is_off o k c (view_of_index k o.seen))) same) ∙ so

  pub on_given : {E : Type 0} (ws : List Watch) (os : Orders) (walk : Walk) (w : Watch) → w ≡ first.watch → (first.watch.slot.forced || not (is_off o k c (view_of_index k o.seen))) ≡ true → (r : Result (Unit {0}) E)
      → OnOk r (ws ≡ set x.plan.watches k (aside w.slot.next))
      → OnOk r (os ≡ record { given = x.plan.orders.given + 1; outstanding = x.plan.orders.outstanding ++ record { order = x.plan.orders.given + 1; checkable = k } ∷ [] })
      → OnOk r (walk.orders.items ≡ x.orders ++ record { number = x.plan.orders.given + 1; checkable = k } ∷ [])
      → OnOk r (walk.passed.items ≡ x.passed) → OnOk r (walk.outstanding ≡ x.outstanding + 1)
      → OnOk r (IsOnWay o x (standing ws os walk))
  on_given ws os walk w same gets (Err e) a b d f g = tt
  on_given ws os walk w same gets (Ok u) a b d f g =
      subst (IsOnWay o x)
      (sym (same_standing (standing ws os walk) (given_next o x k first room c is) (a ∙ ap (λ (v : Watch). set x.plan.watches k (aside v.slot.next)) same) b d f g))
      (gives o x k first room c is gets)

  pub on_passed : {E : Type 0} (ws : List Watch) (walk : Walk) (next : ℕ) → next ≡ later_by o.moment c.check_secs → (first.watch.slot.forced || not (is_off o k c (view_of_index k o.seen))) ≡ false → (r : Result (Unit {0}) E)
      → OnOk r (ws ≡ set x.plan.watches k (aside next)) → OnOk r (walk.orders.items ≡ x.orders) → OnOk r (walk.passed.items ≡ x.passed ++ k ∷ []) → OnOk r (walk.outstanding ≡ x.outstanding)
      → OnOk r (IsOnWay o x (standing ws x.plan.orders walk))
  on_passed ws walk next same held (Err e) a d f g = tt
  on_passed ws walk next same held (Ok u) a d f g =
      subst (IsOnWay o x)
      (sym (same_standing (standing ws x.plan.orders walk) (passed_next o x k first room c is) (a ∙ ap (λ n. set x.plan.watches k (aside n)) same) refl d f g))
      (passes o x k first room c is held)
