-- Before the first turn.
use Rattle.std.proofs.Common.{◌≡◌, ℕ, zero, suc, ◌+◌, ◌≤◌, max, false, List, [], ◌∷◌, length, map, replicate, slice_get, Option, Some, refl, sym, ap, ◌∙◌, subst, arith}
use Rattle.std.proofs.Math.Nat.{le-max_left, le-max_right}
use Rattle.check_plan.specs.Plans.{IsPlan, Plan, first_plan, plans_of, slots_in}
use Rattle.check_slots.specs.Watches.{first_watch}
use Rattle.checkable_core.specs.Contents.{Contents}
use Rattle.depend_graph.specs.Graph.{IsGraphOf}
use Rattle.lasting_problems.specs.Lasting.{lasting}
use Rattle.lasting_problems.specs.Noted.{noted}
use Rattle.run_meaning.specs.Dealing.{last_moment}
use Rattle.run_meaning.specs.Runs.{Stage, greatest_moment, greatest_of, start}
use Rattle.run_meaning.specs.Schedule.{Watch}
use Rattle.run_meaning.specs.Turns.{Histories, Plans, Reported, Slot}
use Rattle.site_model.specs.PlainSite.{PlainCheck, PlainSite, site_view}
use Rattle.site_model.specs.declared.entry.Entry.{Entry}
use Rattle.site_posts.specs.Books.{AreBooks, histories_of}
use Rattle.turn_engine.specs.Checkables.{AreOf}
use Rattle.turn_engine.specs.Ready.{IsReady}
use Rattle.turn_engine.specs.declared.state.EngineState.{EngineState}

-- Watches.

many_first : (n : ℕ) → length (replicate n first_watch) ≡ n
many_first zero = refl
many_first (suc n) = ap suc (many_first n)

each_first : (n i : ℕ) (w : Watch) → slice_get (replicate n first_watch) i ≡ Some w → w.waiting ≡ false
each_first zero i w at = absurd cc
each_first (suc n) zero w at = let same : first_watch ≡ w = cc in ap (λ (x : Watch). x.waiting) (sym same)
each_first (suc n) (suc i) w at = each_first n i w at

pub first_is_plan : (s : PlainSite) (n : ℕ) (p : Plan) → p ≡ first_plan n → n ≡ length s.checkables → IsPlan s p
first_is_plan s n p is whole = subst (IsPlan s) (sym is) (record {
  whole = many_first n ∙ whole;
  waiting = λ i w at. each_first n i w at;
  given = record { apart = tt; none_later = λ k h. refl; within = λ i o at. absurd cc };
  few = omega arith;
})

-- Moments.

last_is_within : (es : List Entry) → last_moment es ≤ greatest_of es
last_is_within [] = omega arith
last_is_within (e ∷ []) = le-max_left e.moment 0
last_is_within (e ∷ f ∷ es) = let h = last_is_within (f ∷ es) in let l = le-max_right e.moment (greatest_of (f ∷ es)) in omega (arith, h, l)

greatest_is_within : (books : List Contents) (k : ℕ) (book : Contents) → slice_get books k ≡ Some book → greatest_of book.entries ≤ greatest_moment (histories_of books)
greatest_is_within [] k book at = absurd cc
greatest_is_within (b ∷ books) zero book at =
    let same : b ≡ book = cc in
    subst (λ (x : Contents). greatest_of x.entries ≤ greatest_moment (histories_of (b ∷ books))) same (le-max_left (greatest_of b.entries) (greatest_moment (histories_of books)))
greatest_is_within (b ∷ books) (suc k) book at =
    let h = greatest_is_within books k book at in
    let l = le-max_right (greatest_of b.entries) (greatest_moment (histories_of books)) in
    omega (arith, h, l)

-- none has an entry after the greatest moment
pub none_later : (s : PlainSite) (books : List Contents) → AreOf s books → AreBooks s (greatest_moment (histories_of books)) books
none_later s books are = record {
  whole = are.whole;
  each = λ k book at. let own = are.each k book at in record {
    site = own.site;
    index = own.index;
    moment = (let h = last_is_within book.entries in let l = greatest_is_within books k book at in omega (arith, h, l));
  };
}

-- one of each is there at any moment
pub one_of_each : (s : PlainSite) (now : ℕ) (books : List Contents) → AreBooks s now books → AreOf s books
one_of_each s now books are = record {
  whole = are.whole;
  each = λ k book at. let own = are.each k book at in record { site = own.site; index = own.index };
}

-- The stage.

first_slots : (n : ℕ) (cs : List PlainCheck) → n ≡ length cs → slots_in (replicate n first_watch) ≡ map (λ _. record { next = 0; forced = false }) cs
first_slots zero [] h = refl
first_slots zero (c ∷ cs) h = absurd (omega (arith, h))
first_slots (suc n) [] h = absurd (omega (arith, h))
first_slots (suc n) (c ∷ cs) h = ap (λ (ss : List Slot). record { next = 0; forced = false } ∷ ss) (first_slots n cs (omega (arith, h)))

abbrev stage_with : ℕ → Histories → Plans → List Reported → Stage
stage_with m h p due = record { turns = 0; moment = m; histories = h; plans = p; due = due; begun = [] }

pub starts : (s : PlainSite) (n m : ℕ) (p : Plan) (h : Histories) (due : List Reported) → p ≡ first_plan n → n ≡ length s.checkables → m ≡ greatest_moment h → due ≡ [] → stage_with m h (plans_of p) due ≡ start s h
starts s n m p h due is whole at nothing =
    ap (λ k. stage_with k h (plans_of p) due) at
    ∙ ap (λ q. stage_with (greatest_moment h) h (plans_of q) due) is
    ∙ ap (λ (ss : List Slot). stage_with (greatest_moment h) h (record { given = 0; outstanding = []; slots = ss }) due) (first_slots n s.checkables whole)
    ∙ ap (λ d. stage_with (greatest_moment h) h (record { given = 0; outstanding = []; slots = map (λ _. record { next = 0; forced = false }) s.checkables }) d) nothing

-- all is ready
pub ready_first : (w : EngineState) (n : ℕ) → IsGraphOf (site_view w.site) w.graph → AreOf (site_view w.site) w.books.items → w.plan ≡ first_plan n → n ≡ length (site_view w.site).checkables → w.problems ≡ noted (lasting (site_view w.site) (histories_of w.books.items)) → w.moment ≡ greatest_moment (histories_of w.books.items) → w.turns ≡ 0 → (site_view w.site).max_orders ≤ 65535 → IsReady w
ready_first w n graph are plan whole problems at turns most =
    let s = site_view w.site in
    let given = ap (λ (p : Plan). p.orders.given) plan in
    record {
      graph = graph;
      books = subst (λ m. AreBooks s m w.books.items) (sym at) (none_later s w.books.items are);
      plan = first_is_plan s n w.plan plan whole;
      problems = problems;
      given = omega (arith, given);
      most = most;
      turns = omega (arith, turns);
    }
