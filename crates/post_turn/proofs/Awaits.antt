-- To look for the turn, and to take the slot once it has come, keeps the rule.
use Rattle.std.proofs.Common.{◌≡◌, ◌≢◌, ◌⊎◌, ℕ, ◌+◌, ◌%◌, ◌^◌, ◌≤◌, List, [], ◌∷◌, length, set, refl, sym, ap, ◌∙◌, subst, inl, inr, ⊎_elim, arith, true, true≢false, Some}
use mathlib.Core.Option.{some, none, some-injective}
use lib.ListN.{get_elem?}
use native.Mathlib.Decide.{ℕ_discrete}
use Rattle.std.specs.Prelude.{slice_index, slice_set, Option}
use Rattle.atomic_table.specs.Table.{State, Step, Allows, Act, Valid, carried_after, keeps, takes, stepped}
use Rattle.atomic_table.proofs.Lists.{at_set, set_here, set_else, set_again}
use Rattle.post_turn.specs.declared.body.Body.{Body}
use Rattle.post_turn.specs.declared.pass.Caller.{Caller}
use Rattle.post_turn.specs.declared.pass.View.{View}
use Rattle.post_turn.specs.History.{IsFront, entries_of, replay}
use Rattle.post_turn.specs.Turns.{Kept, Knows, AtHome, IsOut, Each, Mine, Took, waiting, serving, shown, awaited, times, total, ticketed}
use Rattle.post_turn.proofs.Lists.{below, same_at, front_refl}
use Rattle.post_turn.proofs.Views.{first_or, total_set, total_least}

module _ {M S E : Type 0} (fit : M → S → Type 0) (after : M → S → E → S) (caller_of : E → ℕ) (machine : M) (start : S) (callers : ℕ) where
  abbrev Keeps : State (Option (Body S E)) (View M S E) → Type 0
  Keeps = Kept fit after caller_of machine start callers

  -- what the step tells of the ticket t and the caller c
  abbrev Tells : Mine M S E → ℕ → Mine M S E → ℕ → Caller M S E → Type 0
  Tells v n w t c = ((n ≡ t) × Took fit after caller_of t c w) ⊎ ((n ≢ t) × (w ≡ v))

  told : (p : Step (Option (Body S E))) (t : ℕ) (d : Caller M S E) (n : ℕ) (w : Mine M S E) → Tells (waiting t d, []) n w t d → awaited fit after caller_of p (waiting t d, []) n w
  told p t d n w h = λ u c e. subst (λ (z : ℕ × Caller M S E). Tells (waiting t d, []) n w z.0 z.1) (λ i. ((e i).0.ticket, first_or d (e i).0.callers)) h

  awaits : (p : Step (Option (Body S E))) (id t : ℕ) (d : Caller M S E) → Allows Keeps 1 id (waiting t d, []) 1 (λ n. n) (awaited fit after caller_of p (waiting t d, []))
  awaits p id t d s k deep at fits = by (ℕ_discrete (slice_index s.words 1) t)
    where
      n : ℕ
      n = slice_index s.words 1

      v : View M S E
      v = waiting t d

      word : n ≡ k.served
      word = ap (λ ws. slice_index ws 1) k.words

      Answer : Type 0
      Answer = (w : View M S E) × (a : Act (Option (Body S E))) × Valid s.homes [] a × Keeps (stepped s 1 n id [] w a) × awaited fit after caller_of p (v, []) n (w, carried_after [] a)

      came : n ≡ t → Answer
      came same = ⊎_elim home (λ out. absurd (not_out out)) k.placed
        where
          place : (i : ℕ) × (get_elem? k.queue i ≡ some id)
          place = k.queued.all id v at refl

          ticket : t ≡ (k.served + place.0) % 2 ^ 64
          ticket =
              let m = k.queued.each place.0 id place.1 in
              ap (λ (v : View M S E). v.ticket) (same_at s.views v m.0 id at m.1) ∙ m.3

          -- as many wait as there are callers at most, so that no two of them hold one ticket
          front : place.0 ≡ 0
          front =
              let a = below k.queue id place.0 place.1 in
              let b = total_least ticketed (λ v. length v.callers) s.views k.busy in
              let c = k.queued.counted in
              let whole = k.whole in
              let few = k.few in
              let e = k.small in
              let f = word in
              let g = ticket in
              omega arith

          at_front : get_elem? k.queue 0 ≡ some id
          at_front = subst (λ i. get_elem? k.queue i ≡ some id) front place.1

          not_out : IsOut fit after caller_of machine start callers s.homes k.history s.views → ⊥
          not_out out =
              let m = (k.queued.turn out.1 (serving out.2 out.3) out.4 refl).1 in
              let seat : out.1 ≡ id = some-injective out.1 id (sym m ∙ at_front) in
              true≢false (ap (λ (v : View M S E). v.turn) (same_at s.views (serving out.2 out.3) v id (subst (λ j. get_elem? s.views j ≡ some (serving out.2 out.3)) seat out.4) at))

          knows : Knows fit after caller_of machine start callers k.history d
          knows = (k.known id v at).0

          home : AtHome fit after caller_of machine start callers s.homes k.history s.views → Answer
          home h = (w, takes 0 (Some h.0), ap (λ hs. get_elem? hs 0) h.1, kept, told p t d n (w, (0, Some h.0) ∷ []) (inl (same, took)))
            where
              all : List E
              all = h.0.history.items

              w : View M S E
              w = serving t (shown d all)

              seen_all : IsFront d.seen all
              seen_all = subst (IsFront d.seen) (sym h.2.history) knows.seen

              own : entries_of caller_of d.number all ≡ d.mine
              own = ap (entries_of caller_of d.number) h.2.history ∙ knows.mine

              took : Took fit after caller_of t d (w, (0, Some h.0) ∷ [])
              took = record {
                body = h.0;
                longer = seen_all;
                state = h.2.state ∙ (λ i. replay (after (sym knows.of_machine i)) (sym knows.of_start i) (sym h.2.history i));
                is_fit = subst (λ m. fit m h.0.state) (sym knows.of_machine) h.2.is_fit;
                own = own;
                view = refl;
              }

              knows_all : Knows fit after caller_of machine start callers k.history (shown d all)
              knows_all = record { of_machine = knows.of_machine; of_start = knows.of_start; seen = subst (IsFront all) h.2.history (front_refl all); mine = knows.mine; own = own }

              here : get_elem? (set s.views id w) id ≡ some w
              here = set_here s.views id w (below s.views v id at)

              each : (i seat : ℕ) → get_elem? k.queue i ≡ some seat → (v : View M S E) × (get_elem? (set s.views id w) seat ≡ some v) × (v.waits ≡ true) × (v.ticket ≡ (k.served + i) % 2 ^ 64)
              each i seat e = of (ℕ_discrete seat id)
                where
                  of : Dec (seat ≡ id) → (v : View M S E) × (get_elem? (set s.views id w) seat ≡ some v) × (v.waits ≡ true) × (v.ticket ≡ (k.served + i) % 2 ^ 64)
                  of (yes own) =
                      let i0 : i ≡ 0 = k.queued.once i 0 id (e ∙ ap some own) at_front in
                      (w, subst (λ j. get_elem? (set s.views id w) j ≡ some w) (sym own) here, refl, ticket ∙ ap (λ j. (k.served + j) % 2 ^ 64) (front ∙ sym i0))
                  of (no else) = let m = k.queued.each i seat e in (m.0, set_else s.views id seat w else ∙ m.1, m.2, m.3)

              kept : Keeps (stepped s 1 n id [] w (takes 0 (Some h.0)))
              kept = record {
                queue = k.queue;
                history = k.history;
                drawn = k.drawn;
                served = k.served;
                words = ap (λ ws. slice_set ws 1 (slice_index ws 1)) k.words;
                small = k.small;
                ahead = k.ahead;
                queued = record {
                  each = each;
                  all = λ seat v e y. ⊎_elim (λ own. (0, at_front ∙ ap some (sym own.0))) (λ old. k.queued.all seat v old.1 y) (at_set s.views id seat w v e);
                  once = k.queued.once;
                  turn = λ seat v e y. ⊎_elim (λ own. (ap (λ (v : View M S E). v.waits) (sym own.1), at_front ∙ ap some (sym own.0))) (λ old. k.queued.turn seat v old.1 y) (at_set s.views id seat w v e);
                  counted = (let t = total_set ticketed s.views id v w at in let c = k.queued.counted in omega arith);
                };
                placed = inr (ap (λ hs. slice_set hs 0 none) h.1, id, t, shown d all, here, h.2.history);
                few = k.few;
                numbers = λ x. (let t = total_set (λ v. times x v.callers) s.views id v w at in let a : total (λ (v : View M S E). times x v.callers) (set s.views id w) ≡ total (λ (v : View M S E). times x v.callers) s.views = omega (arith, t) in a ∙ k.numbers x);
                whole = (let t = total_set (λ v. length v.callers) s.views id v w at in let c = k.whole in omega arith);
                busy = λ seat v e. ⊎_elim (λ own. subst (λ (v : View M S E). ticketed v ≤ length v.callers) own.1 (omega arith)) (λ old. k.busy seat v old.1) (at_set s.views id seat w v e);
                known = λ seat v e. ⊎_elim (λ own. subst (λ (v : View M S E). Each (Knows fit after caller_of machine start callers k.history) v.callers) own.1 (knows_all, tt)) (λ old. k.known seat v old.1) (at_set s.views id seat w v e);
                own = k.own;
              }

      by : Dec (n ≡ t) → Answer
      by (yes same) = came same
      by (no else) = (v, keeps, tt, stay, told p t d n (v, []) (inr (else, refl)))
        where
          stay : Keeps (stepped s 1 n id [] v keeps)
          stay =
              let ws : s.words ≡ slice_set s.words 1 n = k.words ∙ sym (ap (λ ws. slice_set ws 1 (slice_index ws 1)) k.words) in
              let vs : s.views ≡ set s.views id v = sym (set_again s.views id v at) in
              subst (λ (z : List ℕ × List (View M S E)). Keeps record { words = z.0; homes = s.homes; views = z.1 }) (λ i. (ws i, vs i)) k

  pub awaits_as : (p : Step (Option (Body S E))) (slots id t : ℕ) (me : Mine M S E) (c : Caller M S E) → slots ≡ 1 → me ≡ (waiting t c, []) → Allows (Kept fit after caller_of machine start callers) slots id me 1 (λ n. n) (awaited fit after caller_of p me)
  awaits_as p slots id t me c h e =
      subst (λ m. Allows Keeps slots id m 1 (λ n. n) (awaited fit after caller_of p m)) (sym e) (subst (λ n. Allows Keeps n id (waiting t c, []) 1 (λ n. n) (awaited fit after caller_of p (waiting t c, []))) (sym h) (awaits p id t c))
