-- To give the slot back and serve the next ticket keeps the rule.
use Rattle.std.proofs.Common.{rules, ◌≡◌, ◌≢◌, ◌⊎◌, ℕ, zero, suc, ◌+◌, ◌%◌, ◌^◌, ◌<◌, ◌≤◌, List, [], ◌∷◌, ◌++◌, length, set, refl, sym, ap, ◌∙◌, subst, inl, inr, ⊎_elim, arith, Bool, true, false, true≢false, Some, None, cond, ltb}
use Rattle.std.proofs.lemmas.List.Elements.{filter-append}
use mathlib.Core.Option.{some, some-injective}
use lib.ListN.{get_elem?}
use Rattle.std.specs.Prelude.{slice_index, slice_set, Option, eqb}
use Rattle.atomic_table.specs.Table.{State, Step, Allows, gives, stepped}
use Rattle.atomic_table.proofs.Lists.{at_set, set_else}
use Rattle.post_turn.specs.declared.body.Body.{Body}
use Rattle.post_turn.specs.declared.pass.Caller.{Caller}
use Rattle.post_turn.specs.declared.pass.View.{View}
use Rattle.post_turn.specs.History.{Continues, entries_of, replay}
use Rattle.post_turn.specs.Turns.{Kept, Knows, IsOut, Each, Mine, resting, serving, grown, served, times, total, ticketed}
use Rattle.post_turn.proofs.Lists.{same_at, first_is, front_refl, front_trans, own_after}
use Rattle.post_turn.proofs.Views.{first_or, total_set, total_at, total_two, times_once, each_but}

not_true : (b : Bool) → (b ≡ true → ⊥) → b ≡ false
not_true true h = absurd (h refl)
not_true false h = refl

module _ {S E : Type 0} where
  abbrev body_or : Body S E → List (ℕ × Option (Body S E)) → Body S E
  body_or d [] = d
  body_or d ((k, None) ∷ r) = d
  body_or d ((k, Some x) ∷ r) = x

module _ {M S E : Type 0} (fit : M → S → Type 0) (after : M → S → E → S) (caller_of : E → ℕ) (machine : M) (start : S) (callers : ℕ) where
  abbrev Keeps : State (Option (Body S E)) (View M S E) → Type 0
  Keeps = Kept fit after caller_of machine start callers

  abbrev KnowsOf : List E → Caller M S E → Type 0
  KnowsOf = Knows fit after caller_of machine start callers

  abbrev numbered : ℕ → View M S E → ℕ
  numbered x u = times x u.callers

  serves : (p : Step (Option (Body S E))) (id t : ℕ) (d : Caller M S E) (b : Body S E) → Continues caller_of d.number d.seen b.history.items → b.state ≡ replay (after d.machine) d.start b.history.items → fit d.machine b.state
      → Allows Keeps 1 id (serving t d, (0, Some b) ∷ []) 1 (λ n. (n + 1) % 2 ^ 64) (served p (serving t d, (0, Some b) ∷ []))
  serves p id t d b more fresh is_fit s k deep at fits = (w, gives, tt, kept, λ u c x e. (λ i. (resting (grown (first_or d (e i).0.callers) (body_or b (e i).1).history.items ∷ []), [])))
    where
      n : ℕ
      n = slice_index s.words 1

      v : View M S E
      v = serving t d

      all : List E
      all = b.history.items

      w : View M S E
      w = resting (grown d all ∷ [])

      at_front : get_elem? k.queue 0 ≡ some id
      at_front = (k.queued.turn id v at refl).1

      queue : (r : List ℕ) × (k.queue ≡ id ∷ r)
      queue = first_is k.queue id at_front

      later : (i seat : ℕ) → get_elem? queue.0 i ≡ some seat → get_elem? k.queue (suc i) ≡ some seat
      later i seat e = ap (λ q. get_elem? q (suc i)) queue.1 ∙ e

      other : (i seat : ℕ) → get_elem? queue.0 i ≡ some seat → seat ≢ id
      other i seat e own = let no = k.queued.once (suc i) 0 id (later i seat e ∙ ap some own) at_front in omega arith

      out : IsOut fit after caller_of machine start callers s.homes k.history s.views
      out = ⊎_elim (λ home. absurd (true≢false (home.3 id v at))) (λ o. o) k.placed

      -- who has the turn is this one
      holder : (seat : ℕ) (u : View M S E) → get_elem? s.views seat ≡ some u → u.turn ≡ true → seat ≡ id
      holder seat u e h = some-injective seat id (sym (k.queued.turn seat u e h).1 ∙ at_front)

      -- so it has seen all
      seen_all : d.seen ≡ k.history
      seen_all =
          let seat = holder out.1 (serving out.2 out.3) out.4 refl in
          ap (λ (u : View M S E). (first_or d u.callers).seen) (same_at s.views v (serving out.2 out.3) id at (subst (λ j. get_elem? s.views j ≡ some (serving out.2 out.3)) seat out.4)) ∙ out.5

      whole : all ≡ k.history ++ more.rest
      whole = more.whole ∙ ap (λ l. l ++ more.rest) seen_all

      entries : (j : ℕ) → entries_of caller_of j all ≡ entries_of caller_of j k.history ++ entries_of caller_of j more.rest
      entries j = ap (entries_of caller_of j) whole ∙ filter-append (λ e. eqb (caller_of e) j) k.history more.rest

      knows : KnowsOf k.history d
      knows = (k.known id v at).0

      knows_all : KnowsOf all (grown d all)
      knows_all = record {
        of_machine = knows.of_machine;
        of_start = knows.of_start;
        seen = front_refl all;
        mine = own_after caller_of d.number d.seen d.mine all more knows.own;
        own = own_after caller_of d.number d.seen d.mine all more knows.own;
      }

      -- a caller of another number has no entry among the new ones
      still : (c : Caller M S E) → c.number ≢ d.number → KnowsOf k.history c → KnowsOf all c
      still c else h = record {
        of_machine = h.of_machine;
        of_start = h.of_start;
        seen = front_trans c.seen k.history all h.seen record { rest = more.rest; whole = whole };
        mine = entries c.number ∙ ap (λ l. entries_of caller_of c.number k.history ++ l) (more.others c.number else) ∙ Rattle.std.proofs.Common.append-nil (entries_of caller_of c.number k.history) ∙ h.mine;
        own = h.own;
      }

      one : (x : Bool) → cond {A = ℕ} x 1 0 ≤ 1
      one true = omega arith
      one false = omega arith

      -- no other view has this number
      none_else : (seat : ℕ) (u : View M S E) → seat ≢ id → get_elem? s.views seat ≡ some u → times d.number u.callers ≡ 0
      none_else seat u else e =
          let a = total_two (numbered d.number) s.views seat id u v else e at in
          let o : times d.number (d ∷ []) ≡ 1 = times_once d in
          let c : total (numbered d.number) s.views ≡ cond {A = ℕ} (ltb d.number callers) 1 0 = k.numbers d.number in
          let m = one (ltb d.number callers) in
          omega (arith, a, o, c, m)

      among : d.number < callers
      among = by (ltb d.number callers) refl
        where
          by : (x : Bool) → ltb d.number callers ≡ x → d.number < callers
          by true e = search rules
          by false e =
              let a = total_at (numbered d.number) s.views id v at in
              let o : times d.number (d ∷ []) ≡ 1 = times_once d in
              let c : total (numbered d.number) s.views ≡ 0 = k.numbers d.number ∙ ap (λ x. cond {A = ℕ} x 1 0) e in
              absurd (omega (arith, a, o, c))

      queued_all : (seat : ℕ) (u : View M S E) → get_elem? (set s.views id w) seat ≡ some u → u.waits ≡ true → (i : ℕ) × (get_elem? queue.0 i ≡ some seat)
      queued_all seat u e h = ⊎_elim (λ own. absurd (true≢false (sym h ∙ ap (λ (u : View M S E). u.waits) (sym own.1)))) (λ old. of old.0 (k.queued.all seat u old.1 h)) (at_set s.views id seat w u e)
        where
          of : seat ≢ id → ((i : ℕ) × (get_elem? k.queue i ≡ some seat)) → (i : ℕ) × (get_elem? queue.0 i ≡ some seat)
          of else (zero, e) = absurd (else (some-injective seat id (sym e ∙ at_front)))
          of else (suc i, e) = (i, ap (λ q. get_elem? q (suc i)) (sym queue.1) ∙ e)

      kept : Keeps (stepped s 1 ((n + 1) % 2 ^ 64) id ((0, Some b) ∷ []) w gives)
      kept = record {
        queue = queue.0;
        history = all;
        drawn = k.drawn;
        served = (k.served + 1) % 2 ^ 64;
        words = ap (λ ws. slice_set ws 1 ((slice_index ws 1 + 1) % 2 ^ 64)) k.words;
        small = omega arith;
        ahead = (let a = k.ahead in let l = ap length queue.1 in omega arith);
        queued = record {
          each = λ i seat e. let m = k.queued.each (suc i) seat (later i seat e) in (m.0, set_else s.views id seat w (other i seat e) ∙ m.1, m.2, (let q = m.3 in omega arith));
          all = queued_all;
          once = λ i j seat e f. let h = k.queued.once (suc i) (suc j) seat (later i seat e) (later j seat f) in omega arith;
          turn = λ seat u e h. ⊎_elim (λ own. absurd (true≢false (sym h ∙ ap (λ (u : View M S E). u.turn) (sym own.1)))) (λ old. absurd (old.0 (holder seat u old.1 h))) (at_set s.views id seat w u e);
          counted = (let q = total_set ticketed s.views id v w at in let c = k.queued.counted in let l = ap length queue.1 in omega arith);
        };
        placed = inl (
          b,
          ap (λ hs. slice_set hs 0 (some (Some b))) out.0,
          record { history = refl; state = fresh ∙ (λ i. replay (after (knows.of_machine i)) (knows.of_start i) all); is_fit = subst (λ m. fit m b.state) knows.of_machine is_fit },
          λ seat u e. ⊎_elim (λ own. ap (λ (u : View M S E). u.turn) (sym own.1)) (λ old. not_true u.turn (λ h. old.0 (holder seat u old.1 h))) (at_set s.views id seat w u e),
        );
        few = k.few;
        numbers = λ x. (let q = total_set (numbered x) s.views id v w at in let a : total (numbered x) (set s.views id w) ≡ total (numbered x) s.views = omega (arith, q) in a ∙ k.numbers x);
        whole = (let q = total_set (λ u. length u.callers) s.views id v w at in let c = k.whole in omega arith);
        busy = λ seat u e. ⊎_elim (λ own. subst (λ (u : View M S E). ticketed u ≤ length u.callers) own.1 (omega arith)) (λ old. k.busy seat u old.1) (at_set s.views id seat w u e);
        known = λ seat u e. ⊎_elim (λ own. subst (λ (u : View M S E). Each (KnowsOf all) u.callers) own.1 (knows_all, tt)) (λ old. each_but (KnowsOf k.history) (KnowsOf all) d.number u.callers (none_else seat u old.0 old.1) still (k.known seat u old.1)) (at_set s.views id seat w u e);
        own = λ j h. entries j ∙ (λ i. k.own j h i ++ more.others j (λ same. (let a = among in omega arith)) i);
      }

  pub serves_as : (p : Step (Option (Body S E))) (slots id t : ℕ) (me : Mine M S E) (c : Caller M S E) (b : Body S E) → slots ≡ 1 → me ≡ (serving t c, (0, Some b) ∷ []) → Continues caller_of c.number c.seen b.history.items → b.state ≡ replay (after c.machine) c.start b.history.items
      → fit c.machine b.state → Allows (Kept fit after caller_of machine start callers) slots id me 1 (λ n. (n + 1) % 2 ^ 64) (served p me)
  serves_as p slots id t me c b h e more fresh is_fit =
      subst (λ m. Allows Keeps slots id m 1 (λ n. (n + 1) % 2 ^ 64) (served p m)) (sym e)
      (subst (λ n. Allows Keeps n id (serving t c, (0, Some b) ∷ []) 1 (λ n. (n + 1) % 2 ^ 64) (served p (serving t c, (0, Some b) ∷ []))) (sym h) (serves p id t c b more fresh is_fit))
