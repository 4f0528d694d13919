-- To draw a ticket keeps the rule.
use Rattle.std.proofs.Common.{◌≡◌, ◌≢◌, ◌⊎◌, ℕ, ◌+◌, ◌%◌, ◌^◌, ◌≤◌, [], ◌∷◌, ◌++◌, length, set, refl, sym, ap, ◌∙◌, subst, inl, inr, ⊎_elim, arith, true, true≢false, length-append}
use mathlib.Core.Option.{some}
use lib.ListN.{get_elem?}
use Rattle.std.specs.Prelude.{slice_index, slice_set, Option}
use Rattle.atomic_table.specs.Table.{Step, Allows, keeps, stepped}
use Rattle.atomic_table.proofs.Lists.{at_set, set_here, set_else, at_longer, at_last}
use Rattle.post_turn.specs.declared.body.Body.{Body}
use Rattle.post_turn.specs.declared.pass.Caller.{Caller}
use Rattle.post_turn.specs.declared.pass.View.{View}
use Rattle.post_turn.specs.Turns.{Kept, AtHome, IsOut, Each, Mine, resting, waiting, serving, drawn, times, total, ticketed}
use Rattle.post_turn.proofs.Lists.{snoc_at, below, same_at}
use Rattle.post_turn.proofs.Views.{first_or, total_set}

module _ {M S E : Type 0} (fit : M → S → Type 0) (after : M → S → E → S) (caller_of : E → ℕ) (machine : M) (start : S) (callers : ℕ) where
  draws : (p : Step (Option (Body S E))) (id : ℕ) (d : Caller M S E) → Allows (Kept fit after caller_of machine start callers) 1 id (resting (d ∷ []), []) 0 (λ n. (n + 1) % 2 ^ 64) (drawn p (resting (d ∷ []), []))
  draws p id d s k deep at fits = (w, keeps, tt, kept, λ c e. ap (λ x. (waiting n x, [])) (λ i. first_or d (e i).0.callers))
    where
      n : ℕ
      n = slice_index s.words 0

      v : View M S E
      v = resting (d ∷ [])

      w : View M S E
      w = waiting n d

      word : n ≡ k.drawn
      word = ap (λ ws. slice_index ws 0) k.words

      here : get_elem? (set s.views id w) id ≡ some w
      here = set_here s.views id w (below s.views v id at)

      -- no seat of the queue is this one
      other : (i seat : ℕ) → get_elem? k.queue i ≡ some seat → seat ≢ id
      other i seat e same =
          let m = k.queued.each i seat e in
          let u : m.0 ≡ v = same_at s.views m.0 v seat m.1 (subst (λ j. get_elem? s.views j ≡ some v) (sym same) at) in
          true≢false (sym m.2 ∙ ap (λ (v : View M S E). v.waits) u)

      each : (i seat : ℕ) → get_elem? (k.queue ++ id ∷ []) i ≡ some seat → (v : View M S E) × (get_elem? (set s.views id w) seat ≡ some v) × (v.waits ≡ true) × (v.ticket ≡ (k.served + i) % 2 ^ 64)
      each i seat e =
          ⊎_elim
          (λ old. let m = k.queued.each i seat old in (m.0, set_else s.views id seat w (other i seat old) ∙ m.1, m.2, m.3))
          (λ new. (w, subst (λ j. get_elem? (set s.views id w) j ≡ some w) new.1 here, refl, word ∙ k.ahead ∙ ap (λ j. (k.served + j) % 2 ^ 64) (sym new.0)))
          (snoc_at k.queue id seat i e)

      all : (seat : ℕ) (v : View M S E) → get_elem? (set s.views id w) seat ≡ some v → v.waits ≡ true → (i : ℕ) × (get_elem? (k.queue ++ id ∷ []) i ≡ some seat)
      all seat v e h =
          ⊎_elim
          (λ own. (length k.queue, at_last k.queue id (length k.queue) refl ∙ ap some (sym own.0)))
          (λ old. let m = k.queued.all seat v old.1 h in (m.0, at_longer k.queue (id ∷ []) m.0 seat m.1))
          (at_set s.views id seat w v e)

      once : (i j seat : ℕ) → get_elem? (k.queue ++ id ∷ []) i ≡ some seat → get_elem? (k.queue ++ id ∷ []) j ≡ some seat → i ≡ j
      once i j seat e f =
          ⊎_elim
          (λ a. ⊎_elim (λ b. k.queued.once i j seat a b) (λ b. absurd (other i seat a (sym b.1))) (snoc_at k.queue id seat j f))
          (λ a. ⊎_elim (λ b. absurd (other j seat b (sym a.1))) (λ b. a.0 ∙ sym b.0) (snoc_at k.queue id seat j f))
          (snoc_at k.queue id seat i e)

      turn : (seat : ℕ) (v : View M S E) → get_elem? (set s.views id w) seat ≡ some v → v.turn ≡ true → (v.waits ≡ true) × (get_elem? (k.queue ++ id ∷ []) 0 ≡ some seat)
      turn seat v e h =
          ⊎_elim
          (λ own. absurd (true≢false (sym h ∙ ap (λ (v : View M S E). v.turn) (sym own.1))))
          (λ old. let m = k.queued.turn seat v old.1 h in (m.0, at_longer k.queue (id ∷ []) 0 seat m.1))
          (at_set s.views id seat w v e)

      placed : AtHome fit after caller_of machine start callers s.homes k.history (set s.views id w) ⊎ IsOut fit after caller_of machine start callers s.homes k.history (set s.views id w)
      placed =
          ⊎_elim
          (λ home. inl (home.0, home.1, home.2, λ seat v e. ⊎_elim (λ own. ap (λ (v : View M S E). v.turn) (sym own.1)) (λ old. home.3 seat v old.1) (at_set s.views id seat w v e)))
          (λ out. inr (
            out.0,
            out.1,
            out.2,
            out.3,
            set_else s.views id out.1 w (λ same. true≢false (ap (λ (v : View M S E). v.turn) (same_at s.views (serving out.2 out.3) v out.1 out.4 (subst (λ j. get_elem? s.views j ≡ some v) (sym same) at)))) ∙ out.4,
            out.5,
          ))
          k.placed

      kept : Kept fit after caller_of machine start callers (stepped s 0 ((n + 1) % 2 ^ 64) id [] w keeps)
      kept = record {
        queue = k.queue ++ id ∷ [];
        history = k.history;
        drawn = (k.drawn + 1) % 2 ^ 64;
        served = k.served;
        words = ap (λ ws. slice_set ws 0 ((slice_index ws 0 + 1) % 2 ^ 64)) k.words;
        small = k.small;
        ahead = (let d = k.ahead in let l = length-append k.queue (id ∷ []) in omega arith);
        queued = record { each = each; all = all; once = once; turn = turn; counted = (let t = total_set ticketed s.views id v w at in let c = k.queued.counted in let l = length-append k.queue (id ∷ []) in omega arith) };
        placed = placed;
        few = k.few;
        numbers = λ x. (let t = total_set (λ v. times x v.callers) s.views id v w at in let c = k.numbers x in let a : total (λ (v : View M S E). times x v.callers) (set s.views id w) ≡ total (λ (v : View M S E). times x v.callers) s.views = omega (arith, t) in a ∙ c);
        whole = (let t = total_set (λ v. length v.callers) s.views id v w at in let c = k.whole in omega arith);
        busy = λ seat v e. ⊎_elim (λ own. subst (λ (v : View M S E). ticketed v ≤ length v.callers) own.1 (omega arith)) (λ old. k.busy seat v old.1) (at_set s.views id seat w v e);
        known = λ seat u e. ⊎_elim (λ own. subst (λ (v : View M S E). Each (Rattle.post_turn.specs.Turns.Knows fit after caller_of machine start callers k.history) v.callers) own.1 (k.known id v at)) (λ old. k.known seat u old.1) (at_set s.views id seat w u e);
        own = k.own;
      }

  pub draws_as : (p : Step (Option (Body S E))) (slots id : ℕ) (me : Mine M S E) (c : Caller M S E) → slots ≡ 1 → me ≡ (resting (c ∷ []), []) → Allows (Kept fit after caller_of machine start callers) slots id me 0 (λ n. (n + 1) % 2 ^ 64) (drawn p me)
  draws_as p slots id me c h e =
      subst (λ m. Allows (Kept fit after caller_of machine start callers) slots id m 0 (λ n. (n + 1) % 2 ^ 64) (drawn p m)) (sym e)
      (subst (λ n. Allows (Kept fit after caller_of machine start callers) n id (resting (c ∷ []), []) 0 (λ n. (n + 1) % 2 ^ 64) (drawn p (resting (c ∷ []), []))) (sym h) (draws p id c))
