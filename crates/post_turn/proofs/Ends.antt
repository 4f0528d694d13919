-- What the rule says once all callers are in one place.
use Rattle.std.proofs.Common.{◌≡◌, ◌≢◌, ℕ, ◌≤◌, List, [], length, sym, ap, ◌∙◌, subst, ⊎_elim, arith, true≢false, Some}
use mathlib.Core.Option.{some, some-injective}
use lib.ListN.{get_elem?}
use Rattle.std.specs.Prelude.{Option}
use Rattle.atomic_table.specs.Table.{State, Final, Seen}
use Rattle.post_turn.specs.declared.body.Body.{Body}
use Rattle.post_turn.specs.declared.pass.Caller.{Caller}
use Rattle.post_turn.specs.declared.pass.View.{View}
use Rattle.post_turn.specs.History.{entries_of}
use Rattle.post_turn.specs.Turns.{Kept, Knows, IsBody, IsOut, Each, resting, serving, total}
use Rattle.post_turn.proofs.Lists.{same_at}
use Rattle.post_turn.proofs.Views.{total_two}
use Rattle.post_turn.proofs.Passing.{some_same}

module _ {M S E : Type 0} (fit : M → S → Type 0) (after : M → S → E → S) (caller_of : E → ℕ) (machine : M) (start : S) (callers : ℕ) where
  -- the body is whole, and all callers know its history
  pub record Ended (cs : List (Caller M S E)) (body : Body S E) : Type 0 where
    pub is_body : IsBody fit after caller_of machine start callers body.history.items body
    pub known : Each (Knows fit after caller_of machine start callers body.history.items) cs
    pub own : (k : ℕ) → callers ≤ k → entries_of caller_of k body.history.items ≡ []

  -- the body lies in the slot
  abbrev pub Lies : List (Caller M S E) → List (Option (Body S E)) → Type 0
  Lies cs slots = (body : Body S E) × (get_elem? slots 0 ≡ some (Some body)) × Ended cs body

  pub ends : (id : ℕ) (v : View M S E) (cs : List (Caller M S E)) (words : List ℕ) (slots : List (Option (Body S E))) → v ≡ resting cs → length cs ≡ callers → Final (Seen (Kept fit after caller_of machine start callers) id v) words slots → Lies cs slots
  ends id v cs words slots e all final = ⊎_elim home (λ out. absurd (not_out out)) k.placed
    where
      s : State (Option (Body S E)) (View M S E)
      s = final.0

      k : Kept fit after caller_of machine start callers s
      k = final.1.0

      at : get_elem? s.views id ≡ some (resting cs)
      at = final.1.1 ∙ ap some e

      -- who has the turn is one more caller than there are
      not_out : IsOut fit after caller_of machine start callers s.homes k.history s.views → ⊥
      not_out out =
          let u : View M S E = serving out.2 out.3 in
          let apart : id ≢ out.1 = (λ same. true≢false (ap (λ (v : View M S E). v.turn) (same_at s.views u (resting cs) out.1 out.4 (subst (λ j. get_elem? s.views j ≡ some (resting cs)) same at)))) in
          let two = total_two (λ u. length u.callers) s.views id out.1 (resting cs) u apart at out.4 in
          let whole = k.whole in
          omega arith

      home : Rattle.post_turn.specs.Turns.AtHome fit after caller_of machine start callers s.homes k.history s.views → Lies cs slots
      home h = (
          let same = h.2.history in (
            h.0,
            final.4 0 (Some h.0) (ap (λ hs. get_elem? hs 0) h.1),
            record {
              is_body = subst (λ l. IsBody fit after caller_of machine start callers l h.0) (sym same) h.2;
              known = subst (λ l. Each (Knows fit after caller_of machine start callers l) cs) (sym same) (k.known id (resting cs) at);
              own = λ j le. ap (entries_of caller_of j) same ∙ k.own j le;
            },
          )
          )

  -- what was taken out of the slot
  pub ends_with : (id : ℕ) (v : View M S E) (cs : List (Caller M S E)) (words : List ℕ) (slots : List (Option (Body S E))) (x : Option (Body S E)) (b : Body S E) → v ≡ resting cs → length cs ≡ callers → Final (Seen (Kept fit after caller_of machine start callers) id v) words slots
      → get_elem? slots 0 ≡ some x → x ≡ Some b → Ended cs b
  ends_with id v cs words slots x b e all final here is =
      let lies = ends id v cs words slots e all final in
      let same : lies.0 ≡ b = some_same lies.0 b (some-injective (Some lies.0) x (sym lies.1 ∙ here) ∙ is) in
      subst (Ended cs) same lies.2
