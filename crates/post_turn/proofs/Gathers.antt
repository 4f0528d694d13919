-- To take another place's callers in keeps the rule.
use Rattle.std.proofs.Common.{◌≡◌, ◌≢◌, ℕ, ◌+◌, ◌≤◌, List, ◌++◌, length, set, sym, ap, ◌∙◌, subst, inl, inr, ⊎_elim, arith, true≢false, length-append}
use mathlib.Core.Option.{some}
use lib.ListN.{get_elem?}
use Rattle.std.specs.Prelude.{Option}
use Rattle.atomic_table.specs.Table.{State, Joins}
use Rattle.atomic_table.proofs.Lists.{at_set, set_else}
use Rattle.post_turn.specs.declared.body.Body.{Body}
use Rattle.post_turn.specs.declared.pass.Caller.{Caller}
use Rattle.post_turn.specs.declared.pass.View.{View}
use Rattle.post_turn.specs.Turns.{Kept, Knows, Each, resting, serving, gathered, nobody, times, total, ticketed}
use Rattle.post_turn.proofs.Lists.{same_at}
use Rattle.post_turn.proofs.Views.{total_set, times_append, each_append}

module _ {M S E : Type 0} (fit : M → S → Type 0) (after : M → S → E → S) (caller_of : E → ℕ) (machine : M) (start : S) (callers : ℕ) where
  abbrev Keeps : State (Option (Body S E)) (View M S E) → Type 0
  Keeps = Kept fit after caller_of machine start callers

  abbrev numbered : ℕ → View M S E → ℕ
  numbered x u = times x u.callers

  abbrev counts : View M S E → ℕ
  counts u = length u.callers

  gathers : (id : ℕ) (cs : List (Caller M S E)) (other : ℕ) (ds : List (Caller M S E)) → Joins Keeps id (resting cs) other (resting ds) (resting (ds ++ cs)) nobody
  gathers id cs other ds s k at apart there = record {
    queue = k.queue;
    history = k.history;
    drawn = k.drawn;
    served = k.served;
    words = k.words;
    small = k.small;
    ahead = k.ahead;
    queued = record {
      each = λ i seat e. let m = k.queued.each i seat e in (m.0, kept_at seat m.0 (else_of seat m.0 v at (λ same. true≢false (sym m.2 ∙ ap (λ (v : View M S E). v.waits) same)) m.1) (else_of_other seat m.0 (λ same. true≢false (sym m.2 ∙ ap (λ (v : View M S E). v.waits) same)) m.1) m.1, m.2, m.3);
      all = λ seat u e h. seen seat u e (λ old. k.queued.all seat u old h) (λ now. absurd (true≢false (sym h ∙ ap (λ (v : View M S E). v.waits) now))) (λ now. absurd (true≢false (sym h ∙ ap (λ (v : View M S E). v.waits) now)));
      once = k.queued.once;
      turn = λ seat u e h. seen seat u e (λ old. k.queued.turn seat u old h) (λ now. absurd (true≢false (sym h ∙ ap (λ (v : View M S E). v.turn) now))) (λ now. absurd (true≢false (sym h ∙ ap (λ (v : View M S E). v.turn) now)));
      counted = (let a = total_set ticketed s.views id v both at in let b = total_set ticketed one other w nobody there in let c = k.queued.counted in omega arith);
    };
    placed = ⊎_elim
        (λ home. inl (home.0, home.1, home.2, λ seat u e. seen seat u e (λ old. home.3 seat u old) (λ now. ap (λ (v : View M S E). v.turn) now) (λ now. ap (λ (v : View M S E). v.turn) now)))
        (λ out. (
        let u : View M S E = serving out.2 out.3 in
        inr (
          out.0,
          out.1,
          out.2,
          out.3,
          kept_at out.1 u (else_of out.1 u v at (λ same. true≢false (ap (λ (v : View M S E). v.turn) same)) out.4) (else_of_other out.1 u (λ same. true≢false (ap (λ (v : View M S E). v.turn) same)) out.4) out.4,
          out.5,
        )
        ))
        k.placed;
    few = k.few;
    numbers = λ x. (
        let a = total_set (numbered x) s.views id v both at in
        let b = total_set (numbered x) one other w nobody there in
        let c : times x (ds ++ cs) ≡ times x ds + times x cs = times_append x ds cs in
        let same : total (numbered x) (set one other nobody) ≡ total (numbered x) s.views = omega (arith, a, b, c) in
        same ∙ k.numbers x
        );
    whole = (let a = total_set counts s.views id v both at in let b = total_set counts one other w nobody there in let c = length-append ds cs in let d = k.whole in omega arith);
    busy = λ seat u e. seen seat u e (λ old. k.busy seat u old) (λ now. subst (λ (v : View M S E). ticketed v ≤ length v.callers) (sym now) (omega arith)) (λ now. subst (λ (v : View M S E). ticketed v ≤ length v.callers) (sym now) (omega arith));
    known = λ seat u e. seen seat u e
        (λ old. k.known seat u old)
        (λ now. subst (λ (v : View M S E). Each (KnowsIt s k) v.callers) (sym now) (each_append (KnowsIt s k) ds cs (k.known other w before) (k.known id v at)))
        (λ now. subst (λ (v : View M S E). Each (KnowsIt s k) v.callers) (sym now) tt);
    own = k.own;
  }
    where
      KnowsIt : (s : State (Option (Body S E)) (View M S E)) → Keeps s → Caller M S E → Type 0
      KnowsIt s k = Knows fit after caller_of machine start callers k.history

      v : View M S E
      v = resting cs

      w : View M S E
      w = resting ds

      both : View M S E
      both = resting (ds ++ cs)

      one : List (View M S E)
      one = set s.views id both

      before : get_elem? s.views other ≡ some w
      before = sym (set_else s.views id other both apart) ∙ there

      -- what stands at a seat: as before, both, or nobody
      seen : {R : Type 0} (seat : ℕ) (u : View M S E) → get_elem? (set one other nobody) seat ≡ some u → (get_elem? s.views seat ≡ some u → R) → (u ≡ both → R) → (u ≡ nobody → R) → R
      seen seat u e old mine new =
          ⊎_elim
          (λ a. new (sym a.1))
          (λ a. ⊎_elim (λ own. mine (sym own.1)) (λ b. old b.1) (at_set s.views id seat both u a.1))
          (at_set one other seat nobody u e)

      kept_at : (seat : ℕ) (u : View M S E) → seat ≢ id → seat ≢ other → get_elem? s.views seat ≡ some u → get_elem? (set one other nobody) seat ≡ some u
      kept_at seat u else far e = set_else one other seat nobody far ∙ set_else s.views id seat both else ∙ e

      else_of : (seat : ℕ) (u x : View M S E) → get_elem? s.views id ≡ some x → (u ≢ x) → get_elem? s.views seat ≡ some u → seat ≢ id
      else_of seat u x h differ e same = differ (same_at s.views u x seat e (subst (λ j. get_elem? s.views j ≡ some x) (sym same) h))

      else_of_other : (seat : ℕ) (u : View M S E) → (u ≢ w) → get_elem? s.views seat ≡ some u → seat ≢ other
      else_of_other seat u differ e same = differ (same_at s.views u w seat e (subst (λ j. get_elem? s.views j ≡ some w) (sym same) before))

  pub gathers_as : (id : ℕ) (v : View M S E) (other : ℕ) (w : View M S E) → v ≡ resting v.callers → w ≡ resting w.callers → Joins (Kept fit after caller_of machine start callers) id v other w (gathered v w) nobody
  gathers_as id v other w e f = subst (λ (z : View M S E × View M S E). Joins Keeps id z.0 other z.1 (gathered z.0 z.1) nobody) (λ i. (sym e i, sym f i)) (gathers id v.callers other w.callers)
