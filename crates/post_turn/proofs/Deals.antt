-- To cut a place off for the first caller keeps the rule.
use Rattle.std.proofs.Common.{◌≡◌, ◌≢◌, ℕ, ◌+◌, ◌≤◌, List, [], ◌∷◌, ◌++◌, length, set, refl, sym, ap, ◌∙◌, subst, inl, inr, ⊎_elim, arith, true, true≢false, cond}
use mathlib.Core.Option.{some}
use lib.ListN.{get_elem?}
use Rattle.std.specs.Prelude.{Option}
use Rattle.atomic_table.specs.Table.{State, Splits}
use Rattle.atomic_table.proofs.Lists.{at_set, set_else, at_longer}
use Rattle.post_turn.specs.declared.body.Body.{Body}
use Rattle.post_turn.specs.declared.pass.Caller.{Caller}
use Rattle.post_turn.specs.declared.pass.View.{View}
use Rattle.post_turn.specs.Turns.{Kept, Knows, Each, resting, serving, first_of, rest_of, times, total, ticketed}
use Rattle.post_turn.proofs.Lists.{snoc_at, same_at}
use Rattle.post_turn.proofs.Views.{total_set, total_snoc}

module _ {M S E : Type 0} (fit : M → S → Type 0) (after : M → S → E → S) (caller_of : E → ℕ) (machine : M) (start : S) (callers : ℕ) where
  abbrev Keeps : State (Option (Body S E)) (View M S E) → Type 0
  Keeps = Kept fit after caller_of machine start callers

  abbrev numbered : ℕ → View M S E → ℕ
  numbered x u = times x u.callers

  abbrev counts : View M S E → ℕ
  counts u = length u.callers

  deals : (id : ℕ) (d : Caller M S E) (ds : List (Caller M S E)) → Splits Keeps id (resting (d ∷ ds)) (resting ds) (resting (d ∷ []))
  deals id d ds s k at = record {
    queue = k.queue;
    history = k.history;
    drawn = k.drawn;
    served = k.served;
    words = k.words;
    small = k.small;
    ahead = k.ahead;
    queued = record {
      each = λ i seat e. let m = k.queued.each i seat e in (m.0, kept_at seat m.0 (waits_else seat m.0 m.1 m.2) m.1, m.2, m.3);
      all = λ seat u e h. seen seat u e (λ else old. k.queued.all seat u old h) (λ now. absurd (true≢false (sym h ∙ ap (λ (v : View M S E). v.waits) now))) (λ now. absurd (true≢false (sym h ∙ ap (λ (v : View M S E). v.waits) now)));
      once = k.queued.once;
      turn = λ seat u e h. seen seat u e (λ else old. k.queued.turn seat u old h) (λ now. absurd (true≢false (sym h ∙ ap (λ (v : View M S E). v.turn) now))) (λ now. absurd (true≢false (sym h ∙ ap (λ (v : View M S E). v.turn) now)));
      counted = (let a = total_set ticketed s.views id v left at in let b = total_snoc ticketed (set s.views id left) right in let c = k.queued.counted in omega arith);
    };
    placed = ⊎_elim
        (λ home. inl (home.0, home.1, home.2, λ seat u e. seen seat u e (λ else old. home.3 seat u old) (λ now. ap (λ (v : View M S E). v.turn) now) (λ now. ap (λ (v : View M S E). v.turn) now)))
        (λ out. inr (
          out.0,
          out.1,
          out.2,
          out.3,
          kept_at out.1 (serving out.2 out.3) (λ same. true≢false (ap (λ (v : View M S E). v.turn) (same_at s.views (serving out.2 out.3) v out.1 out.4 (subst (λ j. get_elem? s.views j ≡ some v) (sym same) at)))) out.4,
          out.5,
        ))
        k.placed;
    few = k.few;
    numbers = λ x. (
        let a = total_set (numbered x) s.views id v left at in
        let b = total_snoc (numbered x) (set s.views id left) right in
        let n : ℕ = cond {A = ℕ} (Rattle.std.specs.Prelude.eqb d.number x) 1 0 in
        let f : numbered x v ≡ n + times x ds = refl in
        let g : numbered x right ≡ n + 0 = refl in
        let same : total (numbered x) (set s.views id left ++ right ∷ []) ≡ total (numbered x) s.views = omega (arith, a, b, f, g) in
        same ∙ k.numbers x
        );
    whole = (let a = total_set counts s.views id v left at in let b = total_snoc counts (set s.views id left) right in let c = k.whole in omega arith);
    busy = λ seat u e. seen seat u e (λ else old. k.busy seat u old) (λ now. subst (λ (v : View M S E). ticketed v ≤ length v.callers) (sym now) (omega arith)) (λ now. subst (λ (v : View M S E). ticketed v ≤ length v.callers) (sym now) (omega arith));
    known = λ seat u e. seen seat u e
        (λ else old. k.known seat u old)
        (λ now. subst (λ (v : View M S E). Each (Knows fit after caller_of machine start callers k.history) v.callers) (sym now) (k.known id v at).1)
        (λ now. subst (λ (v : View M S E). Each (Knows fit after caller_of machine start callers k.history) v.callers) (sym now) ((k.known id v at).0, tt));
    own = k.own;
  }
    where
      v : View M S E
      v = resting (d ∷ ds)

      left : View M S E
      left = resting ds

      right : View M S E
      right = resting (d ∷ [])

      -- what stands at a seat: as before, what is left, or the new place
      seen : {R : Type 0} (seat : ℕ) (u : View M S E) → get_elem? (set s.views id left ++ right ∷ []) seat ≡ some u → (seat ≢ id → get_elem? s.views seat ≡ some u → R) → (u ≡ left → R) → (u ≡ right → R) → R
      seen seat u e old mine new =
          ⊎_elim
          (λ a. ⊎_elim (λ own. mine (sym own.1)) (λ b. old b.0 b.1) (at_set s.views id seat left u a))
          (λ a. new (sym a.1))
          (snoc_at (set s.views id left) right u seat e)

      kept_at : (seat : ℕ) (u : View M S E) → seat ≢ id → get_elem? s.views seat ≡ some u → get_elem? (set s.views id left ++ right ∷ []) seat ≡ some u
      kept_at seat u else e = at_longer (set s.views id left) (right ∷ []) seat u (set_else s.views id seat left else ∙ e)

      waits_else : (seat : ℕ) (u : View M S E) → get_elem? s.views seat ≡ some u → u.waits ≡ true → seat ≢ id
      waits_else seat u e h same = true≢false (sym h ∙ ap (λ (v : View M S E). v.waits) (same_at s.views u v seat e (subst (λ j. get_elem? s.views j ≡ some v) (sym same) at)))

  pub deals_as : (id : ℕ) (v : View M S E) (d : Caller M S E) (ds : List (Caller M S E)) → v ≡ resting (d ∷ ds) → Splits (Kept fit after caller_of machine start callers) id v (rest_of v) (first_of v)
  deals_as id v d ds e = subst (λ v. Splits Keeps id v (rest_of v) (first_of v)) (sym e) (deals id d ds)
