-- A new post meets the rule.
use Rattle.std.proofs.Common.{◌≡◌, ℕ, zero, suc, ◌+◌, ◌^◌, ◌<◌, ◌≤◌, [], ◌∷◌, length, refl, sym, ap, ◌∙◌, subst, inl, arith, true≢false, Some}
use mathlib.Core.Option.{some-ne-none}
use Rattle.atomic_table.specs.Table.{opening}
use Rattle.post_turn.specs.declared.body.Body.{Body}
use Rattle.post_turn.specs.declared.pass.View.{View}
use Rattle.post_turn.specs.Turns.{Kept, Knows, Each, everyone, newcomers, times, ticketed}
use Rattle.post_turn.proofs.Lists.{single}
use Rattle.post_turn.proofs.Views.{newcomers_once, newcomers_length}

module _ {M S E : Type 0} (fit : M → S → Type 0) (after : M → S → E → S) (caller_of : E → ℕ) (m : M) (s : S) where
  new_ones : (n j k : ℕ) → Each (Knows fit after caller_of m s n []) (newcomers m s j k)
  new_ones n j zero = tt
  new_ones n j (suc k) = (record { of_machine = refl; of_start = refl; seen = record { rest = []; whole = refl }; mine = refl; own = refl }, new_ones n (suc j) k)

  pub opens : (n : ℕ) (b : Body S E) → b.history.items ≡ [] → b.state ≡ s → fit m b.state → n < 2 ^ 32 → Kept fit after caller_of m s n (opening (0 ∷ 0 ∷ []) (Some b ∷ []) (everyone m s n))
  opens n b empty start is_fit few = record {
    queue = [];
    history = [];
    drawn = 0;
    served = 0;
    words = refl;
    small = omega arith;
    ahead = refl;
    queued = record {
      each = λ i seat e. absurd (some-ne-none seat (sym e));
      all = λ seat v e h. absurd (true≢false (sym h ∙ ap (λ (v : View M S E). v.waits) (sym (single all v seat e))));
      once = λ i j seat e f. absurd (some-ne-none seat (sym e));
      turn = λ seat v e h. absurd (true≢false (sym h ∙ ap (λ (v : View M S E). v.turn) (sym (single all v seat e))));
      counted = refl;
    };
    placed = inl (b, refl, record { history = empty; state = start; is_fit = is_fit }, λ seat v e. ap (λ (v : View M S E). v.turn) (sym (single all v seat e)));
    few = few;
    numbers = λ k. (let h = newcomers_once E m s k n in let plus : times k (newcomers {E = E} m s 0 n) + 0 ≡ times k (newcomers {E = E} m s 0 n) = omega arith in plus ∙ h);
    whole = (let h = newcomers_length E m s 0 n in let plus : length (newcomers {E = E} m s 0 n) + 0 ≡ length (newcomers {E = E} m s 0 n) = omega arith in plus ∙ h);
    busy = λ seat v e. subst (λ (v : View M S E). ticketed v ≤ length v.callers) (single all v seat e) (omega arith);
    known = λ seat v e. subst (λ (v : View M S E). Each (Knows fit after caller_of m s n []) v.callers) (single all v seat e) (new_ones n 0 n);
    own = λ k h. refl;
  }
    where
      all : View M S E
      all = everyone m s n
