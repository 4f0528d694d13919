-- All passes of a post, and the callers on them.
use Rattle.std.proofs.Common.{◌≡◌, ℕ, zero, suc, List, [], ◌∷◌, ◌++◌, length, refl, sym, ap, ◌∙◌, subst, arith, append_assoc, append-nil, length-append}
use Rattle.std.specs.Prelude.{All}
use Rattle.post_turn.specs.declared.pass.Caller.{Caller}
use Rattle.post_turn.specs.declared.pass.Pass.{Pass}
use Rattle.post_turn.specs.declared.post.Post.{Post}
use Rattle.post_turn.specs.History.{IsFront, entries_of}
use Rattle.post_turn.specs.Turns.{Mine, Each, Knows, caller, resting}
use Rattle.post_turn.specs.Passes.{IsPassOf, KnowsOwn, callers_on, seen_of, mine_of, start_of}

module _ {A : Type 0} (P : A → Type 0) where
  pub all_front : (xs : List A) (x : A) → All P (xs ++ x ∷ []) → All P xs
  all_front [] x h k d lt = absurd (omega arith)
  all_front (y ∷ ys) x h zero d lt = h zero d (omega arith)
  all_front (y ∷ ys) x h (suc k) d lt = all_front ys x (λ k d lt. h (suc k) d (omega arith)) k d (omega arith)

  pub all_last : (xs : List A) (x : A) → All P (xs ++ x ∷ []) → P x
  all_last [] x h = h zero x (omega arith)
  all_last (y ∷ ys) x h = all_last ys x (λ k d lt. h (suc k) d (omega arith))

  all_rest : (x : A) (xs : List A) → All P (x ∷ xs) → All P xs
  all_rest x xs h k d lt = h (suc k) d (omega arith)

module _ {M S E : Type 0} where
  pub is_resting : (cs : List (Caller M S E)) (w : Mine M S E) → w ≡ (resting cs, []) → w ≡ (resting w.0.callers, [])
  is_resting cs w e = subst (λ w. w ≡ (resting w.0.callers, [])) (sym e) refl

module _ {M S V E G : Type 0} where
  pub callers_snoc : (ps : List (Pass M S V E G)) (p : Pass M S V E G) → callers_on (ps ++ p ∷ []) ≡ callers_on ps ++ p.place.me.0.callers
  callers_snoc [] p = append-nil p.place.me.0.callers
  callers_snoc (q ∷ ps) p = ap (λ cs. q.place.me.0.callers ++ cs) (callers_snoc ps p) ∙ sym (append_assoc q.place.me.0.callers (callers_on ps) p.place.me.0.callers)

  -- the caller of a pass
  abbrev whose : Post M S V E G → Pass M S V E G → Caller M S E
  whose post p = caller post.machine (start_of post) p.caller (seen_of p) (mine_of p)

  one : (post : Post M S V E G) (p : Pass M S V E G) → IsPassOf post p → p.place.me.0.callers ≡ whose post p ∷ []
  one post p h = ap (λ (m : Mine M S E). m.0.callers) h.1

  pub callers_count : (post : Post M S V E G) (ps : List (Pass M S V E G)) → All (IsPassOf post) ps → length (callers_on ps) ≡ length ps
  callers_count post [] h = refl
  callers_count post (p ∷ ps) h =
      let a = ap length (one post p (h zero p (omega arith))) in
      let b = callers_count post ps (all_rest (IsPassOf post) p ps h) in
      let c = length-append p.place.me.0.callers (callers_on ps) in
      omega arith

  pub all_know : (fit : M → S → Type 0) (after : M → S → E → S) (caller_of : E → ℕ) (m : M) (s : S) (n : ℕ) (history : List E) (post : Post M S V E G) (ps : List (Pass M S V E G))
      → All (IsPassOf post) ps → Each (Knows fit after caller_of m s n history) (callers_on ps) → All (λ p. IsFront (seen_of p) history × (entries_of caller_of p.caller history ≡ mine_of p) × KnowsOwn caller_of p) ps
  all_know fit after caller_of m s n history post [] h known k d lt = absurd (omega arith)
  all_know fit after caller_of m s n history post (p ∷ ps) h known zero d lt =
      let first = subst (λ cs. Each (Knows fit after caller_of m s n history) (cs ++ callers_on ps)) (one post p (h zero p (omega arith))) known in
      (first.0.seen, first.0.mine, first.0.own)
  all_know fit after caller_of m s n history post (p ∷ ps) h known (suc k) d lt =
      let first = subst (λ cs. Each (Knows fit after caller_of m s n history) (cs ++ callers_on ps)) (one post p (h zero p (omega arith))) known in
      all_know fit after caller_of m s n history post ps (all_rest (IsPassOf post) p ps h) first.1 k d (omega arith)
