-- What a pass knows, read from its place.
use Rattle.std.proofs.Common.{◌≡◌, ℕ, List, [], ◌∷◌, refl, sym, ap, ◌∙◌, subst, ⊎_elim, Some, None}
use Rattle.std.specs.Prelude.{Option}
use Rattle.atomic_table.specs.Table.{Step, rest}
use Rattle.post_turn.specs.declared.body.Body.{Body}
use Rattle.post_turn.specs.declared.pass.Caller.{Caller}
use Rattle.post_turn.specs.History.{IsFront, entries_of, replay}
use Rattle.post_turn.specs.Turns.{Mine, Took, caller, resting, waiting, serving, shown, seen_in, mine_in, awaited}

module _ {S E : Type 0} where
  abbrev body_or : Body S E → Option (Body S E) → Body S E
  body_or d None = d
  body_or d (Some x) = x

  pub some_same : (x y : Body S E) → Some x ≡ Some y → x ≡ y
  some_same x y e = ap (body_or x) e

  abbrev value_or : Option (Body S E) → List (ℕ × Option (Body S E)) → Option (Body S E)
  value_or d [] = d
  value_or d ((k, x) ∷ r) = x

module _ {M S E : Type 0} where
  abbrev pub seen_at : Mine M S E → List E
  seen_at m = seen_in m.0.callers

  abbrev pub mine_at : Mine M S E → List E
  mine_at m = mine_in m.0.callers

  -- where the word was the ticket, the slot was taken
  pub took : (fit : M → S → Type 0) (after : M → S → E → S) (caller_of : E → ℕ) (p : Step (Option (Body S E))) (t : ℕ) (d : Caller M S E) (v w : Mine M S E) (n : ℕ) → v ≡ (waiting t d, []) → n ≡ t → awaited fit after caller_of p v n w → Took fit after caller_of t d w
  took fit after caller_of p t d v w n e same tells = ⊎_elim (λ a. a.1) (λ a. absurd (a.0 same)) (tells t d e)

  -- what the seat holds, from what it is known to hold
  pub carries : (w : Mine M S E) (x : Option (Body S E)) → w.1 ≡ (0, x) ∷ [] → w.1 ≡ (0, x) ∷ rest w.1
  carries w x e = e ∙ ap (λ cs. (0, x) ∷ rest cs) (sym e)

  pub held : (w : Mine M S E) (x y : Option (Body S E)) → w.1 ≡ (0, y) ∷ [] → w.1 ≡ (0, x) ∷ rest w.1 → x ≡ y
  held w x y e f = ap (value_or x) (sym f ∙ e)

  -- the seat after the exchange
  pub exchanged : (v : Mine M S E) (w : Mine M S E) (x y : Option (Body S E)) (t : ℕ) (d : Caller M S E) → v ≡ (serving t d, (0, x) ∷ []) → w ≡ (v.0, (0, y) ∷ rest v.1) → w ≡ (serving t d, (0, y) ∷ [])
  exchanged v w x y t d e f = f ∙ (λ i. ((e i).0, (0, y) ∷ rest (e i).1))

  -- the slot that was taken has b, and b was taken out
  pub record Entered (fit : M → S → Type 0) (after : M → S → E → S) (caller_of : E → ℕ) (t : ℕ) (d : Caller M S E) (b : Body S E) (u : Mine M S E) : Type 0 where
    pub me : u ≡ (serving t (shown d b.history.items), (0, None) ∷ [])
    pub longer : IsFront d.seen b.history.items
    pub state : b.state ≡ replay (after d.machine) d.start b.history.items
    pub is_fit : fit d.machine b.state
    pub own : entries_of caller_of d.number b.history.items ≡ d.mine

  pub entered : (fit : M → S → Type 0) (after : M → S → E → S) (caller_of : E → ℕ) (p : Step (Option (Body S E))) (t : ℕ) (d : Caller M S E) (v w u : Mine M S E) (n : ℕ) (x : Option (Body S E)) (b : Body S E)
      → v ≡ (waiting t d, []) → n ≡ t → awaited fit after caller_of p v n w → w.1 ≡ (0, x) ∷ rest w.1 → u ≡ (w.0, (0, None) ∷ rest w.1) → x ≡ Some b → Entered fit after caller_of t d b u
  entered fit after caller_of p t d v w u n x b e same tells has now is = subst (λ b. Entered fit after caller_of t d b u) got_b record { me = exchanged w u (Some got.body) None t (shown d got.body.history.items) got.view now; longer = got.longer; state = got.state; is_fit = got.is_fit; own = got.own }
    where
      got : Took fit after caller_of t d w
      got = took fit after caller_of p t d v w n e same tells

      got_b : got.body ≡ b
      got_b = some_same got.body b (sym (held w x (Some got.body) (ap (λ m. m.1) got.view) has) ∙ is)

  pub has_turn : (m : M) (s : S) (k t : ℕ) (seen mine : List E) (w : Mine M S E) → w ≡ (serving t (caller m s k seen mine), (0, None) ∷ []) → (n : ℕ) × (w ≡ (serving n (caller m s k (seen_at w) (mine_at w)), (0, None) ∷ []))
  has_turn m s k t seen mine w e = (t, subst (λ w. w ≡ (serving t (caller m s k (seen_at w) (mine_at w)), (0, None) ∷ [])) (sym e) refl)

  pub rests : (m : M) (s : S) (k : ℕ) (seen mine : List E) (w : Mine M S E) → w ≡ (resting (caller m s k seen mine ∷ []), []) → w ≡ (resting (caller m s k (seen_at w) (mine_at w) ∷ []), [])
  rests m s k seen mine w e = subst (λ w. w ≡ (resting (caller m s k (seen_at w) (mine_at w) ∷ []), [])) (sym e) refl
