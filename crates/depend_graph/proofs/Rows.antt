-- Lists of lists after a change of one of them, and one more.
use Rattle.std.proofs.Common.{◌≡◌, ◌<◌, ◌≤◌, ◌≢◌, ℕ, zero, suc, List, [], ◌∷◌, ◌++◌, length, map, filter, get_or, set, nat_eq, cond, Bool, true, false, refl, sym, ap, ◌∙◌, subst, arith, eqb-true}
use Rattle.std.proofs.lemmas.List.{append_assoc}
use Rattle.site_model.specs.declared.depend_spec.DependSpec.{DependSpec}
use Rattle.run_meaning.specs.Turns.{of_index}
use Rattle.depend_graph.specs.Parents.{given}
use Rattle.depend_graph.proofs.Has.{eq_self, never_both}

pub row_at : (ls : List (List ℕ)) (k : ℕ) (d : List ℕ) → k < length ls → get_or ls k d ≡ of_index k ls
row_at [] k d h = absurd (omega (arith, h))
row_at (r ∷ rs) zero d h = refl
row_at (r ∷ rs) (suc k) d h = row_at rs k d (omega (arith, h))

pub row_set : (ls : List (List ℕ)) (k : ℕ) (row : List ℕ) → k < length ls → of_index k (set ls k row) ≡ row
row_set [] k row h = absurd (omega (arith, h))
row_set (r ∷ rs) zero row h = refl
row_set (r ∷ rs) (suc k) row h = row_set rs k row (omega (arith, h))

pub row_other : (ls : List (List ℕ)) (j k : ℕ) (row : List ℕ) → j ≢ k → of_index j (set ls k row) ≡ of_index j ls
row_other [] j k row h = refl
row_other (r ∷ rs) zero zero row h = absurd (h refl)
row_other (r ∷ rs) zero (suc k) row h = refl
row_other (r ∷ rs) (suc j) zero row h = refl
row_other (r ∷ rs) (suc j) (suc k) row h = row_other rs j k row (λ e. h (ap suc e))

pub row_added : (ls : List (List ℕ)) (row : List ℕ) → of_index (length ls) (ls ++ row ∷ []) ≡ row
row_added [] row = refl
row_added (r ∷ rs) row = row_added rs row

pub row_kept : (ls : List (List ℕ)) (row : List ℕ) (k : ℕ) → k < length ls → of_index k (ls ++ row ∷ []) ≡ of_index k ls
row_kept [] row k h = absurd (omega (arith, h))
row_kept (r ∷ rs) row zero h = refl
row_kept (r ∷ rs) row (suc k) h = row_kept rs row k (omega (arith, h))

pub row_beyond : (ls : List (List ℕ)) (k : ℕ) → length ls ≤ k → of_index k ls ≡ []
row_beyond [] k h = refl
row_beyond (r ∷ rs) zero h = absurd (omega (arith, h))
row_beyond (r ∷ rs) (suc k) h = row_beyond rs k (omega (arith, h))

pub row_none : (ls : List (List ℕ)) (k : ℕ) → ((j : ℕ) → of_index j ls ≡ []) → of_index k (ls ++ [] ∷ []) ≡ []
row_none [] zero h = refl
row_none [] (suc k) h = refl
row_none (r ∷ rs) zero h = h 0
row_none (r ∷ rs) (suc k) h = row_none rs k (λ j. h (suc j))

-- Numbers added to rows one after another: `rest` says what those that come still add to the row of an index.

-- one more was added to its row
pub row_pushed : (ls : List (List ℕ)) (k n c : ℕ) (more : List ℕ) → k < length ls → of_index c (set ls k (of_index k ls ++ n ∷ [])) ++ more ≡ of_index c ls ++ cond (nat_eq k c) (n ∷ more) more
row_pushed ls k n c more h = by (nat_eq k c) refl
  where
    by : (t : Bool) → nat_eq k c ≡ t → of_index c (set ls k (of_index k ls ++ n ∷ [])) ++ more ≡ of_index c ls ++ cond t (n ∷ more) more
    by true q =
        subst (λ z. of_index z (set ls k (of_index k ls ++ n ∷ [])) ++ more ≡ of_index z ls ++ n ∷ more) (eqb-true k c q)
        (ap (λ r. r ++ more) (row_set ls k (of_index k ls ++ n ∷ []) h) ∙ append_assoc (of_index k ls) (n ∷ []) more)
    by false q =
        ap (λ r. r ++ more) (row_other ls c k (of_index k ls ++ n ∷ []) (λ e. never_both (ap (λ z. nat_eq z c) (sym e) ∙ eq_self c) q))

pub given_more : (ls : List (List ℕ)) (d : DependSpec) (ds : List DependSpec) (c : ℕ) → d.child < length ls
    → of_index c (set ls d.child (of_index d.child ls ++ d.parent ∷ [])) ++ given c ds ≡ of_index c ls ++ given c (d ∷ ds)
given_more ls d ds c h = row_pushed ls d.child d.parent c (given c ds) h ∙ by (nat_eq d.child c)
  where
    by : (t : Bool) → of_index c ls ++ cond t (d.parent ∷ given c ds) (given c ds)
        ≡ of_index c ls ++ map (λ (e : DependSpec). e.parent) (cond t (d ∷ filter (λ (e : DependSpec). nat_eq e.child c) ds) (filter (λ (e : DependSpec). nat_eq e.child c) ds))
    by true = refl
    by false = refl
