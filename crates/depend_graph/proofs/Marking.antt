-- A search's marks: one more found, and what those added are.
use Rattle.std.proofs.Common.{◌≡◌, ◌<◌, ◌≤◌, ◌≢◌, ◌+◌, ℕ, zero, suc, List, [], ◌∷◌, ◌++◌, length, drop, get_or, set, nat_eq, cond, ◌⊎◌, inl, inr, Bool, true, false, All, refl, sym, ap, ◌∙◌, subst, arith, eqb-true, length-set, get_or-set_same, get_or-set_other}
use Rattle.std.proofs.lemmas.List.{append_assoc, append-nil, drop_more, get_or_append_left, length-append, length_push}
use Rattle.std.proofs.lemmas.List.Elements.{All-head, All-push, All-tail}
use Rattle.std.proofs.lemmas.List.Quantifiers.{all_pairs_push}
use Rattle.std.proofs.lemmas.Bool.{cases_eq}
use Rattle.depend_graph.specs.Parents.{has}
use Rattle.depend_graph.specs.Search.{added, count_marked, AreMarked}
use Rattle.depend_graph.proofs.Has.{eq_apart, eq_self, has_first, has_push, has_push_other, has_pushed, never_both, stands_at}

pub few_marked : (mark : ℕ) (marks : List ℕ) → count_marked mark marks ≤ length marks
few_marked mark [] = omega arith
few_marked mark (m ∷ ms) = by (nat_eq m mark) (few_marked mark ms)
  where
    by : (t : Bool) → count_marked mark ms ≤ length ms → cond t (suc (count_marked mark ms)) (count_marked mark ms) ≤ length (m ∷ ms)
    by true h = omega (arith, h)
    by false h = omega (arith, h)

one_marked : (mark : ℕ) (marks : List ℕ) (p : ℕ) → p < length marks → nat_eq (get_or marks p 0) mark ≡ false → count_marked mark (set marks p mark) ≡ suc (count_marked mark marks)
one_marked mark [] p l h = absurd (omega (arith, l))
one_marked mark (m ∷ ms) zero l h =
    ap (λ t. cond t (suc (count_marked mark ms)) (count_marked mark ms)) (eq_self mark)
    ∙ ap (λ t. suc (cond t (suc (count_marked mark ms)) (count_marked mark ms))) (sym h)
one_marked mark (m ∷ ms) (suc p) l h = by (nat_eq m mark) (one_marked mark ms p (omega (arith, l)) h)
  where
    by : (t : Bool) → count_marked mark (set ms p mark) ≡ suc (count_marked mark ms)
        → cond t (suc (count_marked mark (set ms p mark))) (count_marked mark (set ms p mark)) ≡ suc (cond t (suc (count_marked mark ms)) (count_marked mark ms))
    by true e = ap suc e
    by false e = e

-- nothing is found, and nothing bears the mark
pub none_marked : (mark : ℕ) (marks : List ℕ) → All (λ m. m < mark) marks → AreMarked mark [] marks
none_marked mark marks h = record {
  below = λ k d l. absurd (omega (arith, l));
  marked = λ p l. eq_apart (get_or marks p 0) mark (λ e. let q = h p 0 l in omega (arith, e, q));
  once = λ i j d q l. absurd (omega (arith, l));
  few = by marks h;
}
  where
    by : (ms : List ℕ) → All (λ m. m < mark) ms → length {A = ℕ} [] ≡ count_marked mark ms
    by [] h = refl
    by (m ∷ ms) h =
        let e : nat_eq m mark ≡ false = eq_apart m mark (λ e. let q = h 0 0 (omega arith) in omega (arith, e, q)) in
        by ms (λ k d l. h (suc k) d (omega (arith, l))) ∙ ap (λ t. cond t (suc (count_marked mark ms)) (count_marked mark ms)) (sym e)

-- one that bears no mark is marked and found
pub mark_more : (mark : ℕ) (found marks : List ℕ) (p : ℕ) → p < length marks → get_or marks p 0 ≢ mark → AreMarked mark found marks → AreMarked mark (found ++ p ∷ []) (set marks p mark)
mark_more mark found marks p l apart m = record {
  below = subst (λ n. All (λ q. q < n) (found ++ p ∷ [])) (sym (length-set marks p mark)) (All-push (λ q. q < length marks) found p m.below l);
  marked = λ q h. by q (omega (arith, length-set marks p mark, h)) (cases_eq q p);
  once = all_pairs_push (λ x y. x ≢ y) found p m.once (λ k d h e. never_both (stands_at p found k d h e) unfound);
  few = length_push found p ∙ (let e = m.few in let f = one_marked mark marks p l unmarked in omega (arith, e, f));
}
  where
    unmarked : nat_eq (get_or marks p 0) mark ≡ false
    unmarked = eq_apart (get_or marks p 0) mark apart

    unfound : has p found ≡ false
    unfound = sym (m.marked p l) ∙ unmarked

    by : (q : ℕ) → q < length marks → (q ≡ p) ⊎ (q ≡ p → ⊥) → nat_eq (get_or (set marks p mark) q 0) mark ≡ has q (found ++ p ∷ [])
    by q h (inl e) = subst (λ z. nat_eq (get_or (set marks p mark) z 0) mark ≡ has z (found ++ p ∷ [])) (sym e)
        (ap (λ z. nat_eq z mark) (get_or-set_same marks p mark 0 l) ∙ eq_self mark ∙ sym (has_pushed p found))
    by q h (inr ne) = ap (λ z. nat_eq z mark) (get_or-set_other marks p q mark 0 ne) ∙ m.marked q h ∙ sym (has_push_other q p found ne)

-- What is added.

pub add_seen : (found : List ℕ) (p : ℕ) (ps : List ℕ) → has p found ≡ true → added found (p ∷ ps) ≡ added found ps
add_seen found p ps h = ap (λ t. cond t (added found ps) (added (found ++ p ∷ []) ps)) h

pub add_new : (found : List ℕ) (p : ℕ) (ps : List ℕ) → has p found ≡ false → added found (p ∷ ps) ≡ added (found ++ p ∷ []) ps
add_new found p ps h = ap (λ t. cond t (added found ps) (added (found ++ p ∷ []) ps)) h

-- those found before stay in front
pub added_behind : (found ps : List ℕ) → (more : List ℕ) × (added found ps ≡ found ++ more)
added_behind found [] = ([], sym (append-nil found))
added_behind found (p ∷ ps) = by (added_behind found ps) (added_behind (found ++ p ∷ []) ps) (has p found) refl
  where
    by : (more : List ℕ) × (added found ps ≡ found ++ more) → (more : List ℕ) × (added (found ++ p ∷ []) ps ≡ (found ++ p ∷ []) ++ more) → (t : Bool) → has p found ≡ t → (more : List ℕ) × (added found (p ∷ ps) ≡ found ++ more)
    by r g true h = (r.0, add_seen found p ps h ∙ r.1)
    by g r false h = (p ∷ r.0, add_new found p ps h ∙ r.1 ∙ append_assoc found (p ∷ []) r.0)

pub added_at : (found ps : List ℕ) (k : ℕ) → k < length found → get_or (added found ps) k 0 ≡ get_or found k 0
added_at found ps k l = let r = added_behind found ps in ap (λ xs. get_or xs k 0) r.1 ∙ get_or_append_left found r.0 0 k l

pub added_keeps : (found ps : List ℕ) (n : ℕ) → has n found ≡ true → has n (added found ps) ≡ true
added_keeps found [] n h = h
added_keeps found (p ∷ ps) n h = by (added_keeps found ps n h) (added_keeps (found ++ p ∷ []) ps n (has_push n p found h)) (has p found) refl
  where
    by : has n (added found ps) ≡ true → has n (added (found ++ p ∷ []) ps) ≡ true → (t : Bool) → has p found ≡ t → has n (added found (p ∷ ps)) ≡ true
    by f g true q = ap (has n) (add_seen found p ps q) ∙ f
    by f g false q = ap (has n) (add_new found p ps q) ∙ g

pub added_all : (found ps : List ℕ) (n : ℕ) → has n ps ≡ true → has n (added found ps) ≡ true
added_all found [] n h = absurd cc
added_all found (p ∷ ps) n h = by (added_all found ps n) (added_all (found ++ p ∷ []) ps n) (has p found) refl (nat_eq p n) refl
  where
    by : (has n ps ≡ true → has n (added found ps) ≡ true) → (has n ps ≡ true → has n (added (found ++ p ∷ []) ps) ≡ true)
        → (t : Bool) → has p found ≡ t → (u : Bool) → nat_eq p n ≡ u → has n (added found (p ∷ ps)) ≡ true
    by f g true q true e = ap (has n) (add_seen found p ps q) ∙ added_keeps found ps n (subst (λ z. has z found ≡ true) (eqb-true p n e) q)
    by f g true q false e = ap (has n) (add_seen found p ps q) ∙ f (has_first n p ps h e)
    by f g false q true e = ap (has n) (add_new found p ps q) ∙ added_keeps (found ++ p ∷ []) ps n (subst (λ z. has z (found ++ p ∷ []) ≡ true) (eqb-true p n e) (has_pushed p found))
    by f g false q false e = ap (has n) (add_new found p ps q) ∙ g (has_first n p ps h e)

pub added_meets : (P : ℕ → Type 0) (found ps : List ℕ) → All P found → All P ps → All P (added found ps)
added_meets P found [] f g = f
added_meets P found (p ∷ ps) f g =
    by (added_meets P found ps f (All-tail P p ps g)) (added_meets P (found ++ p ∷ []) ps (All-push P found p f (All-head P p ps g)) (All-tail P p ps g)) (has p found) refl
  where
    by : All P (added found ps) → All P (added (found ++ p ∷ []) ps) → (t : Bool) → has p found ≡ t → All P (added found (p ∷ ps))
    by a b true q = subst (All P) (sym (add_seen found p ps q)) a
    by a b false q = subst (All P) (sym (add_new found p ps q)) b

pub added_longer : (found ps : List ℕ) → length found ≤ length (added found ps)
added_longer found ps =
    let r = added_behind found ps in
    let e = ap length r.1 in
    let f = length-append found r.0 in
    omega (arith, e, f)

-- A step of the loop that adds.

pub rest_new : (found after ps : List ℕ) (i : ℕ) (all : List ℕ) → i < length ps → has (get_or ps i 0) found ≡ false → after ≡ found ++ get_or ps i 0 ∷ [] → added found (drop i ps) ≡ all → added after (drop (i + 1) ps) ≡ all
rest_new found after ps i all l fresh grown so_far =
    ap (λ xs. added xs (drop (i + 1) ps)) grown ∙ sym (add_new found (get_or ps i 0) (drop (i + 1) ps) fresh) ∙ ap (added found) (sym (drop_more ps i 0 l)) ∙ so_far

pub rest_seen : (found after ps : List ℕ) (i : ℕ) (all : List ℕ) → i < length ps → has (get_or ps i 0) found ≡ true → after ≡ found → added found (drop i ps) ≡ all → added after (drop (i + 1) ps) ≡ all
rest_seen found after ps i all l known same so_far =
    ap (λ xs. added xs (drop (i + 1) ps)) same ∙ sym (add_seen found (get_or ps i 0) (drop (i + 1) ps) known) ∙ ap (added found) (sym (drop_more ps i 0 l)) ∙ so_far
