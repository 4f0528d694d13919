-- Rules that take answers, one after another.
use Rattle.std.proofs.Common.{◌≡◌, ◌<◌, ◌+◌, ◌==◌, ℕ, zero, suc, List, [], ◌∷◌, ◌++◌, length, get_or, slice_set, Bool, true, false, cond, refl, sym, ap, ap₂, ◌∙◌, subst, arith, append-nil, append_assoc}
use Rattle.std.specs.List.{flat_map}
use Rattle.std.proofs.lemmas.Bool.Decides.{nat_tests}
use Rattle.std.proofs.lemmas.List.Concat.{flat_map-append}
use Rattle.std.specs.Borrow.{Bor}
use Rattle.eval_meaning.specs.Registered.{PlainItem, PlainRule}
use Rattle.eval_work.specs.Works.{plain_rule}
use Rattle.eval_work.specs.declared.rule.Rule.{Rule}
use Rattle.commit_meaning.specs.Answers.{Answer, all_made, diags_in}
use Rattle.wave_objects.specs.Applying.{HasTaken, HaveTaken, faults_by, for_place, made_by, rules_of}
use Rattle.wave_objects.specs.AtTargets.{Placed}
use Rattle.wave_objects.specs.declared.applying.Applied.{Applied}

-- ---- answers for a place

pub at_its_place : (k : ℕ) (a : Placed) (answers : List Placed) → a.place ≡ k → for_place k (a ∷ answers) ≡ a.answer ∷ for_place k answers
at_its_place k a answers e = let here : (a.place == k) ≡ true = grind (arith, nat_tests, e) in ap (λ b. cond b (a.answer ∷ for_place k answers) (for_place k answers)) here

pub at_another : (k : ℕ) (a : Placed) (answers : List Placed) → (a.place == k) ≡ false → for_place k (a ∷ answers) ≡ for_place k answers
at_another k a answers e = ap (λ b. cond b (a.answer ∷ for_place k answers) (for_place k answers)) e

pub for_place-append : (k : ℕ) (answers more : List Placed) → for_place k (answers ++ more) ≡ for_place k answers ++ for_place k more
for_place-append k [] more = refl
for_place-append k (a ∷ answers) more = by (for_place-append k answers more) (a.place == k)
  where
    by : for_place k (answers ++ more) ≡ for_place k answers ++ for_place k more → (b : Bool)
        → cond b (a.answer ∷ for_place k (answers ++ more)) (for_place k (answers ++ more)) ≡ cond b (a.answer ∷ for_place k answers) (for_place k answers) ++ for_place k more
    by rest true = ap (λ (xs : List (Answer (List PlainItem))). a.answer ∷ xs) rest
    by rest false = rest

-- ---- one rule

pub takes_none : (x : Applied) → HasTaken [] x x
takes_none x = record { rule = refl; made = sym (append-nil (made_by x)); faults = sym (append-nil (faults_by x)) }

takes_more : (answers more : List (Answer (List PlainItem))) (x y z : Applied) → HasTaken answers x y → HasTaken more y z → HasTaken (answers ++ more) x z
takes_more answers more x y z h g = record {
  rule = g.rule ∙ h.rule;
  made = g.made ∙ (ap (λ xs. xs ++ flat_map all_made more) h.made
      ∙ (append_assoc (made_by x) (flat_map all_made answers) (flat_map all_made more) ∙ ap (λ xs. made_by x ++ xs) (sym (flat_map-append all_made answers more))));
  faults = g.faults ∙ (ap (λ xs. xs ++ flat_map diags_in more) h.faults
      ∙ (append_assoc (faults_by x) (flat_map diags_in answers) (flat_map diags_in more) ∙ ap (λ xs. faults_by x ++ xs) (sym (flat_map-append diags_in answers more))));
}

pub takes_one : (a : Answer (List PlainItem)) (x y : Applied) → y.rule ≡ x.rule → made_by y ≡ made_by x ++ all_made a → faults_by y ≡ faults_by x ++ diags_in a → HasTaken (a ∷ []) x y
takes_one a x y r m f = record {
  rule = r;
  made = m ∙ ap (λ xs. made_by x ++ xs) (sym (append-nil (all_made a)));
  faults = f ∙ ap (λ xs. faults_by x ++ xs) (sym (append-nil (diags_in a)));
}

-- ---- all rules

pub taken_none : (k : ℕ) (xs : List Applied) → HaveTaken k [] xs xs
taken_none k [] = tt
taken_none k (x ∷ xs) = (takes_none x, taken_none (k + 1) xs)

pub taken_more : (k : ℕ) (answers more : List Placed) (xs ys zs : List Applied) → HaveTaken k answers xs ys → HaveTaken k more ys zs → HaveTaken k (answers ++ more) xs zs
taken_more k answers more [] [] [] h g = tt
taken_more k answers more [] [] (z ∷ zs) h g = absurd g
taken_more k answers more [] (y ∷ ys) zs h g = absurd h
taken_more k answers more (x ∷ xs) [] zs h g = absurd h
taken_more k answers more (x ∷ xs) (y ∷ ys) [] h g = absurd g
taken_more k answers more (x ∷ xs) (y ∷ ys) (z ∷ zs) h g =
    (subst (λ cs. HasTaken cs x z) (sym (for_place-append k answers more)) (takes_more (for_place k answers) (for_place k more) x y z h.0 g.0), taken_more (k + 1) answers more xs ys zs h.1 g.1)

-- an answer for a place before these
taken_earlier : (k : ℕ) (a : Placed) (xs : List Applied) → a.place < k → HaveTaken k (a ∷ []) xs xs
taken_earlier k a [] l = tt
taken_earlier k a (x ∷ xs) l =
    let other : (a.place == k) ≡ false = grind (arith, nat_tests, l) in
    (subst (λ cs. HasTaken cs x x) (sym (at_another k a [] other)) (takes_none x), taken_earlier (k + 1) a xs (omega (arith, l)))

-- an answer for one of these
taken_at : (k at : ℕ) (a : Placed) (ys : List Applied) (d z : Applied) → a.place ≡ k + at → at < length ys → HasTaken (a.answer ∷ []) (get_or ys at d) z → HaveTaken k (a ∷ []) ys (slice_set ys at z)
taken_at k at a [] d z e l h = absurd (omega (arith, l))
taken_at k zero a (y ∷ ys) d z e l h =
    let here : a.place ≡ k = omega (arith, e) in
    (subst (λ cs. HasTaken cs y z) (sym (at_its_place k a [] here)) h, taken_earlier (k + 1) a ys (omega (arith, e)))
taken_at k (suc at) a (y ∷ ys) d z e l h =
    let other : (a.place == k) ≡ false = grind (arith, nat_tests, e) in
    (subst (λ cs. HasTaken cs y y) (sym (at_another k a [] other)) (takes_none y), taken_at (k + 1) at a ys d z (omega (arith, e)) (omega (arith, l)) h)

pub taken_here : (a : Placed) (ys : List Applied) (d z : Applied) → a.place < length ys → HasTaken (a.answer ∷ []) (get_or ys a.place d) z → HaveTaken 0 (a ∷ []) ys (slice_set ys a.place z)
taken_here a ys d z l h = taken_at 0 a.place a ys d z (omega arith) l h

pub as_many : (k : ℕ) (answers : List Placed) (xs ys : List Applied) → HaveTaken k answers xs ys → length ys ≡ length xs
as_many k answers [] [] h = refl
as_many k answers [] (y ∷ ys) h = absurd h
as_many k answers (x ∷ xs) [] h = absurd h
as_many k answers (x ∷ xs) (y ∷ ys) h = ap suc (as_many (k + 1) answers xs ys h.1)

pub rules_stay : (k : ℕ) (answers : List Placed) (xs ys : List Applied) → HaveTaken k answers xs ys → rules_of ys ≡ rules_of xs
rules_stay k answers [] [] h = refl
rules_stay k answers [] (y ∷ ys) h = absurd h
rules_stay k answers (x ∷ xs) [] h = absurd h
rules_stay k answers (x ∷ xs) (y ∷ ys) h = ap₂ (λ (r : PlainRule) rs. r ∷ rs) (ap (λ (r : Bor Rule). plain_rule r.now) h.0.rule) (rules_stay (k + 1) answers xs ys h.1)

-- once none is left, all were taken
pub none_left : {X : Type 0} (xs ys all : List X) → xs ++ ys ≡ all → length ys ≡ 0 → xs ≡ all
none_left xs [] all e n = sym (append-nil xs) ∙ e
none_left xs (y ∷ ys) all e n = absurd (omega (arith, n))
