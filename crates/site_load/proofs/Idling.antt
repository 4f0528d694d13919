-- Apply rules that make no object.
use Rattle.std.proofs.Common.{◌≡◌, ℕ, List, [], ◌∷◌, ◌++◌, Bool, true, false, not, ◌||◌, cond, map, filter, nat_eq, refl, sym, ap, ◌∙◌, subst, eqb-true}
use Rattle.std.specs.List.{list_any}
use Rattle.std.proofs.lemmas.List.Folds.{list_any-append}
use Rattle.object_lists.specs.Receivers.{with_new}
use Rattle.site_model.specs.PlainSite.{PlainObject}
use Rattle.eval_meaning.specs.Registered.{PlainRule}
use Rattle.commit_meaning.specs.Commits.{Committed, site, refused}
use Rattle.site_model.specs.PlainSite.{PlainSite}
use Rattle.site_load.specs.Idle.{comes_from, idle_after, idle_among, idle_by, idle_marked, idle_places, is_idle, mark_of, source_of}
use Rattle.site_load.specs.declared.idle.Mark.{Mark}

or_false : (a : Bool) → (a || false) ≡ a
or_false true = refl
or_false false = refl

or_true : (a : Bool) → (a || true) ≡ true
or_true true = refl
or_true false = refl

or_together : (a b c : Bool) → ((a || b) || c) ≡ (a || (b || c))
or_together true b c = refl
or_together false b c = refl

-- a number is found once another was added if that wasn't there
any_added : (n m : ℕ) (ks : List ℕ) → list_any (nat_eq n) (cond (list_any (nat_eq m) ks) ks (ks ++ m ∷ [])) ≡ (list_any (nat_eq n) ks || nat_eq n m)
any_added n m ks = by (list_any (nat_eq m) ks) refl (nat_eq n m) refl
  where
    by : (t : Bool) → list_any (nat_eq m) ks ≡ t → (u : Bool) → nat_eq n m ≡ u → list_any (nat_eq n) (cond t ks (ks ++ m ∷ [])) ≡ (list_any (nat_eq n) ks || u)
    by true q true e = subst (λ z. list_any (nat_eq z) ks ≡ true) (sym (eqb-true n m e)) q ∙ sym (or_true (list_any (nat_eq n) ks))
    by true q false e = sym (or_false (list_any (nat_eq n) ks))
    by false q u e = list_any-append (nat_eq n) ks (m ∷ []) ∙ ap (λ b. list_any (nat_eq n) ks || b) (or_false (nat_eq n m) ∙ e)

any_new : (n : ℕ) (ks ns : List ℕ) → list_any (nat_eq n) (with_new ks ns) ≡ (list_any (nat_eq n) ks || list_any (nat_eq n) ns)
any_new n ks [] = sym (or_false (list_any (nat_eq n) ks))
any_new n ks (m ∷ ns) =
    any_new n (cond (list_any (nat_eq m) ks) ks (ks ++ m ∷ [])) ns
    ∙ ap (λ b. b || list_any (nat_eq n) ns) (any_added n m ks)
    ∙ or_together (list_any (nat_eq n) ks) (nat_eq n m) (list_any (nat_eq n) ns)

any_source : (n : ℕ) (os : List PlainObject) → list_any (nat_eq n) (map source_of os) ≡ list_any (comes_from n) os
any_source n [] = refl
any_source n (o ∷ os) = ap (λ b. nat_eq n o.number.item || b) (any_source n os)

-- the numbers that objects come from tell which rules are idle
pub idle_by_sources : (ms : List Mark) (os : List PlainObject) → idle_among ms (with_new [] (map source_of os)) ≡ idle_marked ms os
idle_by_sources [] os = refl
idle_by_sources (m ∷ ms) os =
    ap (λ b. map (λ m. m.place) (cond (not b) (m ∷ kept) kept)) (any_new m.item [] (map source_of os) ∙ any_source m.item os)
    ∙ by (not (list_any (comes_from m.item) os)) (idle_by_sources ms os)
  where
    kept : List Mark
    kept = filter (λ m. not (list_any (nat_eq m.item) (with_new [] (map source_of os)))) ms

    by : (b : Bool) → idle_among ms (with_new [] (map source_of os)) ≡ idle_marked ms os → map (λ m. m.place) (cond b (m ∷ kept) kept)
        ≡ map (λ m. m.place) (cond b (m ∷ filter (λ m. not (list_any (comes_from m.item) os)) ms) (filter (λ m. not (list_any (comes_from m.item) os)) ms))
    by true rest = ap (λ ps. m.place ∷ ps) rest
    by false rest = rest

-- what is kept of rules tells it as they do
marked : (rs : List PlainRule) (os : List PlainObject) → idle_marked (map mark_of rs) os ≡ idle_places rs os
marked [] os = refl
marked (r ∷ rs) os = by (not (list_any (comes_from r.number.item) os)) (marked rs os)
  where
    by : (b : Bool) → idle_marked (map mark_of rs) os ≡ idle_places rs os → map (λ m. m.place) (cond b (mark_of r ∷ filter (λ m. not (list_any (comes_from m.item) os)) (map mark_of rs)) (filter (λ m. not (list_any (comes_from m.item) os)) (map mark_of rs)))
        ≡ map (λ r. r.place) (cond b (r ∷ filter (is_idle os) rs) (filter (is_idle os) rs))
    by true rest = ap (λ ps. r.place ∷ ps) rest
    by false rest = rest

pub idle_as_marked : (rs : List PlainRule) (c : Committed PlainSite) → idle_after (map mark_of rs) c ≡ idle_by rs c
idle_as_marked rs (site s) = marked rs s.objects
idle_as_marked rs (refused list) = refl
