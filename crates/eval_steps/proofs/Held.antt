-- What the values name that an evaluation holds.
use Rattle.std.proofs.Common.{◌≡◌, ℕ, zero, suc, ◌+◌, List, [], ◌∷◌, ◌++◌, drop, Bool, true, false, map, sym, ap, ◌∙◌, subst, arith}
use Rattle.dsl_value.specs.Pairs.{Pairs}
use Rattle.dsl_value.specs.Contents.{Contents}
use Rattle.dsl_value.specs.declared.value.Value.{Value}
use Rattle.eval_work.specs.Kept.{Named, NamedAll, PairsNamed, IsKept, AreKept, ArePairsKept}
use Rattle.eval_work.specs.declared.work.Work.{Work}
use Rattle.eval_work.proofs.Later.{names_later, all_later, pairs_later, later_later}
use Rattle.eval_meaning.specs.Calls.{own_value}
use Rattle.eval_meaning.specs.declared.callee.Callee.{Callee}
use Rattle.eval_meaning.specs.declared.callee.Callee.TheVariants as callees
use Rattle.eval_work.specs.Kept.{CalleeNamed}
use Rattle.eval_steps.specs.Frames.{called_of}
use Rattle.eval_steps.specs.Named.{CalledNamed}
use Rattle.eval_steps.specs.Visiting.{with_item}
use Rattle.eval_steps.specs.Loops.{element_turn, pair_turn}
use Rattle.eval_steps.specs.Named.{TurnsNamed}

one_more : (c : Contents) (vs : List Value) (v : Value) → NamedAll c vs → Named c v → NamedAll c (vs ++ v ∷ [])
one_more c [] v a h = (h, tt)
one_more c (w ∷ vs) v a h = (a.0, one_more c vs v a.1 h)

one_pair_more : (c : Contents) (ps : Pairs) (n : List ℕ) (v : Value) → PairsNamed c ps → Named c v → PairsNamed c (ps ++ (n, v) ∷ [])
one_pair_more c [] n v a h = (h, tt)
one_pair_more c (p ∷ ps) n v a h = (a.0, one_pair_more c ps n v a.1 h)

pub kept_pushed : (old mid new : Work) (vs ws : List Value) (v : Value) → AreKept old mid vs → IsKept mid new v → ws ≡ vs ++ v ∷ [] → AreKept old new ws
kept_pushed old mid new vs ws v a k e = record {
  fit = k.fit;
  later = later_later old.store mid.store new.store a.later k.later;
  named = subst (NamedAll new.store) (sym e) (one_more new.store vs v (all_later mid.store new.store vs k.later a.named) k.named);
}

maybe_more : (c : Contents) (b : Bool) (x : Value) (vs : List Value) → NamedAll c vs → Named c x → NamedAll c (with_item b x vs)
maybe_more c true x vs a h = one_more c vs x a h
maybe_more c false x vs a h = a

-- an element more, where it is kept
pub kept_filtered : (old mid new : Work) (vs ws : List Value) (v x : Value) (b : Bool) → AreKept old mid vs → IsKept mid new v → Named mid.store x → ws ≡ with_item b x vs → AreKept old new ws
kept_filtered old mid new vs ws v x b a k h e = record {
  fit = k.fit;
  later = later_later old.store mid.store new.store a.later k.later;
  named = subst (NamedAll new.store) (sym e) (maybe_more new.store b x vs (all_later mid.store new.store vs k.later a.named) (names_later mid.store new.store x k.later h));
}

pub pairs_pushed : (old mid new : Work) (ps qs : Pairs) (n : List ℕ) (v : Value) → ArePairsKept old mid ps → IsKept mid new v → qs ≡ ps ++ (n, v) ∷ [] → ArePairsKept old new qs
pairs_pushed old mid new ps qs n v a k e = record {
  fit = k.fit;
  later = later_later old.store mid.store new.store a.later k.later;
  named = subst (PairsNamed new.store) (sym e) (one_pair_more new.store ps n v (pairs_later mid.store new.store ps k.later a.named) k.named);
}

-- an element of a list
pub named_at : (c : Contents) (xs : List Value) (i : ℕ) (x : Value) → NamedAll c xs → drop i xs ≡ x ∷ drop (i + 1) xs → Named c x
named_at c [] i x h e = absurd (no_more i e)
  where
    no_more : (i : ℕ) → drop i [] ≡ x ∷ drop (i + 1) [] → ⊥
    no_more zero e = cc
    no_more (suc i) e = cc
named_at c (y ∷ xs) zero x h e =
    let same : y ≡ x = cc in
    subst (Named c) same h.0
named_at c (y ∷ xs) (suc i) x h e = named_at c xs i x h.1 (e ∙ ap (λ k. x ∷ drop k (y ∷ xs)) more)
  where
    more : suc i + 1 ≡ suc (i + 1)
    more = omega arith

-- ---- frames

-- ---- turns of a `for`

pub elements_named : (c : Contents) (vs : List Value) → NamedAll c vs → TurnsNamed c (map element_turn vs)
elements_named c [] h = tt
elements_named c (v ∷ vs) h = (record { first = h.0; second = tt }, elements_named c vs h.1)

pub pairs_named : (c : Contents) (ps : Pairs) → PairsNamed c ps → TurnsNamed c (map pair_turn ps)
pairs_named c [] h = tt
pairs_named c (p ∷ ps) h = (record { first = tt; second = h.0 }, pairs_named c ps h.1)

-- ---- calls

pub own_named : (c : Contents) (f : Callee) → CalleeNamed c f → NamedAll c (own_value f)
own_named c (callees.Value v this) h = tt
own_named c (callees.Function f) h = tt
own_named c (callees.Method f v) h = (h, tt)

pub called_named : (c : Contents) (f : Callee) → CalleeNamed c f → CalledNamed c (called_of f)
called_named c (callees.Value v this) h = h
called_named c (callees.Function f) h = tt
called_named c (callees.Method f v) h = tt
