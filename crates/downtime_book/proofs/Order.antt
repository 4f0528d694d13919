-- Downtimes at their places, and the order in which a book holds them: by when they end.
use Rattle.std.proofs.Common.{◌≡◌, ℕ, ◌+◌, ◌≤◌, ◌<◌, Bool, true, false, not, ◌||◌, nat_le, zero, suc, cond, List, [], ◌∷◌, length, get_or, set, drop, filter, insert, Option, Some, None, Result, Ok, Err, OnOk, refl, sym, ap, ◌∙◌, subst, arith}
use Rattle.std.specs.Option.{is_some}
use Rattle.std.specs.Result.{is_err}
use Rattle.std.specs.List.{list_any}
use Rattle.std.specs.List.Sorted.{IsNonDecreasingBy, IsPartitionedBy, IsPartitionPoint}
use Rattle.std.proofs.lemmas.Bool.{true≢false, lt-ltb, le-ltb, ltb-false, leb-true, leb-false, not-true, not_from_false}
use Rattle.std.proofs.lemmas.List.{drop-set, length-map}
use Rattle.std.proofs.lemmas.List.Sorted.{IsNonDecreasingBy-insert}
use Rattle.downtime_book.specs.declared.downtime.Downtime.{Downtime}
use Rattle.downtime_book.specs.declared.kind.Kind.{Kind}
use Rattle.downtime_book.specs.Downtime.{until, is_live}
use Rattle.downtime_book.specs.declared.placed.Placed.{Placed}
use Rattle.downtime_book.specs.Contents.{IsInOrder}
use Rattle.downtime_book.specs.Firsts.{AreTold, downtimes_of, firsts_of}
use Rattle.downtime_book.proofs.Lists.{filter_from_point}
use Rattle.downtime_book.specs.Calls.{downtime_of}

abbrev pub is_past : ℕ → Downtime → Bool
is_past m d = not (is_live m d)

twice : (b : Bool) → b ≡ not (not b)
twice true = refl
twice false = refl

-- ---- downtimes at their places
pub downtimes_of-filter : (t : Downtime → Bool) (ps : List Placed) → downtimes_of (filter (λ p. t p.downtime) ps) ≡ filter t (downtimes_of ps)
downtimes_of-filter t [] = refl
downtimes_of-filter t (p ∷ ps) =
    let more = downtimes_of-filter t ps in
    elim (t p.downtime) as (λ b. downtimes_of (cond b (p ∷ filter (λ p. t p.downtime) ps) (filter (λ p. t p.downtime) ps)) ≡ cond b (p.downtime ∷ filter t (downtimes_of ps)) (filter t (downtimes_of ps)))
    [ true ↦ ap (λ (l : List Downtime). p.downtime ∷ l) more | false ↦ more ]

pub at_place : (ps : List Placed) (i : ℕ) (p : Placed) → get_or (downtimes_of ps) i p.downtime ≡ (get_or ps i p).downtime
at_place [] i p = refl
at_place (q ∷ ps) zero p = refl
at_place (q ∷ ps) (suc i) p = at_place ps i p

abbrev AreInOrder : List Placed → Type 0
AreInOrder ps = IsNonDecreasingBy (λ p. until p.downtime) ps

pub placed_in_order : (ps : List Placed) → IsInOrder (downtimes_of ps) → AreInOrder ps
placed_in_order ps h = λ i j p le lt.
    let a = ap until (at_place ps i p) in
    let b = ap until (at_place ps j p) in
    let long = length-map ps (λ (p : Placed). p.downtime) in
    omega (arith, a, b, h i j p.downtime le (omega (arith, long, lt)))

pub downtimes_in_order : (ps : List Placed) → AreInOrder ps → IsInOrder (downtimes_of ps)
downtimes_in_order ps h = λ i j d le lt.
    let p : Placed = record { downtime = d; firsts = firsts_of [] } in
    let a = ap until (at_place ps i p) in
    let b = ap until (at_place ps j p) in
    let long = length-map ps (λ (p : Placed). p.downtime) in
    omega (arith, a, b, h i j p le (omega (arith, long, lt)))

-- each that is told stays so among those from a place on
pub AreTold-drop : (k : ℕ) (ps : List Placed) → AreTold ps → AreTold (drop k ps)
AreTold-drop zero ps h = h
AreTold-drop (suc k) [] h = tt
AreTold-drop (suc k) (p ∷ ps) h = AreTold-drop k ps h.1

pub told_at : (ps : List Placed) (k : ℕ) (p : Placed) → AreTold ps → k < length ps → (get_or ps k p).firsts ≡ firsts_of (downtimes_of (drop k ps))
told_at [] k p h l = absurd (omega arith)
told_at (q ∷ ps) zero p h l = h.0
told_at (q ∷ ps) (suc k) p h l = told_at ps k p h.1 (omega arith)

pub drop_whole : (ps : List Placed) → drop (length ps) ps ≡ []
drop_whole [] = refl
drop_whole (p ∷ ps) = drop_whole ps

pub same_at : (ps : List Placed) (i : ℕ) (p q : Placed) → i < length ps → get_or ps i p ≡ get_or ps i q
same_at [] i p q h = absurd (omega arith)
same_at (x ∷ ps) zero p q h = refl
same_at (x ∷ ps) (suc i) p q h = same_at ps i p q (omega arith)

-- one more is told, in front of those that are
pub tell_more : (ps : List Placed) (place n : ℕ) (y : Placed) → n + 1 ≡ place → n < length ps → y.firsts ≡ firsts_of (y.downtime ∷ downtimes_of (drop place ps)) → AreTold (drop place ps) → (y.firsts ≡ firsts_of (downtimes_of (drop n (set ps n y)))) × AreTold (drop n (set ps n y))
tell_more ps place n y next h f told =
    let e : drop n (set ps n y) ≡ y ∷ drop place ps = drop-set ps n y h ∙ ap (λ (k : ℕ). y ∷ drop k ps) next in
    (f ∙ ap (λ (l : List Placed). firsts_of (downtimes_of l)) (sym e), subst AreTold (sym e) (f, told))

-- the past ones come first
pub past_first : (m : ℕ) (ps : List Placed) → IsInOrder (downtimes_of ps) → IsPartitionedBy (λ p. is_past m p.downtime) ps
past_first m ps up = λ i j p le lt e.
    let ended = ltb-false m _ (not-true _ e) in
    let later = placed_in_order ps up i j p le lt in
    not_from_false _ (le-ltb m _ (omega (arith, ended, later)))

pub live_from : (m : ℕ) (ps : List Placed) (k : ℕ) → IsPartitionPoint (λ p. is_past m p.downtime ≡ true) (λ p. is_past m p.downtime ≡ false) ps k → k ≤ length ps → downtimes_of (drop k ps) ≡ filter (is_live m) (downtimes_of ps)
live_from m ps k point u =
    ap downtimes_of (filter_from_point (λ (p : Placed). is_past m p.downtime) (λ (p : Placed). is_live m p.downtime) (λ p. twice (is_live m p.downtime)) ps k point u) ∙ downtimes_of-filter (is_live m) ps

-- a downtime goes in behind those that end no later
pub insert_in_order : (ps : List Placed) (place : ℕ) (one : Placed) (last : ℕ) → last ≡ until one.downtime → IsInOrder (downtimes_of ps) → place ≤ length ps → IsPartitionPoint (λ p. nat_le (until p.downtime) last ≡ true) (λ p. nat_le (until p.downtime) last ≡ false) ps place → IsInOrder (downtimes_of (insert ps place one))
insert_in_order ps place one last e up u point =
    downtimes_in_order _ (IsNonDecreasingBy-insert (λ (p : Placed). until p.downtime) ps place one (placed_in_order ps up) u
    (λ k x b. let h = leb-true _ last (point.0 k x (omega arith) b) in omega (arith, h, e))
    (λ k x a b. let h = leb-false _ last (point.1 k x a b) in omega (arith, h, e)))

pub any_placed : (t : Downtime → Bool) (ps : List Placed) → list_any (λ p. t p.downtime) ps ≡ list_any t (downtimes_of ps)
any_placed t [] = refl
any_placed t (p ∷ ps) = ap (λ (b : Bool). t p.downtime || b) (any_placed t ps)

-- ---- answers
pub not_err : {A E : Type 0} (r : Result A E) (P : Type 0) → OnOk r P → is_err r ≡ false → P
not_err (Ok x) P h e = h
not_err (Err x) P h e = absurd (true≢false e)

pub none_of : {A : Type 0} (o : Option A) → is_some o ≡ false → o ≡ None
none_of None e = refl
none_of (Some x) e = absurd (true≢false e)

-- what one answer has brings what another has
pub on_answer : {A E : Type 0} (r : Result A E) (P Q : Type 0) → OnOk r P → (P → Q) → OnOk r Q
on_answer (Ok x) P Q p f = f p
on_answer (Err x) P Q p f = tt

-- a downtime of this kind
abbrev pub with_kind : ℕ → ℕ → ℕ → Kind → Downtime
with_kind n s e k = record { number = n; start = s; «end» = e; kind = k }

-- a new downtime is past at its end
pub until-new : (n s e : ℕ) (f : Bool) (d : ℕ) → until (downtime_of n s e f d []) ≡ e
until-new n s e true d = refl
until-new n s e false d = refl

pub live-new : (n s e : ℕ) (f : Bool) (d m : ℕ) → m < e → is_live m (downtime_of n s e f d []) ≡ true
live-new n s e true d m h = lt-ltb m e h
live-new n s e false d m h = lt-ltb m e h

pub past-new : (n s e : ℕ) (f : Bool) (d m : ℕ) → e ≤ m → is_live m (downtime_of n s e f d []) ≡ false
past-new n s e true d m h = le-ltb m e h
past-new n s e false d m h = le-ltb m e h
