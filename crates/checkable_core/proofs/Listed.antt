-- Lists of entries and of checkables.
use Rattle.std.proofs.Common.{max, ◌≡◌, ℕ, zero, suc, ◌+◌, ◌<◌, ◌≤◌, List, [], ◌∷◌, ◌++◌, All, length, map, reverse, slice_get, take, drop, get_or, Some, Result, Ok, Err, Bool, true, false, refl, sym, ap, ◌∙◌, arith, subst}
use Rattle.std.proofs.lemmas.List.{reverse-append}
use Rattle.std.proofs.lemmas.List.Elements.{All-cons, All-head, All-nil, All-tail, All-weaker}
use Rattle.std.proofs.lemmas.Option.{slice_get-get_or}
use Rattle.std.specs.Prelude.{OnOk}
use Rattle.site_model.specs.PlainSite.{PlainCheck, check_view}
use Rattle.site_model.specs.declared.check_spec.CheckSpec.{CheckSpec}
use Rattle.site_model.specs.declared.entry.Entry.{Entry}
use Rattle.run_meaning.specs.Dealing.{last_moment}
use Rattle.run_meaning.specs.Runs.{greatest_of}
use Rattle.run_meaning.proofs.Lists.{take_next}
use Rattle.notify_rules.specs.Sent.{Follows, NeverFall}
use Rattle.notify_rules.proofs.Lists.{drop_next}
use Rattle.checkable_core.specs.Contents.{check_or}
use Rattle.checkable_core.specs.Histories.{Rises}
use Rattle.checkable_core.specs.Keeping.{moves_downtimes}
use Rattle.notify_rules.specs.Case.{gives_kinds, has_any}
use Rattle.site_model.specs.declared.event.Event.{Event}
use Rattle.site_model.specs.declared.event.Event.TheVariants as event
use Rattle.site_model.specs.declared.view.View.{View}

-- Checkables.

pub check_is : (cs : List PlainCheck) (k : ℕ) → k < length cs → slice_get cs k ≡ Some (check_or (slice_get cs k))
check_is [] k h = absurd (omega (arith, h))
check_is (c ∷ cs) zero h = refl
check_is (c ∷ cs) (suc k) h = check_is cs k (omega (arith, h))

pub spec_is : (cs : List CheckSpec) (k : ℕ) (d : CheckSpec) → k < length cs → check_view (get_or cs k d) ≡ check_or (slice_get (map check_view cs) k)
spec_is [] k d h = absurd (omega (arith, h))
spec_is (c ∷ cs) zero d h = refl
spec_is (c ∷ cs) (suc k) d h = spec_is cs k d (omega (arith, h))

pub length_map : {A B : Type 0} (f : A → B) (xs : List A) → length (map f xs) ≡ length xs
length_map f [] = refl
length_map f (x ∷ xs) = ap suc (length_map f xs)

-- Entries, the newest first.

pub back_of : (h : List Entry) (e : Entry) → reverse (h ++ e ∷ []) ≡ e ∷ reverse h
back_of h e = reverse-append h (e ∷ [])

length_more : {A : Type 0} (xs : List A) (x : A) → length (xs ++ x ∷ []) ≡ length xs + 1
length_more [] x = refl
length_more (y ∷ ys) x = let n : length (ys ++ x ∷ []) ≡ length ys + 1 = length_more ys x in omega (arith, n)

length_turned : {A : Type 0} (xs : List A) → length (reverse xs) ≡ length xs
length_turned [] = refl
length_turned (x ∷ xs) =
    let turned : reverse (x ∷ xs) ≡ reverse xs ++ x ∷ [] = reverse-append (x ∷ []) xs in
    let n : length (reverse xs ++ x ∷ []) ≡ length (reverse xs) + 1 = length_more (reverse xs) x in
    let m : length (reverse xs) ≡ length xs = length_turned xs in
    ap length turned ∙ omega (arith, n, m)

-- how many there are with one more
pub count_more : (h : List Entry) (e : Entry) → length (reverse (h ++ e ∷ [])) ≡ 1 + length h
count_more h e =
    let n : length (h ++ e ∷ []) ≡ length h + 1 = length_more h e in
    length_turned (h ++ e ∷ []) ∙ omega (arith, n)

-- Moments.

pub last_more : (h : List Entry) (e : Entry) → last_moment (h ++ e ∷ []) ≡ e.moment
last_more [] e = refl
last_more (x ∷ []) e = refl
last_more (x ∷ y ∷ ys) e = last_more (y ∷ ys) e

abbrev newest : List Entry → ℕ
newest [] = 0
newest (e ∷ back) = e.moment

newest_behind : (back : List Entry) (e x : Entry) → newest (back ++ e ∷ x ∷ []) ≡ newest (back ++ e ∷ [])
newest_behind [] e x = refl
newest_behind (y ∷ ys) e x = refl

last_is : (h : List Entry) → last_moment h ≡ newest (reverse h)
last_is [] = refl
last_is (x ∷ []) = refl
last_is (x ∷ y ∷ ys) =
    let once : reverse (y ∷ ys) ≡ reverse ys ++ y ∷ [] = reverse-append (y ∷ []) ys in
    let twice : reverse (x ∷ y ∷ ys) ≡ reverse ys ++ y ∷ x ∷ [] = reverse-append (x ∷ y ∷ []) ys in
    last_is (y ∷ ys) ∙ ap newest once ∙ sym (newest_behind (reverse ys) y x) ∙ sym (ap newest twice)

newest_is_last : (back : List Entry) (m : ℕ) → NeverFall back → newest back ≤ m → All (λ x. x.moment ≤ m) back
newest_is_last [] m order h = All-nil (λ x. x.moment ≤ m)
newest_is_last (e ∷ back) m order h =
    All-cons (λ x. x.moment ≤ m) e back h (All-weaker (λ x. x.moment ≤ e.moment) (λ x. x.moment ≤ m) (λ x l. omega (arith, l, h)) back order.0)

-- an entry that isn't before the last one is before none
pub follows : (h : List Entry) (e : Entry) → NeverFall (reverse h) → last_moment h ≤ e.moment → Follows e (reverse h)
follows h e order late = let at : newest (reverse h) ≡ last_moment h = sym (last_is h) in newest_is_last (reverse h) e.moment order (omega (arith, at, late))

-- The greatest moment.

greatest_within : (es : List Entry) (m : ℕ) → All (λ x. x.moment ≤ m) es → greatest_of es ≤ m
greatest_within [] m h = omega arith
greatest_within (e ∷ es) m h =
    let first = All-head (λ x. x.moment ≤ m) e es h in
    let rest = greatest_within es m (All-tail (λ x. x.moment ≤ m) e es h) in
    omega (arith, first, rest)

greatest_newest : (back : List Entry) → NeverFall back → greatest_of back ≡ newest back
greatest_newest [] order = refl
greatest_newest (e ∷ back) order = let least = greatest_within back e.moment order.0 in omega (arith, least)

greatest_more : (es : List Entry) (e : Entry) → greatest_of (es ++ e ∷ []) ≡ max e.moment (greatest_of es)
greatest_more [] e = refl
greatest_more (x ∷ es) e = let more = greatest_more es e in omega (arith, more)

greatest_turned : (es : List Entry) → greatest_of (reverse es) ≡ greatest_of es
greatest_turned [] = refl
greatest_turned (e ∷ es) = ap greatest_of (reverse-append (e ∷ []) es) ∙ greatest_more (reverse es) e ∙ ap (max e.moment) (greatest_turned es)

-- where moments don't fall, the last one is the greatest
pub greatest_is_last : (h : List Entry) → NeverFall (reverse h) → greatest_of h ≡ last_moment h
greatest_is_last h order = sym (greatest_turned h) ∙ greatest_newest (reverse h) order ∙ sym (last_is h)

-- Entries one after the other.

pub rises_next : (from i : ℕ) (es : List Entry) (d : Entry) → Rises from (drop i es) → i < length es → (from ≤ (get_or es i d).moment) × Rises (get_or es i d).moment (drop (i + 1) es)
rises_next from i es d h l = subst (Rises from) (drop_next i es d l) h

pub take_more : (i : ℕ) (es : List Entry) (d : Entry) → i < length es → take (i + 1) es ≡ take i es ++ get_or es i d ∷ []
take_more i es d l =
    let next : i + 1 ≡ suc i = omega arith in
    ap (λ n. take n es) next ∙ take_next es i (get_or es i d) (slice_get-get_or es i d l)

pub take_all : (i : ℕ) (es : List Entry) → length es ≤ i → take i es ≡ es
take_all zero [] l = refl
take_all zero (e ∷ es) l = absurd (omega (arith, l))
take_all (suc i) [] l = refl
take_all (suc i) (e ∷ es) l = ap (λ xs. e ∷ xs) (take_all i es (omega (arith, l)))

-- Answers of calls.

pub on_ok : {T E : Type 0} (P Q : Type 0) → (P → Q) → (r : Result T E) → OnOk r P → OnOk r Q
on_ok P Q step (Ok x) h = step h
on_ok P Q step (Err e) h = tt

pub nothing_in : {X : Type 0} (xs : List X) → has_any xs ≡ false → xs ≡ []
nothing_in [] h = refl
nothing_in (x ∷ xs) h = absurd cc

-- an event that gives some kind of notification moves no downtime
pub stays : (before after : View) (v : Event) (taken : Bool) → gives_kinds before after v taken ≡ true → moves_downtimes v ≡ false
stays before after (event.Result status passive output perf) taken h = refl
stays before after event.Tick taken h = refl
stays before after (event.Ack sticky notify) taken h = refl
stays before after event.Unack taken h = refl
stays before after (event.Down start finish fixed duration) true h = absurd cc
stays before after (event.Down start finish fixed duration) false h = absurd cc
stays before after (event.Undown number) true h = absurd cc
stays before after (event.Undown number) false h = absurd cc
stays before after (event.Checks on) taken h = refl
stays before after (event.Notes on) taken h = refl
stays before after (event.Check at forced) taken h = refl
