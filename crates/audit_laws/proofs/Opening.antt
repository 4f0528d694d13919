-- The order of each checkable behind a block is the one that is outstanding behind its turn.
use Rattle.std.proofs.Common.{◌≡◌, ◌≢◌, ◌<◌, ◌≤◌, ◌+◌, ◌||◌, ℕ, zero, suc, List, [], ◌∷◌, ◌++◌, length, get_or, map, slice_set, nat_eq, cond, Bool, true, false, Option, Some, None, refl, sym, ap, ◌∙◌, subst, arith, true≢false, ◌⊎◌, inl, inr}
use Rattle.std.specs.List.{AllByRecursion, list_any}
use Rattle.std.proofs.lemmas.List.{get_or-set_same, get_or-set_other, length-set}
use Rattle.site_model.specs.declared.entry.Entry.{Entry}
use Rattle.site_model.specs.declared.event.Event.{Event}
use Rattle.site_model.specs.declared.event.Event.TheVariants as event
use Rattle.run_meaning.specs.Dealing.{checkable_of}
use Rattle.run_meaning.specs.Runs.{due_of, due_with}
use Rattle.run_meaning.specs.Schedule.{is_waiting}
use Rattle.run_meaning.specs.Turns.{Command, Histories, Ordered, Outstanding, from_on, missing, of_index, words}
use Rattle.run_meaning.proofs.Lookback.{given}
use Rattle.run_meaning.proofs.Outstanding.{AreSingle}
use Rattle.run_meaning.proofs.Outstanding as run
use Rattle.site_audit.specs.LogLines.{is_missing}
use Rattle.site_audit.specs.Order.{stands}
use Rattle.site_audit.specs.Telling.{after_entries, after_entry, after_order, after_orders, is_report}
use Rattle.audit_laws.specs.Types.{EntryLine, Open, OrderLine}
use Rattle.audit_laws.specs.Rereported.{orders_of}
use Rattle.audit_laws.specs.Retaken.{lines_from}
use Rattle.audit_laws.proofs.EventFacts.{all_imply}
use Rattle.audit_laws.proofs.Giving.{number_of}
use Rattle.audit_laws.proofs.Lacking.{numbers_low}
use Rattle.audit_laws.proofs.Ordering.{eq_is, is_eq}

some_same : {A : Type 0} (x y : A) → Some x ≡ Some y → x ≡ y
some_same x y e = cc

differs : (a b : ℕ) → nat_eq a b ≡ false → a ≢ b
differs a b h e = true≢false (sym (is_eq a b e) ∙ h)

turned : (a b : ℕ) → nat_eq a b ≡ false → nat_eq b a ≡ false
turned a b h = by (nat_eq b a) refl
  where
    by : (t : Bool) → nat_eq b a ≡ t → t ≡ false
    by true q = absurd (true≢false (sym (is_eq a b (sym (eq_is b a q))) ∙ h))
    by false q = refl

-- an order has the line of its number, its checkable, and whether a macro is missing
abbrev pub order_line : Ordered → OrderLine
order_line o = record { number = o.number; checkable = o.checkable; missing = is_missing o.command }

-- ---- orders among others

left_false : (a b : Bool) → (a || b) ≡ false → a ≡ false
left_false true b h = h
left_false false b h = refl

right_false : (a b : Bool) → (a || b) ≡ false → b ≡ false
right_false true b h = absurd (true≢false h)
right_false false b h = h

waits_behind : (os ps : List Outstanding) (c : ℕ) → is_waiting (os ++ ps) c ≡ false → is_waiting ps c ≡ false
waits_behind [] ps c h = h
waits_behind (o ∷ os) ps c h = waits_behind os ps c (right_false (nat_eq o.checkable c) (is_waiting (os ++ ps) c) h)

none_behind : (os ps : List Outstanding) (n : ℕ) → checkable_of n (os ++ ps) ≡ None → checkable_of n ps ≡ None
none_behind [] ps n h = h
none_behind (o ∷ os) ps n h = by (nat_eq o.order n) h (none_behind os ps n)
  where
    by : (t : Bool) → cond t (Some o.checkable) (checkable_of n (os ++ ps)) ≡ None → (checkable_of n (os ++ ps) ≡ None → checkable_of n ps ≡ None) → checkable_of n ps ≡ None
    by true e again = absurd cc
    by false e again = again e

single_behind : (os ps : List Outstanding) → AreSingle (os ++ ps) → AreSingle ps
single_behind [] ps h = h
single_behind (o ∷ os) ps h = single_behind os ps h.2

-- of what stands ahead neither the checkable nor the order stands behind
pub ahead_waits : (os ps : List Outstanding) (n c : ℕ) → AreSingle (os ++ ps) → checkable_of n os ≡ Some c → is_waiting ps c ≡ false
ahead_waits [] ps n c h e = absurd cc
ahead_waits (o ∷ os) ps n c h e = by (nat_eq o.order n) e (ahead_waits os ps n c h.2)
  where
    by : (t : Bool) → cond t (Some o.checkable) (checkable_of n os) ≡ Some c → (checkable_of n os ≡ Some c → is_waiting ps c ≡ false) → is_waiting ps c ≡ false
    by true f again = ap (is_waiting ps) (sym (some_same o.checkable c f)) ∙ waits_behind os ps o.checkable h.0
    by false f again = again f

pub ahead_none : (os ps : List Outstanding) (n c : ℕ) → AreSingle (os ++ ps) → checkable_of n os ≡ Some c → checkable_of n ps ≡ None
ahead_none [] ps n c h e = absurd cc
ahead_none (o ∷ os) ps n c h e = by (nat_eq o.order n) refl e (ahead_none os ps n c h.2)
  where
    by : (t : Bool) → nat_eq o.order n ≡ t → cond t (Some o.checkable) (checkable_of n os) ≡ Some c → (checkable_of n os ≡ Some c → checkable_of n ps ≡ None) → checkable_of n ps ≡ None
    by true q f again = ap (λ m. checkable_of m ps) (sym (eq_is o.order n q)) ∙ none_behind os ps o.order h.1
    by false q f again = again f

pub behind_single : (os ps : List Outstanding) → AreSingle (os ++ ps) → AreSingle ps
behind_single os ps h = single_behind os ps h

-- an order that is there is ahead or behind
pub either_there : (os ps : List Outstanding) (n c : ℕ) → checkable_of n (os ++ ps) ≡ Some c → (checkable_of n os ≡ Some c) ⊎ (checkable_of n ps ≡ Some c)
either_there [] ps n c h = inr h
either_there (o ∷ os) ps n c h = by (nat_eq o.order n) h (either_there os ps n c)
  where
    by : (t : Bool) → cond t (Some o.checkable) (checkable_of n (os ++ ps)) ≡ Some c → (checkable_of n (os ++ ps) ≡ Some c → (checkable_of n os ≡ Some c) ⊎ (checkable_of n ps ≡ Some c)) → (cond t (Some o.checkable) (checkable_of n os) ≡ Some c) ⊎ (checkable_of n ps ≡ Some c)
    by true f again = inl f
    by false f again = again f

-- ---- the checkables' orders behind entries

-- whether entries have a report's result
abbrev pub reports_in : List Entry → Bool
reports_in es = list_any (λ e. run.is_report e.event) es

abbrev IsOther : ℕ → EntryLine → Type 0
IsOther c x = is_report x.entry.event ≡ true → x.checkable ≡ c → ⊥

same_report : (e : Event) → is_report e ≡ run.is_report e
same_report (event.Result status true output perf) = refl
same_report (event.Result status false output perf) = refl
same_report event.Tick = refl
same_report (event.Ack sticky notify) = refl
same_report event.Unack = refl
same_report (event.Down start end fixed duration) = refl
same_report (event.Undown number) = refl
same_report (event.Checks on) = refl
same_report (event.Notes on) = refl
same_report (event.Check moment forced) = refl

all_behind : {A : Type 0} (P : A → Type 0) (xs ys : List A) → AllByRecursion P xs → AllByRecursion P ys → AllByRecursion P (xs ++ ys)
all_behind P [] ys h g = g
all_behind P (x ∷ xs) ys h g = (h.0, all_behind P xs ys h.1 g)

others_of : (k c : ℕ) (es : List Entry) → (k ≡ c → reports_in es ≡ false) → AllByRecursion (IsOther c) (map (λ e. record { checkable = k; entry = e }) es)
others_of k c [] h = tt
others_of k c (e ∷ es) h = (
  λ q same. true≢false (sym q ∙ (same_report e.event ∙ left_false (run.is_report e.event) (reports_in es) (h same))),
  others_of k c es (λ same. right_false (run.is_report e.event) (reports_in es) (h same)),
)

others_in : (k c : ℕ) (round : Histories) → ((j : ℕ) → k + j ≡ c → reports_in (of_index j round) ≡ false) → AllByRecursion (IsOther c) (lines_from k round)
others_in k c [] h = tt
others_in k c (es ∷ round) h =
    all_behind (IsOther c) (map (λ e. record { checkable = k; entry = e }) es) (lines_from (suc k) round)
    (others_of k c es (λ same. let z : k + 0 ≡ k = omega arith in h 0 (z ∙ same)))
    (others_in (suc k) c round (λ j same. let z : k + suc j ≡ suc k + j = omega arith in h (suc j) (z ∙ same)))

kept_where_other : (xs : List EntryLine) (opens : List (Option Open)) (c : ℕ) → AllByRecursion (IsOther c) xs → get_or (after_entries opens xs) c None ≡ get_or opens c None
kept_where_other [] opens c h = refl
kept_where_other (x ∷ xs) opens c h = kept_where_other xs (after_entry opens x) c h.1 ∙ by (is_report x.entry.event) refl
  where
    by : (t : Bool) → is_report x.entry.event ≡ t → get_or (cond t (slice_set opens x.checkable None) opens) c None ≡ get_or opens c None
    by true q = get_or-set_other opens x.checkable c None None (λ e. h.0 q (sym e))
    by false q = refl

-- what no report's result ends stays
pub entries_keep : (round : Histories) (opens : List (Option Open)) (c : ℕ) → reports_in (of_index c round) ≡ false → get_or (after_entries opens (lines_from 0 round)) c None ≡ get_or opens c None
entries_keep round opens c h =
    kept_where_other (lines_from 0 round) opens c (others_in 0 c round (λ j same. let z : 0 + j ≡ j = omega arith in ap (λ m. reports_in (of_index m round)) (sym z ∙ same) ∙ h))

pub entries_long : (xs : List EntryLine) (opens : List (Option Open)) → length (after_entries opens xs) ≡ length opens
entries_long [] opens = refl
entries_long (x ∷ xs) opens = entries_long xs (after_entry opens x) ∙ by (is_report x.entry.event)
  where
    by : (t : Bool) → length (cond t (slice_set opens x.checkable None) opens) ≡ length opens
    by true = length-set opens x.checkable None
    by false = refl

-- each order that is left was there
abbrev AllOpen : (Open → Type 0) → List (Option Open) → Type 0
AllOpen P opens = AllByRecursion (λ o. (p : Open) → o ≡ Some p → P p) opens

all_set : (P : Open → Type 0) (opens : List (Option Open)) (k : ℕ) (o : Option Open) → ((p : Open) → o ≡ Some p → P p) → AllOpen P opens → AllOpen P (slice_set opens k o)
all_set P [] k o f h = tt
all_set P (x ∷ opens) zero o f h = (f, h.1)
all_set P (x ∷ opens) (suc k) o f h = (h.0, all_set P opens k o f h.1)

entries_all : (P : Open → Type 0) (xs : List EntryLine) (opens : List (Option Open)) → AllOpen P opens → AllOpen P (after_entries opens xs)
entries_all P [] opens h = h
entries_all P (x ∷ xs) opens h = entries_all P xs (after_entry opens x) (by (is_report x.entry.event))
  where
    by : (t : Bool) → AllOpen P (cond t (slice_set opens x.checkable None) opens)
    by true = all_set P opens x.checkable None (λ p e. absurd cc) h
    by false = h

-- ---- and behind orders

abbrev lines_of_orders : List Ordered → List OrderLine
lines_of_orders os = map order_line os

orders_all : (P : Open → Type 0) (os : List Ordered) (opens : List (Option Open)) → AllByRecursion (λ o. (m : Bool) → P (record { number = o.number; missing = m })) os → AllOpen P opens → AllOpen P (after_orders opens (lines_of_orders os))
orders_all P [] opens f h = h
orders_all P (o ∷ os) opens f h =
    orders_all P os (after_order opens (order_line o)) f.1
    (all_set P opens o.checkable (Some (record { number = o.number; missing = is_missing o.command })) (λ p e. subst P (some_same (record { number = o.number; missing = is_missing o.command }) p e) (f.0 (is_missing o.command))) h)

pub orders_long : (os : List Ordered) (opens : List (Option Open)) → length (after_orders opens (lines_of_orders os)) ≡ length opens
orders_long [] opens = refl
orders_long (o ∷ os) opens = orders_long os (after_order opens (order_line o)) ∙ length-set opens o.checkable (Some (record { number = o.number; missing = is_missing o.command }))

-- what no order is of stays
pub orders_keep : (os : List Ordered) (opens : List (Option Open)) (c : ℕ) → is_waiting (map given os) c ≡ false → get_or (after_orders opens (lines_of_orders os)) c None ≡ get_or opens c None
orders_keep [] opens c h = refl
orders_keep (o ∷ os) opens c h =
    orders_keep os (after_order opens (order_line o)) c (right_false (nat_eq o.checkable c) (is_waiting (map given os) c) h)
    ∙ get_or-set_other opens o.checkable c (Some (record { number = o.number; missing = is_missing o.command })) None (λ e. differs o.checkable c (left_false (nat_eq o.checkable c) (is_waiting (map given os) c) h) (sym e))

-- whether a macro is missing for an order, by its number
abbrev lacks : List Ordered → ℕ → Bool
lacks os n = stands (orders_of (due_of os)) n

lacks_none : (os : List Ordered) (n : ℕ) → checkable_of n (map given os) ≡ None → lacks os n ≡ false
lacks_none [] n h = refl
lacks_none (o ∷ os) n h = by (nat_eq o.number n) refl h o.command (lacks_none os n)
  where
    by : (t : Bool) → nat_eq o.number n ≡ t → cond t (Some o.checkable) (checkable_of n (map given os)) ≡ None → (command : Command) → (checkable_of n (map given os) ≡ None → lacks os n ≡ false) → stands (orders_of (due_with o.number command (due_of os))) n ≡ false
    by true q e command again = absurd cc
    by false q e (words ws) again = again e
    by false q e (missing name) again = ap (λ t. t || lacks os n) (turned o.number n q) ∙ again e

pub none_lacks : (os : List Ordered) (n : ℕ) → checkable_of n (map given os) ≡ None → stands (orders_of (due_of os)) n ≡ false
none_lacks os n h = lacks_none os n h

-- each order that is given is the one of its checkable
pub orders_open : (os : List Ordered) (opens : List (Option Open)) (n c : ℕ) → AreSingle (map given os) → AllByRecursion (λ o. o.checkable < length opens) os → checkable_of n (map given os) ≡ Some c
    → get_or (after_orders opens (lines_of_orders os)) c None ≡ Some (record { number = n; missing = stands (orders_of (due_of os)) n })
orders_open [] opens n c single inside h = absurd cc
orders_open (o ∷ os) opens n c single inside h = by (nat_eq o.number n) refl h (orders_open os later n c single.2 (wider inside.1))
  where
    own : Option Open
    own = Some (record { number = o.number; missing = is_missing o.command })

    later : List (Option Open)
    later = slice_set opens o.checkable own

    long : length later ≡ length opens
    long = length-set opens o.checkable own

    lacking : nat_eq o.number n ≡ true → (command : Command) → stands (orders_of (due_with o.number command (due_of os))) n ≡ is_missing command
    lacking q (words ws) = lacks_none os n (ap (λ m. checkable_of m (map given os)) (sym (eq_is o.number n q)) ∙ single.1)
    lacking q (missing name) = ap (λ t. t || lacks os n) (is_eq n o.number (sym (eq_is o.number n q)))

    not_lacking : nat_eq o.number n ≡ false → (command : Command) → stands (orders_of (due_with o.number command (due_of os))) n ≡ lacks os n
    not_lacking q (words ws) = refl
    not_lacking q (missing name) = ap (λ t. t || lacks os n) (turned o.number n q)

    wider : AllByRecursion (λ o. o.checkable < length opens) os → AllByRecursion (λ o. o.checkable < length later) os
    wider g = all_imply (λ (o : Ordered). o.checkable < length opens) (λ o. o.checkable < length later) (λ o lt. omega (arith, lt, long)) os g

    by : (t : Bool) → nat_eq o.number n ≡ t → cond t (Some o.checkable) (checkable_of n (map given os)) ≡ Some c
        → (checkable_of n (map given os) ≡ Some c → get_or (after_orders later (lines_of_orders os)) c None ≡ Some (record { number = n; missing = lacks os n }))
        → get_or (after_orders later (lines_of_orders os)) c None ≡ Some (record { number = n; missing = stands (orders_of (due_with o.number o.command (due_of os))) n })
    by true q e again =
        let here = some_same o.checkable c e in
        orders_keep os later c (ap (is_waiting (map given os)) (sym here) ∙ single.0)
        ∙ (ap (λ k. get_or later k None) (sym here)
        ∙ (get_or-set_same opens o.checkable own None inside.0
        ∙ (ap (λ m. Some (record { number = m; missing = is_missing o.command })) (eq_is o.number n q)
        ∙ ap (λ m. Some (record { number = n; missing = m })) (sym (lacking q o.command)))))
    by false q e again = again e ∙ ap (λ m. Some (record { number = n; missing = m })) (sym (not_lacking q o.command))

-- ---- numbers

abbrev pub AreUpTo : ℕ → List (Option Open) → Type 0
AreUpTo g opens = AllByRecursion (λ o. (p : Open) → o ≡ Some p → p.number ≤ g) opens

pub numbers_after : (g : ℕ) (xs : List EntryLine) (os : List Ordered) (opens : List (Option Open)) → map number_of os ≡ from_on (g + 1) (length os) → AreUpTo g opens → AreUpTo (g + length os) (after_orders (after_entries opens xs) (lines_of_orders os))
numbers_after g xs os opens e h =
    orders_all (λ p. p.number ≤ g + length os) os (after_entries opens xs)
    (all_imply (λ o. o.number ≤ g + length os) (λ o. (m : Bool) → o.number ≤ g + length os) (λ o le m. le) os (numbers_low g os e))
    (entries_all (λ p. p.number ≤ g + length os) xs opens (all_imply (λ o. (p : Open) → o ≡ Some p → p.number ≤ g) (λ o. (p : Open) → o ≡ Some p → p.number ≤ g + length os) (λ o f p q. let le = f p q in omega (arith, le)) opens h))

pub number_at : (g : ℕ) (opens : List (Option Open)) (c : ℕ) (o : Open) → AreUpTo g opens → get_or opens c None ≡ Some o → o.number ≤ g
number_at g [] c o h e = absurd cc
number_at g (x ∷ opens) zero o h e = h.0 o e
number_at g (x ∷ opens) (suc c) o h e = number_at g opens c o h.1 e

pub inside_given : (many : ℕ) (os : List Ordered) (n c : ℕ) → AllByRecursion (λ o. o.checkable < many) os → checkable_of n (map given os) ≡ Some c → c < many
inside_given many [] n c h e = absurd cc
inside_given many (o ∷ os) n c h e = by (nat_eq o.number n) e (inside_given many os n c h.1)
  where
    by : (t : Bool) → cond t (Some o.checkable) (checkable_of n (map given os)) ≡ Some c → (checkable_of n (map given os) ≡ Some c → c < many) → c < many
    by true f again = let g = some_same o.checkable c f in let lt = h.0 in omega (arith, g, lt)
    by false f again = again f
