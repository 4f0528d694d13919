-- What a load registers is of the types, and numbered as it is registered.
use Rattle.std.proofs.Common.{◌≡◌, ◌≢◌, ◌<◌, ◌≤◌, ◌+◌, ℕ, List, [], ◌∷◌, ◌++◌, length, Bool, true, false, cond, refl, sym, ap, subst, arith, length-append}
use Rattle.std.specs.Prelude.{nat_lt, ◌-◌}
use Rattle.std.specs.List.{AllByRecursion}
use Rattle.site_base.specs.Data.{Data}
use Rattle.site_base.specs.declared.diag_kind.DiagKind.TheVariants.{SpaceLimit}
use Rattle.site_base.specs.declared.place.Place.{Place}
use Rattle.dsl_value.specs.Loads.{cost}
use Rattle.dsl_value.specs.declared.value.Value.{Value}
use Rattle.eval_meaning.specs.Load.{load_run, load_start, load_view, loaded as load_of, most_open}
use Rattle.eval_meaning.specs.Objects.{loaded, read, seen, with_read, with_tree}
use Rattle.eval_meaning.specs.Registered.{PlainFile, PlainItem, PlainRule}
use Rattle.eval_meaning.specs.Registration.{changed, loading, loading_of}
use Rattle.eval_meaning.specs.States as states
use Rattle.eval_meaning.specs.States.{Loading, Outcome, State, Task, gives, faults, blocked, ◌>>=◌, done, fault}
use Rattle.eval_meaning.specs.Steps as change
use Rattle.eval_meaning.specs.Steps.{IsStep, framed, counted, charged, made, function_kept, written_to, loaded_to, Registers}
use Rattle.eval_meaning.specs.Views.{View, Sight, shown, absent, undecided, sight, host, service}
use Rattle.eval_meaning.specs.declared.read.Read.{Read}
use Rattle.eval_meaning.proofs.Every.{IsRule, P, every_load}
use Rattle.commit_meaning.proofs.Lists.{AllLater, all_append, all_imp, later_append, pairs_from_later}
use Rattle.commit_laws.specs.Registered.{IsRegistered, IsRegisteredItem, IsRegisteredRule, GivesRegistered}

abbrev count : Loading → ℕ
count m = length m.items + length m.rules

abbrev ItemRises : PlainItem → PlainItem → Type 0
ItemRises i j = i.number.item < j.number.item

abbrev RuleRises : PlainRule → PlainRule → Type 0
RuleRises r q = r.number.item < q.number.item

abbrev IsApart : List PlainRule → PlainItem → Type 0
IsApart rs i = AllByRecursion (λ r. i.number.item ≢ r.number.item) rs

-- what is true of what a load has come to: numbers go up to how many items and rules there are
record Holds (m : Loading) : Type 0 where
  items : AllByRecursion IsRegisteredItem m.items
  rules : AllByRecursion IsRegisteredRule m.rules
  items_up_to : AllByRecursion (λ i. i.number.item ≤ count m) m.items
  rules_up_to : AllByRecursion (λ r. r.number.item ≤ count m) m.rules
  items_rise : AllLater ItemRises m.items
  rules_rise : AllLater RuleRises m.rules
  apart : AllByRecursion (IsApart m.rules) m.items

-- ---- one item or rule more

module _ {A : Type 0} where
  each_of_one : (P : A → Type 0) (R : A → A → Type 0) (a : A) (xs : List A) → ((x : A) → P x → R x a) → AllByRecursion P xs → AllByRecursion (λ x. AllByRecursion (R x) (a ∷ [])) xs
  each_of_one P R a xs f h = all_imp P (λ x. AllByRecursion (R x) (a ∷ [])) (λ x p. (f x p, tt)) xs h

one_longer : {A : Type 0} (xs : List A) (a : A) → length (xs ++ a ∷ []) ≡ length xs + 1
one_longer xs a = length-append xs (a ∷ [])

item_added : (m n : Loading) (i : PlainItem) → n.items ≡ m.items ++ i ∷ [] → n.rules ≡ m.rules → IsRegisteredItem i → i.number.item ≡ 1 + count m → Holds m → Holds n
item_added m n i e f own at h = record {
  items = subst (AllByRecursion IsRegisteredItem) (sym e) (all_append IsRegisteredItem m.items (i ∷ []) h.items (own, tt));
  rules = subst (AllByRecursion IsRegisteredRule) (sym f) h.rules;
  items_up_to = subst (AllByRecursion (λ j. j.number.item ≤ count n)) (sym e) (all_append (λ j. j.number.item ≤ count n) m.items (i ∷ []) (all_imp (λ j. j.number.item ≤ count m) (λ j. j.number.item ≤ count n) (λ j le. up j.number.item le) m.items h.items_up_to) (last, tt));
  rules_up_to = subst (AllByRecursion (λ r. r.number.item ≤ count n)) (sym f) (all_imp (λ r. r.number.item ≤ count m) (λ r. r.number.item ≤ count n) (λ r le. up r.number.item le) m.rules h.rules_up_to);
  items_rise = subst (AllLater ItemRises) (sym e) (later_append ItemRises m.items (i ∷ []) h.items_rise (tt, tt) (each_of_one (λ j. j.number.item ≤ count m) ItemRises i m.items (λ j le. below j.number.item le) h.items_up_to));
  rules_rise = subst (AllLater RuleRises) (sym f) h.rules_rise;
  apart = subst (λ rs. AllByRecursion (IsApart rs) n.items) (sym f) (subst (AllByRecursion (IsApart m.rules)) (sym e) (all_append (IsApart m.rules) m.items (i ∷ []) h.apart (all_imp (λ r. r.number.item ≤ count m) (λ r. i.number.item ≢ r.number.item) (λ r le k. differs r.number.item le k) m.rules h.rules_up_to, tt)));
}
  where
    more : count n ≡ 1 + count m
    more = let a = ap length e in let b = ap length f in let c = one_longer m.items i in omega (arith, a, b, c)

    up : (k : ℕ) → k ≤ count m → k ≤ count n
    up k le = omega (arith, le, more)

    last : i.number.item ≤ count n
    last = omega (arith, at, more)

    below : (k : ℕ) → k ≤ count m → k < i.number.item
    below k le = omega (arith, le, at)

    differs : (k : ℕ) → k ≤ count m → i.number.item ≡ k → ⊥
    differs k le e = omega (arith, le, at, e)

rule_added : (m n : Loading) (r : PlainRule) → n.items ≡ m.items → n.rules ≡ m.rules ++ r ∷ [] → IsRegisteredRule r → r.number.item ≡ 1 + count m → Holds m → Holds n
rule_added m n r e f own at h = record {
  items = subst (AllByRecursion IsRegisteredItem) (sym e) h.items;
  rules = subst (AllByRecursion IsRegisteredRule) (sym f) (all_append IsRegisteredRule m.rules (r ∷ []) h.rules (own, tt));
  items_up_to = subst (AllByRecursion (λ j. j.number.item ≤ count n)) (sym e) (all_imp (λ j. j.number.item ≤ count m) (λ j. j.number.item ≤ count n) (λ j le. up j.number.item le) m.items h.items_up_to);
  rules_up_to = subst (AllByRecursion (λ q. q.number.item ≤ count n)) (sym f) (all_append (λ q. q.number.item ≤ count n) m.rules (r ∷ []) (all_imp (λ q. q.number.item ≤ count m) (λ q. q.number.item ≤ count n) (λ q le. up q.number.item le) m.rules h.rules_up_to) (last, tt));
  items_rise = subst (AllLater ItemRises) (sym e) h.items_rise;
  rules_rise = subst (AllLater RuleRises) (sym f) (later_append RuleRises m.rules (r ∷ []) h.rules_rise (tt, tt) (each_of_one (λ q. q.number.item ≤ count m) RuleRises r m.rules (λ q le. below q.number.item le) h.rules_up_to));
  apart = subst (λ rs. AllByRecursion (IsApart rs) n.items) (sym f) (subst (AllByRecursion (IsApart (m.rules ++ r ∷ []))) (sym e) (apart_more m.items h.apart h.items_up_to));
}
  where
    more : count n ≡ 1 + count m
    more = let a = ap length e in let b = ap length f in let c = one_longer m.rules r in omega (arith, a, b, c)

    up : (k : ℕ) → k ≤ count m → k ≤ count n
    up k le = omega (arith, le, more)

    last : r.number.item ≤ count n
    last = omega (arith, at, more)

    below : (k : ℕ) → k ≤ count m → k < r.number.item
    below k le = omega (arith, le, at)

    differs : (k : ℕ) → k ≤ count m → k ≡ r.number.item → ⊥
    differs k le g = omega (arith, le, at, g)

    apart_more : (js : List PlainItem) → AllByRecursion (IsApart m.rules) js → AllByRecursion (λ j. j.number.item ≤ count m) js → AllByRecursion (IsApart (m.rules ++ r ∷ [])) js
    apart_more [] a b = tt
    apart_more (j ∷ js) a b = (all_append (λ q. j.number.item ≢ q.number.item) m.rules (r ∷ []) a.0 (differs j.number.item b.0, tt), apart_more js a.1 b.1)

-- ---- steps

-- the same items and rules
same_ones : (m n : Loading) → n.items ≡ m.items → n.rules ≡ m.rules → Holds m → Holds n
same_ones m n e f h = record {
  items = subst (AllByRecursion IsRegisteredItem) (sym e) h.items;
  rules = subst (AllByRecursion IsRegisteredRule) (sym f) h.rules;
  items_up_to = subst (AllByRecursion (λ j. j.number.item ≤ count n)) (sym e) (all_imp (λ j. j.number.item ≤ count m) (λ j. j.number.item ≤ count n) (λ j le. up j.number.item le) m.items h.items_up_to);
  rules_up_to = subst (AllByRecursion (λ r. r.number.item ≤ count n)) (sym f) (all_imp (λ r. r.number.item ≤ count m) (λ r. r.number.item ≤ count n) (λ r le. up r.number.item le) m.rules h.rules_up_to);
  items_rise = subst (AllLater ItemRises) (sym e) h.items_rise;
  rules_rise = subst (AllLater RuleRises) (sym f) h.rules_rise;
  apart = subst (λ rs. AllByRecursion (IsApart rs) n.items) (sym f) (subst (AllByRecursion (IsApart m.rules)) (sym e) h.apart);
}
  where
    up : (k : ℕ) → k ≤ count m → k ≤ count n
    up k le = let a = ap length e in let b = ap length f in omega (arith, le, a, b)

registered : (m n : Loading) → Registers m n → Holds m → Holds n
registered m n (change.ordered order) h = same_ones m n refl refl h
registered m n (change.constant name) h = same_ones m n refl refl h
registered m n (change.template l kind name ps b) h = same_ones m n refl refl h
registered m n (change.object view l kind name ps b known) h = item_added m n _ refl refl (record { known = known; number = refl }) refl h
registered m n (change.rule l kind name to each ps b known goes) h = rule_added m n _ refl refl (record { known = known; target = goes }) refl h

changed_holds : (f : Loading → Loading) → ((m : Loading) → Registers m (f m)) → (t : Task) → Holds (loading_of t) → Holds (loading_of (changed f t))
changed_holds f own (states.load m) h = registered m (f m) (own m) h
changed_holds f own (states.item kind bound) h = h
changed_holds f own states.rule h = h

step_holds : (s t : State) → IsStep s t → Holds (loading s) → Holds (loading t)
step_holds s t (framed this locals in_file) h = h
step_holds s t (counted some) h = h
step_holds s t (charged n le) h = h
step_holds s t (made n c paid le) h = h
step_holds s t (function_kept f) h = h
step_holds s t (written_to n k c le above kind) h = h
step_holds s t (loaded_to f own) h = changed_holds f own s.task h

-- ---- outcomes

abbrev Keeps : {A : Type 0} → State → Outcome A → Type 0
Keeps s (gives a t) = Holds (loading s) → Holds (loading t)
Keeps s (faults l k t rs) = Unit {0}
Keeps s (blocked r rs) = Unit {0}

steps : {A : Type 0} (s t : State) (x : Outcome A) → IsStep s t → Keeps t x → Keeps s x
steps s t (gives a u) m h = λ g. h (step_holds s t m g)
steps s t (faults l k d rs) m h = tt
steps s t (blocked r rs) m h = tt

binds : {A B : Type 0} (s : State) (x : Outcome A) (f : A → State → Outcome B) → Keeps s x → ((a : A) (t : State) → Keeps t (f a t)) → Keeps s (x >>= f)
binds s (gives a t) f h k = on (f a t) (k a t)
  where
    on : {B : Type 0} (y : Outcome B) → Keeps t y → Keeps s y
    on (gives b u) g = λ e. g (h e)
    on (faults l j d rs) g = tt
    on (blocked r rs) g = tt
binds s (faults l j d rs) f h k = tt
binds s (blocked r rs) f h k = tt

loaded_keeps : (l : Place) (d : Data) (s : State) → Keeps s (loaded l d s)
loaded_keeps l d s = by (nat_lt s.space (cost d))
  where
    by : (b : Bool) → Keeps s (cond b (fault l SpaceLimit s) (done (record s { space = s.space - cost d })) >>= λ u s1. with_tree d s1)
    by true = tt
    by false = λ h. h

seen_keeps : (l : Place) (r : Read) (o : Sight) (s : State) → Keeps s (seen l r o s)
seen_keeps l r (shown d) s = on (loaded l d (with_read r s)) (loaded_keeps l d (with_read r s))
  where
    on : {B : Type 0} (y : Outcome B) → Keeps (with_read r s) y → Keeps s y
    on (gives b u) g = g
    on (faults l k d rs) g = tt
    on (blocked q rs) g = tt
seen_keeps l r absent s = λ h. h
seen_keeps l r undecided s = tt

read_keeps : (view : View) (l : Place) (r : Read) (s : State) → Keeps s (read view l r s)
unfolding read
read_keeps view l r s = seen_keeps l r (sight view r) s

-- ---- a load

keeping : (view : View) → IsRule view view
keeping view = record {
  P = λ s x y. Keeps s x;
  here = λ a s h. h;
  stops = λ A l k t s. tt;
  binds = λ s x y f g h k. binds s x f h k;
  steps = λ s t x y m h. steps s t x m h;
  hosts = λ l n s. read_keeps view l (host n) s;
  services = λ l h n s. read_keeps view l (service h n) s;
}

run_keeps : (files : List PlainFile) (order : List ℕ) → Keeps (load_start order) (load_run files order)
unfolding P keeping load_run
run_keeps files order = every_load (load_view files) (load_view files).objects (load_view files).absent (load_view files).whole (keeping (load_view files)) most_open order (load_start order)

first_holds : (order : List ℕ) → Holds (loading (load_start order))
first_holds order = record { items = tt; rules = tt; items_up_to = tt; rules_up_to = tt; items_rise = tt; rules_rise = tt; apart = tt }

is_registered : (s : State) → Holds (loading s) → IsRegistered (load_of s)
is_registered s h = record {
  items = h.items;
  rules = h.rules;
  items_rise = pairs_from_later ItemRises (loading s).items h.items_rise;
  rules_rise = pairs_from_later RuleRises (loading s).rules h.rules_rise;
  apart = h.apart;
}

pub load_registers : (files : List PlainFile) (order : List ℕ) → GivesRegistered (load_run files order)
load_registers files order = by (load_run files order) (run_keeps files order)
  where
    by : (x : Outcome Value) → Keeps (load_start order) x → GivesRegistered x
    by (gives v s) h = is_registered s (h (first_holds order))
    by (faults l k t rs) h = tt
    by (blocked r rs) h = tt
