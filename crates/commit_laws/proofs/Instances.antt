-- The items that a rule makes of one target have the target's number, and keys that rise.
use Rattle.std.proofs.Common.{◌≡◌, ◌<◌, ◌+◌, ℕ, List, [], ◌∷◌, ◌++◌, cond, Bool, true, false, refl, ap, arith}
use Rattle.std.specs.List.{AllByRecursion}
use Rattle.site_base.specs.Quoted.{quoted}
use Rattle.site_base.specs.declared.diag_kind.DiagKind.TheVariants.{BadName}
use Rattle.eval_meaning.specs.Registered.{PlainItem, PlainRule}
use Rattle.eval_meaning.specs.Registration.{is_good_name}
use Rattle.eval_meaning.specs.States.{State, Outcome, gives, faults, blocked, rule}
use Rattle.eval_meaning.specs.Views.{View}
use Rattle.commit_meaning.specs.Answers.{all_made, answered}
use Rattle.commit_meaning.specs.Conditions.{Verdict, no_verdict, judged, is_kept}
use Rattle.commit_meaning.specs.Names.{Target, target_no, target_number, target_names}
use Rattle.commit_meaning.specs.Rules.{Element, in_rule, back_at, place_by, instance, named_instance, unless_dropped, element_judged, element_run, elements_run, elements_of, prefix, first_number, rule_run, pair_number, instances}
use Rattle.commit_meaning.specs.Starts.{Trees, fresh, values_of, trees_at}
use Rattle.commit_meaning.specs.Waves.{item_number}
use Rattle.commit_meaning.proofs.ItemTypes.{Gives}
use Rattle.commit_meaning.proofs.Lists.{AllLater, all_imp, all_append, later_append}
use Rattle.commit_laws.proofs.Apart.{Differ, later_imp}
use Rattle.commit_laws.proofs.Told.{gives_bind, any_bind}

-- an item has the number of a rule at a target, and the key of its element
pub record IsAt (r : PlainRule) (t : Target) (i : PlainItem) : Type 0 where
  pub item : i.number.item ≡ r.number.item
  pub target : i.number.target ≡ target_no (target_number t)

abbrev KeyRises : PlainItem → PlainItem → Type 0
KeyRises i j = i.number.key < j.number.key

-- items whose keys rise, all below the next one
record AreKeyed (r : PlainRule) (t : Target) (k : ℕ) (is : List PlainItem) : Type 0 where
  all : AllByRecursion (λ i. IsAt r t i × (i.number.key < k)) is
  rise : AllLater KeyRises is

-- the item of one element, or none
record IsOne (r : PlainRule) (t : Target) (k : ℕ) (is : List PlainItem) : Type 0 where
  all : AllByRecursion (λ i. IsAt r t i × (i.number.key ≡ k)) is
  rise : AllLater KeyRises is

module _ (r : PlainRule) (t : Target) where
  none_of : (k : ℕ) → IsOne r t k []
  none_of k = record { all = tt; rise = tt }

  named_one : (k : ℕ) (name : List ℕ) (names : Trees) (s : State) → Gives (IsOne r t k) (named_instance r t k name names s)
  named_one k name names s = by (is_good_name name)
    where
      by : (b : Bool) → Gives (IsOne r t k) (cond b (gives (instance r t k name names ∷ []) s) (faults (place_by r r.loop) BadName (quoted name) s.reads))
      by true = record { all = ((record { item = refl; target = refl }, refl), tt); rise = (tt, tt) }
      by false = tt

  kept_one : (k : ℕ) (e : Element) (names : Trees) (v : Verdict) (s : State) → Gives (IsOne r t k) (unless_dropped r t k e names v s)
  kept_one k e names v s = by (is_kept r.body v)
    where
      by : (b : Bool) → Gives (IsOne r t k) (cond b (named_instance r t k (prefix r.name ++ e.key) names s) (gives [] s))
      by true = named_one k (prefix r.name ++ e.key) names s
      by false = none_of k

  -- one more behind those with lower keys
  more : (k : ℕ) (is js : List PlainItem) → AreKeyed r t k is → IsOne r t k js → AreKeyed r t (k + 1) (is ++ js)
  more k is js h g = record {
    all = all_append (λ i. IsAt r t i × (i.number.key < k + 1)) is js (all_imp (λ i. IsAt r t i × (i.number.key < k)) (λ i. IsAt r t i × (i.number.key < k + 1)) (λ i p. (p.0, higher i p.1)) is h.all) (all_imp (λ i. IsAt r t i × (i.number.key ≡ k)) (λ i. IsAt r t i × (i.number.key < k + 1)) (λ i p. (p.0, next i p.1)) js g.all);
    rise = later_append KeyRises is js h.rise g.rise (all_imp (λ i. IsAt r t i × (i.number.key < k)) (λ i. AllByRecursion (KeyRises i) js) (λ i p. all_imp (λ j. IsAt r t j × (j.number.key ≡ k)) (KeyRises i) (λ j q. below i j p.1 q.1) js g.all) is h.all);
  }
    where
      higher : (i : PlainItem) → i.number.key < k → i.number.key < k + 1
      higher i p = omega (arith, p)

      next : (i : PlainItem) → i.number.key ≡ k → i.number.key < k + 1
      next i p = omega (arith, p)

      below : (i j : PlainItem) → i.number.key < k → j.number.key ≡ k → i.number.key < j.number.key
      below i j p q = omega (arith, p, q)

  module _ (view : View) where
    judged_one : (k : ℕ) (e : Element) (names : Trees) (s : State) → Gives (IsOne r t k) (element_judged view r t k e names s)
    judged_one k e names s = any_bind (IsOne r t k) (values_of names [] s) _ (λ bound s1. any_bind (IsOne r t k) (judged view r.body no_verdict (in_rule r.captured bound s1)) _ (λ v s2. kept_one k e names v s2))

    element_one : (k : ℕ) (e : Element) (s : State) → Gives (IsOne r t k) (element_run view r t k e s)
    element_one k e s = any_bind (IsOne r t k) (trees_at r.place e.bound [] s) _ (λ own s1. judged_one k e (target_names t ++ own) s1)

    -- the items are at the target, and their keys rise
    abbrev AreApart : List PlainItem → Type 0
    AreApart is = AllByRecursion (IsAt r t) is × AllLater KeyRises is

    elements_apart : (before : State) (k : ℕ) (es : List Element) (is : List PlainItem) (s : State) → AreKeyed r t k is → Gives AreApart (elements_run view r t before k es is s)
    elements_apart before k [] is s h = (all_imp (λ i. IsAt r t i × (i.number.key < k)) (IsAt r t) (λ i p. p.0) is h.all, h.rise)
    elements_apart before k (e ∷ es) is s h =
        gives_bind (IsOne r t k) AreApart (element_run view r t k e (back_at before s)) _ (element_one k e (back_at before s)) (λ js s1 g. elements_apart before (k + 1) es (is ++ js) s1 (more k is js h g))

    run_apart : Gives AreApart (rule_run view r t)
    unfolding rule_run
    run_apart = any_bind AreApart (elements_of view r (target_names t) r.loop (fresh view.store rule [])) _ (λ es s. elements_apart s (first_number r.loop) es [] s (record { all = tt; rise = tt }))

    made_apart : AreApart (all_made (instances view r t))
    unfolding instances
    made_apart = by (rule_run view r t) run_apart
      where
        by : (x : Outcome (List PlainItem)) → Gives AreApart x → AreApart (all_made (answered (pair_number r t) x))
        by (gives is s) h = h
        by (faults l k x rs) h = (tt, tt)
        by (blocked q rs) h = (tt, tt)

    pub instances_at : AllByRecursion (IsAt r t) (all_made (instances view r t))
    instances_at = made_apart.0

    pub instances_differ : AllLater (Differ item_number) (all_made (instances view r t))
    instances_differ = later_imp KeyRises (Differ item_number) (λ i j lt e. absurd (lower i j lt (ap (λ n. n.key) e))) (all_made (instances view r t)) made_apart.1
      where
        lower : (i j : PlainItem) → i.number.key < j.number.key → i.number.key ≡ j.number.key → ⊥
        lower i j lt e = omega (arith, lt, e)
