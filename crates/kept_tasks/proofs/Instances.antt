-- A rule makes the same of a target whatever the numbers of both, and each instance stands where its rule does.
use Rattle.std.proofs.Common.{◌≡◌, ◌+◌, ℕ, List, [], ◌∷◌, ◌++◌, map, codes, Bool, true, false, cond, Option, Some, None, refl, sym, ap, ◌∙◌}
use Rattle.std.proofs.lemmas.List.{map-append}
use Rattle.site_base.specs.Data.{Data}
use Rattle.site_base.specs.Quoted.{quoted}
use Rattle.site_base.specs.declared.diag_kind.DiagKind.TheVariants.{BadName}
use Rattle.site_base.specs.declared.item_no.ItemNo.{ItemNo}
use Rattle.object_types.specs.declared.object_type.ObjectType.{ObjectType}
use Rattle.dsl_syntax.specs.Syntax.{Loop, loop}
use Rattle.eval_meaning.specs.Registered.{PlainItem, PlainRule, PlacedName}
use Rattle.eval_meaning.specs.Views.{View}
use Rattle.eval_meaning.specs.States.{State, Outcome, gives, faults, blocked, ◌>>=◌, rule}
use Rattle.eval_meaning.specs.Registration.{is_good_name}
use Rattle.commit_meaning.specs.Answers.{answered, made}
use Rattle.commit_meaning.specs.Starts.{Trees, fresh, values_of, trees_at}
use Rattle.commit_meaning.specs.Names.{Target, host, service, host_presets, own_name, behind_last, service_presets, target_names, target_presets}
use Rattle.commit_meaning.specs.Conditions.{Verdict, no_verdict, judged, is_kept}
use Rattle.commit_meaning.specs.Rules.{Element, in_rule, elements_of, back_at, prefix, name_place, place_by, instance, named_instance, unless_dropped, element_judged, element_run, elements_run, first_number, rule_run, pair_number, instances}
use Rattle.commit_order.proofs.Numbers.{given, next, then_given}
use Rattle.kept_tasks.specs.Bare.{bare_target}
use Rattle.kept_tasks.proofs.Carried.{read_in}

-- ---- targets without their numbers and places

abbrev Seen : Type 0
Seen = List ℕ × Data

one_seen : (x y : Seen) → x ∷ [] ≡ y ∷ [] → x ≡ y
one_seen x y h = cc

two_seen : (x y z w : Seen) → x ∷ y ∷ [] ≡ z ∷ w ∷ [] → (x ≡ z) × (y ≡ w)
two_seen x y z w h = (cc, cc)

not_both : (x y z : Seen) → x ∷ [] ≡ y ∷ z ∷ [] → ⊥
not_both x y z h = absurd cc

pub names_same : (t u : Target) → bare_target t ≡ bare_target u → target_names u ≡ target_names t
names_same (host h) (host g) e =
    let one = one_seen (h.name, h.tree) (g.name, g.tree) e in
    ap (λ (x : Seen). (codes "host", x.1) ∷ []) (sym one)
names_same (host h) (service g s) e = absurd (not_both (h.name, h.tree) (g.name, g.tree) (s.name, s.tree) e)
names_same (service h s) (host g) e = absurd (not_both (g.name, g.tree) (h.name, h.tree) (s.name, s.tree) (sym e))
names_same (service h s) (service g p) e =
    let two = two_seen (h.name, h.tree) (s.name, s.tree) (g.name, g.tree) (p.name, p.tree) e in
    ap (λ (x : Seen). (codes "host", x.1) ∷ (codes "service", p.tree) ∷ []) (sym two.0) ∙ ap (λ (x : Seen). (codes "host", h.tree) ∷ (codes "service", x.1) ∷ []) (sym two.1)

pub presets_same : (o : Option ObjectType) (t u : Target) → bare_target t ≡ bare_target u → target_presets o u ≡ target_presets o t
presets_same o (host h) (host g) e = ap (λ (x : Seen). host_presets o (behind_last [] x.0)) (sym (one_seen (h.name, h.tree) (g.name, g.tree) e))
presets_same o (host h) (service g s) e = absurd (not_both (h.name, h.tree) (g.name, g.tree) (s.name, s.tree) e)
presets_same o (service h s) (host g) e = absurd (not_both (g.name, g.tree) (h.name, h.tree) (s.name, s.tree) (sym e))
presets_same o (service h s) (service g p) e =
    let two = two_seen (h.name, h.tree) (s.name, s.tree) (g.name, g.tree) (p.name, p.tree) e in
    ap (λ (x : Seen). service_presets o (behind_last [] x.0) (own_name p)) (sym two.0) ∙ ap (λ (x : Seen). service_presets o (own_name h) (behind_last [] x.0)) (sym two.1)

-- ---- rules under another number

abbrev pub rule_numbered : ItemNo → PlainRule → PlainRule
rule_numbered n r = record r { number = n }

module _ (view : View) (r : PlainRule) (n : ItemNo) (t u : Target) (same : target_names u ≡ target_names t) (f : PlainItem → PlainItem)
    (is : (k : ℕ) (name : List ℕ) (names : Trees) → instance (rule_numbered n r) u k name names ≡ f (instance r t k name names)) where
  abbrev q : PlainRule
  q = rule_numbered n r

  name_place_same : (o : Option PlacedName) → name_place q o ≡ name_place r o
  name_place_same (Some x) = refl
  name_place_same None = refl

  place_same : (o : Option Loop) → place_by q o ≡ place_by r o
  place_same (Some (loop k o e)) = refl
  place_same None = name_place_same r.name

  elements_same : (names : Trees) (o : Option Loop) (s : State) → elements_of view q names o s ≡ elements_of view r names o s
  elements_same names (Some (loop k o e)) s = refl
  elements_same names None s = refl

  named_one : (k : ℕ) (name : List ℕ) (names : Trees) (s : State) → named_instance q u k name names s ≡ given (map f) (named_instance r t k name names s)
  named_one k name names s = by (is_good_name name)
    where
      by : (b : Bool) → cond b (gives (instance q u k name names ∷ []) s) (faults (place_by q r.loop) BadName (quoted name) s.reads) ≡ given (map f) (cond b (gives (instance r t k name names ∷ []) s) (faults (place_by r r.loop) BadName (quoted name) s.reads))
      by true = ap (λ i. gives (i ∷ []) s) (is k name names)
      by false = ap (λ l. faults l BadName (quoted name) s.reads) (place_same r.loop)

  kept_one : (k : ℕ) (e : Element) (names : Trees) (v : Verdict) (s : State) → unless_dropped q u k e names v s ≡ given (map f) (unless_dropped r t k e names v s)
  kept_one k e names v s = by (is_kept r.body v)
    where
      by : (b : Bool) → cond b (named_instance q u k (prefix r.name ++ e.key) names s) (gives [] s) ≡ given (map f) (cond b (named_instance r t k (prefix r.name ++ e.key) names s) (gives [] s))
      by true = named_one k (prefix r.name ++ e.key) names s
      by false = refl

  judges_one : (k : ℕ) (e : Element) (names : Trees) (s : State) → element_judged view q u k e names s ≡ given (map f) (element_judged view r t k e names s)
  judges_one k e names s =
      then_given (map f) (values_of names [] s) _ _ (λ bound s1. then_given (map f) (judged view r.body no_verdict (in_rule r.captured bound s1)) _ _ (λ v s2. kept_one k e names v s2))

  runs_one : (k : ℕ) (e : Element) (s : State) → element_run view q u k e s ≡ given (map f) (element_run view r t k e s)
  runs_one k e s =
      then_given (map f) (trees_at r.place e.bound [] s) _ _
      (λ own s1. ap (λ names. element_judged view q u k e (names ++ own) s1) same ∙ judges_one k e (target_names t ++ own) s1)

  runs_all : (before : State) (k : ℕ) (es : List Element) (is : List PlainItem) (s : State) → elements_run view q u before k es (map f is) s ≡ given (map f) (elements_run view r t before k es is s)
  runs_all before k [] is s = refl
  runs_all before k (e ∷ es) is s =
      next (map f) (map f) (element_run view r t k e (back_at before s)) (element_run view q u k e (back_at before s)) _ _ (runs_one k e (back_at before s))
      (λ js s1. ap (λ all. elements_run view q u before (k + 1) es all s1) (sym (map-append f is js)) ∙ runs_all before (k + 1) es (is ++ js) s1)

  runs : rule_run view q u ≡ given (map f) (rule_run view r t)
  unfolding rule_run
  runs =
      ap (λ names. elements_of view q names r.loop (fresh view.store rule []) >>= λ es s. elements_run view q u s (first_number r.loop) es [] s) same
      ∙ ap (λ x. x >>= λ es s. elements_run view q u s (first_number r.loop) es [] s) (elements_same (target_names t) r.loop (fresh view.store rule []))
      ∙ then_given (map f) (elements_of view r (target_names t) r.loop (fresh view.store rule [])) _ _ (λ es s. runs_all s (first_number r.loop) es [] s)

  by_run : (js : List PlainItem) (x : Outcome (List PlainItem)) → answered (pair_number r t) x ≡ made js → answered (pair_number q u) (given (map f) x) ≡ made (map f js)
  by_run js (gives a s) h = let one : a ≡ js = cc in ap (λ l. made (map f l)) one
  by_run js (faults l k x rs) h = absurd cc
  by_run js (blocked p rs) h = absurd cc

  -- the instances, each changed by the function
  pub instances_changed : (js : List PlainItem) → instances view r t ≡ made js → instances view q u ≡ made (map f js)
  unfolding instances
  instances_changed js h = ap (answered (pair_number q u)) runs ∙ by_run js (rule_run view r t) h

  read_by_run : (x : Outcome (List PlainItem)) → read_in (answered (pair_number q u) (given (map f) x)) ≡ read_in (answered (pair_number r t) x)
  read_by_run (gives a s) = refl
  read_by_run (faults l k x rs) = refl
  read_by_run (blocked p rs) = refl

  -- both are blocked on the same read
  pub instances_read : read_in (instances view q u) ≡ read_in (instances view r t)
  unfolding instances
  instances_read = ap (λ x. read_in (answered (pair_number q u) x)) runs ∙ read_by_run (rule_run view r t)
