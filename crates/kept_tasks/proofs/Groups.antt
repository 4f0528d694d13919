-- What groups make of a member depends on their names, what they captured and their conditions, and on the member's type and tree alone.
use Rattle.std.proofs.Common.{◌≡◌, ℕ, List, [], ◌∷◌, ◌++◌, map, Bool, true, false, cond, Option, Some, None, refl, sym, ap, ◌∙◌, subst}
use Rattle.site_base.specs.declared.diag.Diag.{Diag}
use Rattle.site_base.specs.declared.item_no.ItemNo.{ItemNo}
use Rattle.site_model.specs.PlainSite.{PlainObject}
use Rattle.object_types.specs.Names.{type_named}
use Rattle.dsl_syntax.specs.Syntax.{Statements, no_statements, more_statements, statement, assign, ignore}
use Rattle.eval_meaning.specs.Evaluation.{evaluated}
use Rattle.eval_meaning.specs.Flow.{truth_with}
use Rattle.eval_meaning.specs.Load.{most_open}
use Rattle.eval_meaning.specs.Registered.{PlainItem}
use Rattle.eval_meaning.specs.States.{State, Outcome, gives, faults, blocked, ◌>>=◌, rule}
use Rattle.eval_meaning.specs.Views.{View}
use Rattle.commit_meaning.specs.Answers as answer
use Rattle.commit_meaning.specs.Answers.{answered, diag}
use Rattle.commit_meaning.specs.Conditions.{Verdict, is_taken, judged, no_verdict}
use Rattle.commit_meaning.specs.Groups.{Taken, caught, group_members, group_run, groups_by, groups_run, member_names, member_run, none_taken, settled, taken_by, unless_diags}
use Rattle.commit_meaning.specs.Rules.{in_rule}
use Rattle.commit_meaning.specs.Starts.{Trees, fresh, values_of}
use Rattle.commit_order.proofs.Evaluations.{afterwards}
use Rattle.place_laws.specs.Alike.{nowhere}
use Rattle.place_laws.specs.MovedStates.{moved_item}
use Rattle.place_laws.specs.MovedSyntax.{moved_expression, moved_statements}
use Rattle.kept_tasks.specs.Bare.{Taker, bare_group, conditions, no_number}
use Rattle.kept_tasks.proofs.Carried.{read_in}

-- ---- conditions

judged_alone : (view : View) (b : Statements) (v : Verdict) (s : State) → judged view b v s ≡ judged view (conditions b) v s
judged_alone view no_statements v s = refl
judged_alone view (more_statements (statement l (assign e)) xs) v s = afterwards (truth_with (evaluated view most_open) e s) _ _ (λ t s1. judged_alone view xs _ s1)
judged_alone view (more_statements (statement l (ignore e)) xs) v s = afterwards (truth_with (evaluated view most_open) e s) _ _ (λ t s1. judged_alone view xs _ s1)
judged_alone view (more_statements x xs) v s = judged_alone view xs v s

conditions_moved : (b : Statements) → conditions (moved_statements nowhere b) ≡ moved_statements nowhere (conditions b)
conditions_moved no_statements = refl
conditions_moved (more_statements (statement l (assign e)) xs) = ap (more_statements (statement (nowhere l) (assign (moved_expression nowhere e)))) (conditions_moved xs)
conditions_moved (more_statements (statement l (ignore e)) xs) = ap (more_statements (statement (nowhere l) (ignore (moved_expression nowhere e)))) (conditions_moved xs)
conditions_moved (more_statements x xs) = conditions_moved xs

-- ---- groups

-- an item that is such a group and nothing else
abbrev pub group_of : Taker → PlainItem
group_of k = record { number = no_number; kind = []; name = k.name; place = record { file = 0; line = 0; col = 0 }; presets = []; names = []; captured = k.captured; body = k.conditions; builtin = false }

module _ (view : View) where
  run_alone : (names : Trees) (g : PlainItem) (s : State) → group_run view names (moved_item nowhere g) s ≡ group_run view names (group_of (bare_group g)) s
  run_alone names g s =
      afterwards (values_of names [] s) _ _
      (λ bound s1. judged_alone view (moved_statements nowhere g.body) no_verdict (in_rule g.captured bound s1) ∙ ap (λ b. judged view b no_verdict (in_rule g.captured bound s1)) (conditions_moved g.body))

  runs_alone : (n : ItemNo) (names : Trees) (gs : List PlainItem) (t : Taken) (s : State) → groups_run view n names (map (moved_item nowhere) gs) t s ≡ groups_run view n names (map group_of (map bare_group gs)) t s
  runs_alone n names [] t s = refl
  runs_alone n names (g ∷ gs) t s =
      ap (λ x. caught view n (moved_item nowhere g) t x >>= λ t1 s1. groups_run view n names (map (moved_item nowhere) gs) t1 s1) (run_alone names g s)
      ∙ ap (λ y. y >>= λ t1 s1. groups_run view n names (map (moved_item nowhere) gs) t1 s1) (caught_alone t (group_run view names (group_of (bare_group g)) s))
      ∙ afterwards (caught view n (group_of (bare_group g)) t (group_run view names (group_of (bare_group g)) s)) _ _ (λ t1 s1. runs_alone n names gs t1 s1)
    where
      caught_alone : (t : Taken) (x : Outcome Verdict) → caught view n (moved_item nowhere g) t x ≡ caught view n (group_of (bare_group g)) t x
      caught_alone t (gives v s1) = refl
      caught_alone t (faults l k y rs) = refl
      caught_alone t (blocked r rs) = refl

  by_alone : (n : ItemNo) (gs : List PlainItem) (o : Option Trees) (s : State) → groups_by view n (map (moved_item nowhere) gs) o s ≡ groups_by view n (map group_of (map bare_group gs)) o s
  by_alone n gs (Some names) s = runs_alone n names gs none_taken s
  by_alone n gs None s = refl

  pub groups_alone : (gs : List PlainItem) (o : PlainObject) → group_members view (map (moved_item nowhere) gs) o ≡ group_members view (map group_of (map bare_group gs)) o
  unfolding group_members member_run
  groups_alone gs o = ap (λ x. settled (answered o.number x)) (afterwards (member_names view (type_named o.kind) o.tree (fresh view.store rule [])) _ _ (λ names s. by_alone o.number gs names s))

  -- ---- the member's number

  -- where nothing is wrong with the one, the other is the same
  abbrev Follows : Outcome Taken → Outcome Taken → Type 0
  Follows (gives t s) y = (u : Taken) × (y ≡ gives u s) × (u.names ≡ t.names) × (t.diags ≡ [] → u.diags ≡ [])
  Follows (faults l k x rs) y = y ≡ faults l k x rs
  Follows (blocked r rs) y = y ≡ blocked r rs

  taken_names : (name : List ℕ) (b : Bool) (t u : Taken) → u.names ≡ t.names → (cond b (record u { names = u.names ++ name ∷ [] }) u).names ≡ (cond b (record t { names = t.names ++ name ∷ [] }) t).names
  taken_names name true t u h = ap (λ ns. ns ++ name ∷ []) h
  taken_names name false t u h = h

  taken_diags : (name : List ℕ) (b : Bool) (t u : Taken) → (t.diags ≡ [] → u.diags ≡ []) → (cond b (record t { names = t.names ++ name ∷ [] }) t).diags ≡ [] → (cond b (record u { names = u.names ++ name ∷ [] }) u).diags ≡ []
  taken_diags name true t u h e = h e
  taken_diags name false t u h e = h e

  told_more : (ds : List Diag) (d : Diag) → ds ++ d ∷ [] ≡ [] → ⊥
  told_more [] d e = absurd cc
  told_more (c ∷ ds) d e = absurd cc

  module _ (n m : ItemNo) (names : Trees) where
    numbers_pass : (gs : List PlainItem) (t u : Taken) (s : State) → u.names ≡ t.names → (t.diags ≡ [] → u.diags ≡ []) → Follows (groups_run view n names gs t s) (groups_run view m names gs u s)
    numbers_pass [] t u s same right = (u, refl, same, right)
    numbers_pass (g ∷ gs) t u s same right = by (λ t1 u1 s1 a b. numbers_pass gs t1 u1 s1 a b) (group_run view names g s)
      where
        by : ((t1 u1 : Taken) (s1 : State) → u1.names ≡ t1.names → (t1.diags ≡ [] → u1.diags ≡ []) → Follows (groups_run view n names gs t1 s1) (groups_run view m names gs u1 s1))
            → (x : Outcome Verdict) → Follows (caught view n g t x >>= λ t1 s1. groups_run view n names gs t1 s1) (caught view m g u x >>= λ t1 s1. groups_run view m names gs t1 s1)
        by rest (gives v s1) = rest (taken_by g.name v t) (taken_by g.name v u) (fresh view.store rule s1.reads) (taken_names g.name (is_taken v) t u same) (taken_diags g.name (is_taken v) t u right)
        by rest (faults l k x rs) =
            rest (record t { diags = t.diags ++ diag n l k x ∷ [] }) (record u { diags = u.diags ++ diag m l k x ∷ [] }) (fresh view.store rule rs) same
            (λ e. let never : ⊥ = told_more t.diags (diag n l k x) e in absurd never)
        by rest (blocked r rs) = refl

  by_passes : (n m : ItemNo) (gs : List PlainItem) (o : Option Trees) (s : State) → Follows (groups_by view n gs o s) (groups_by view m gs o s)
  by_passes n m gs (Some names) s = numbers_pass n m names gs none_taken none_taken s refl (λ e. e)
  by_passes n m gs None s = (none_taken, refl, refl, λ e. e)

  after : {A : Type 0} (x : Outcome A) (f g : A → State → Outcome Taken) → ((a : A) (s : State) → Follows (f a s) (g a s)) → Follows (x >>= f) (x >>= g)
  after (gives a s) f g h = h a s
  after (faults l k t rs) f g h = refl
  after (blocked r rs) f g h = refl

  settles : (n m : ItemNo) (ns : List (List ℕ)) (x y : Outcome Taken) → Follows x y → settled (answered n x) ≡ answer.made ns → settled (answered m y) ≡ answer.made ns
  settles n m ns (gives t s) y (u, is, same, right) e =
      let both = told_by t.diags e in
      ap (λ z. settled (answered m z)) is ∙ ap (unless_diags u) (right both.0) ∙ ap answer.made (same ∙ both.1)
    where
      told_by : (ds : List Diag) → unless_diags t ds ≡ answer.made ns → (ds ≡ []) × (t.names ≡ ns)
      told_by [] h = (refl, (cc))
      told_by (d ∷ ds) h = absurd cc
  settles n m ns (faults l k x rs) y h e = absurd cc
  settles n m ns (blocked r rs) y h e = absurd cc

  pub members_alike : (gs : List PlainItem) (o p : PlainObject) (ns : List (List ℕ)) → o.kind ≡ p.kind → o.tree ≡ p.tree → group_members view gs o ≡ answer.made ns → group_members view gs p ≡ answer.made ns
  unfolding group_members member_run
  members_alike gs o p ns kinds trees h =
      settles o.number p.number ns _ _
      (subst (λ d. Follows (member_names view (type_named o.kind) o.tree (fresh view.store rule []) >>= λ names s. groups_by view o.number gs names s) (member_names view (type_named p.kind) d (fresh view.store rule []) >>= λ names s. groups_by view p.number gs names s)) trees
      (subst (λ k. Follows (member_names view (type_named o.kind) o.tree (fresh view.store rule []) >>= λ names s. groups_by view o.number gs names s) (member_names view (type_named k) o.tree (fresh view.store rule []) >>= λ names s. groups_by view p.number gs names s)) kinds
      (after (member_names view (type_named o.kind) o.tree (fresh view.store rule [])) _ _ (λ names s. by_passes o.number p.number gs names s))))
      h

  unless_read : (t : Taken) (ds : List Diag) → read_in (unless_diags t ds) ≡ None
  unless_read t [] = refl
  unless_read t (d ∷ ds) = refl

  reads_settled : (n m : ItemNo) (x y : Outcome Taken) → Follows x y → read_in (settled (answered m y)) ≡ read_in (settled (answered n x))
  reads_settled n m (gives t s) y (u, is, same, right) = ap (λ z. read_in (settled (answered m z))) is ∙ unless_read u u.diags ∙ sym (unless_read t t.diags)
  reads_settled n m (faults l k x rs) y h = ap (λ z. read_in (settled (answered m z))) h
  reads_settled n m (blocked r rs) y h = ap (λ z. read_in (settled (answered m z))) h

  -- the number of a member changes no read
  pub members_read : (gs : List PlainItem) (o p : PlainObject) → o.kind ≡ p.kind → o.tree ≡ p.tree → read_in (group_members view gs p) ≡ read_in (group_members view gs o)
  unfolding group_members member_run
  members_read gs o p kinds trees =
      reads_settled o.number p.number _ _
      (subst (λ d. Follows (member_names view (type_named o.kind) o.tree (fresh view.store rule []) >>= λ names s. groups_by view o.number gs names s) (member_names view (type_named p.kind) d (fresh view.store rule []) >>= λ names s. groups_by view p.number gs names s)) trees
      (subst (λ k. Follows (member_names view (type_named o.kind) o.tree (fresh view.store rule []) >>= λ names s. groups_by view o.number gs names s) (member_names view (type_named k) o.tree (fresh view.store rule []) >>= λ names s. groups_by view p.number gs names s)) kinds
      (after (member_names view (type_named o.kind) o.tree (fresh view.store rule [])) _ _ (λ names s. by_passes o.number p.number gs names s))))
