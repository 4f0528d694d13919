-- What rules take at one object after another is what they make of all their targets.
use Rattle.std.proofs.Common.{◌≡◌, ◌<◌, ◌+◌, ◌==◌, ℕ, List, [], ◌∷◌, ◌++◌, map, Bool, true, false, cond, refl, sym, ap, ap₂, ◌∙◌, subst, length, get_or, take, arith, append-nil, append_assoc}
use Rattle.std.specs.List.{AllByRecursion, flat_map}
use Rattle.std.specs.Borrow.{Bor}
use Rattle.std.specs.Str.{bytes_eq}
use Rattle.std.proofs.lemmas.Bool.Decides.{nat_tests}
use Rattle.std.proofs.lemmas.List.{length-append, map-append, take_more}
use Rattle.std.proofs.lemmas.List.Concat.{flat_map-append}
use Rattle.std.proofs.lemmas.List.Elements.{All-cons, All-nil}
use Rattle.site_base.specs.declared.diag.Diag.{Diag}
use Rattle.site_model.specs.PlainSite.{PlainObject, object_view}
use Rattle.site_model.specs.declared.object.Object.{Object}
use Rattle.dsl_value.specs.Contents.{Contents}
use Rattle.dsl_value.proofs.Kept.{all_append}
use Rattle.eval_meaning.specs.Registered.{PlainItem, PlainRule}
use Rattle.eval_meaning.specs.Views.{View}
use Rattle.eval_work.specs.Kept.{PairsNamed}
use Rattle.eval_work.specs.Works.{plain_rule}
use Rattle.eval_work.specs.declared.rule.Rule.{Rule}
use Rattle.commit_meaning.specs.Answers.{Answer, all_made, diags_in}
use Rattle.commit_meaning.specs.Names.{Target}
use Rattle.commit_meaning.specs.Rules.{instances}
use Rattle.apply_rules.specs.Plain.{plain_instance}
use Rattle.apply_rules.specs.Sharing.{AreSharedIn, IsSharedIn}
use Rattle.apply_rules.specs.declared.instance.Instance.{Instance}
use Rattle.wave_objects.specs.Applying.{AppliedNamed, AppliedShared, AreApplied, AreNew, AreWithin, HasTaken, HaveTaken, IsApplied, IsNew, answers_to, applied_rule, faults_by, for_place, made_by, rules_of}
use Rattle.wave_objects.specs.AtTargets.{Placed, answers_of_one, placed_answer, placed_answers}
use Rattle.wave_objects.specs.ByType.{placed_rule, rules_going_to, type_rules}
use Rattle.wave_objects.specs.Steps.{answers_at}
use Rattle.wave_objects.specs.Targets.{targets_in, targets_of_one}
use Rattle.wave_objects.specs.declared.applying.Applied.{Applied}
use Rattle.wave_objects.specs.declared.by_type.PlacedRule.{PlacedRule}
use Rattle.wave_objects.specs.declared.by_type.RulesOfType.{RulesOfType}
use Rattle.wave_objects.proofs.TakeLaws.{at_another, at_its_place, for_place-append, taken_more}
use Rattle.wave_objects.proofs.TargetLaws.{targets_are}
use Rattle.wave_objects.proofs.TypeLaws.{HavePlaces, places_of_type}

-- ---- what rules captured

applied_have : (c : Contents) (ss : List Applied) → AllByRecursion (λ (r : PlainRule). PairsNamed c r.captured) (rules_of ss) → AppliedNamed c ss
applied_have c [] h = tt
applied_have c (s ∷ ss) h = (h.0, applied_have c ss h.1)

pub applied_named : (c : Contents) (ss : List Applied) (rs : List PlainRule) → rules_of ss ≡ rs → AllByRecursion (λ (r : PlainRule). PairsNamed c r.captured) rs → AppliedNamed c ss
applied_named c ss rs e h = applied_have c ss (subst (AllByRecursion (λ (r : PlainRule). PairsNamed c r.captured)) (sym e) h)

-- what was made shares nothing, if nothing was made
none_shared : (c : Contents) (is : List Instance) → map plain_instance is ≡ [] → AreSharedIn c is
none_shared c [] e = All-nil (IsSharedIn c)
none_shared c (i ∷ is) e = absurd cc

pub new_shared : (c : Contents) (ss : List Applied) → AreNew ss → AppliedShared c ss
new_shared c [] h = All-nil (λ (s : Applied). AreSharedIn c s.made.items)
new_shared c (s ∷ ss) h = All-cons (λ (x : Applied). AreSharedIn c x.made.items) s ss (none_shared c s.made.items h.0.made) (new_shared c ss h.1)

-- ---- at one target

module _ (view : View) where
  module _ (t : Target) (kind : List ℕ) (k : ℕ) where
    abbrev answers_from : ℕ → List Applied → List Placed
    answers_from i xs = placed_answers view (rules_going_to kind i xs) t

    abbrev with_first : ℕ → Applied → List Applied → Bool → List Placed
    with_first i x xs b = placed_answers view (cond b (placed_rule i x.rule ∷ rules_going_to kind (i + 1) xs) (rules_going_to kind (i + 1) xs)) t

    -- rules that stand after a place have no answer for it
    behind : (i : ℕ) (xs : List Applied) → k < i → for_place k (answers_from i xs) ≡ []
    behind i [] l = refl
    behind i (x ∷ xs) l = by (behind (i + 1) xs (omega (arith, l))) (bytes_eq kind x.rule.now.target)
      where
        by : for_place k (answers_from (i + 1) xs) ≡ [] → (b : Bool) → for_place k (with_first i x xs b) ≡ []
        by rest true =
            let other : (i == k) ≡ false = grind (arith, nat_tests, l) in
            at_another k (placed_answer view t (placed_rule i x.rule)) (answers_from (i + 1) xs) other ∙ rest
        by rest false = rest

    -- the rule at the place has one, if it goes to the type
    found : (i : ℕ) (pre : List Applied) (x : Applied) (rest : List Applied) → k ≡ i + length pre
        → for_place k (answers_from i (pre ++ x ∷ rest)) ≡ answers_to view (applied_rule x) (cond (bytes_eq kind x.rule.now.target) (t ∷ []) [])
    found i [] x rest e = by (behind (i + 1) rest (omega (arith, e))) (bytes_eq kind x.rule.now.target)
      where
        by : for_place k (answers_from (i + 1) rest) ≡ [] → (b : Bool) → for_place k (with_first i x rest b) ≡ answers_to view (applied_rule x) (cond b (t ∷ []) [])
        by none true =
            let here : i ≡ k = omega (arith, e) in
            at_its_place k (placed_answer view t (placed_rule i x.rule)) (answers_from (i + 1) rest) here ∙ ap (λ (xs : List (Answer (List PlainItem))). instances view (applied_rule x) t ∷ xs) none
        by none false = none
    found i (p ∷ pre) x rest e = by (found (i + 1) pre x rest (omega (arith, e))) (bytes_eq kind p.rule.now.target)
      where
        by : for_place k (answers_from (i + 1) (pre ++ x ∷ rest)) ≡ answers_to view (applied_rule x) (cond (bytes_eq kind x.rule.now.target) (t ∷ []) []) → (b : Bool)
            → for_place k (with_first i p (pre ++ x ∷ rest) b) ≡ answers_to view (applied_rule x) (cond (bytes_eq kind x.rule.now.target) (t ∷ []) [])
        by h true =
            let other : (i == k) ≡ false = grind (arith, nat_tests, e) in
            at_another k (placed_answer view t (placed_rule i p.rule)) (answers_from (i + 1) (pre ++ x ∷ rest)) other ∙ h
        by h false = h

  -- at several targets
  found_all : (k : ℕ) (ps : List PlacedRule) (r : PlainRule) (b : Bool) → ((t : Target) → for_place k (placed_answers view ps t) ≡ answers_to view r (cond b (t ∷ []) []))
      → (ts : List Target) → for_place k (flat_map (placed_answers view ps) ts) ≡ answers_to view r (cond b ts [])
  found_all k ps r b f [] = none b
    where
      none : (b : Bool) → [] ≡ answers_to view r (cond b [] [])
      none true = refl
      none false = refl
  found_all k ps r b f (t ∷ ts) =
      for_place-append k (placed_answers view ps t) (flat_map (placed_answers view ps) ts)
      ∙ (ap₂ (λ (xs ys : List (Answer (List PlainItem))). xs ++ ys) (f t) (found_all k ps r b f ts) ∙ both b)
    where
      both : (b : Bool) → answers_to view r (cond b (t ∷ []) []) ++ answers_to view r (cond b ts []) ≡ answers_to view r (cond b (t ∷ ts) [])
      both true = refl
      both false = refl

  -- a type to which no rule goes
  no_rules : (ts : List Target) → flat_map (placed_answers view []) ts ≡ []
  no_rules [] = refl
  no_rules (t ∷ ts) = no_rules ts

  pub none_of_type : (all : List PlainObject) (types : List RulesOfType) (o : PlainObject) → type_rules o.kind types ≡ [] → answers_of_one view all types o ≡ []
  none_of_type all types o e = ap (λ ps. flat_map (placed_answers view ps) (targets_of_one all o)) e ∙ no_rules (targets_of_one all o)

  pub at_one_target : (all : List PlainObject) (types : List RulesOfType) (o : PlainObject) (ps : List PlacedRule) (t : Target) → ps ≡ type_rules o.kind types → t ∷ [] ≡ targets_of_one all o
      → placed_answers view ps t ≡ answers_of_one view all types o
  at_one_target all types o ps t is one =
      ap (λ qs. placed_answers view qs t) is
      ∙ (sym (append-nil (placed_answers view (type_rules o.kind types) t)) ∙ ap (flat_map (placed_answers view (type_rules o.kind types))) one)

  -- ---- at all objects

  module _ (all : List PlainObject) (types : List RulesOfType) (whole : List Applied) (sorted : (kind : List ℕ) → type_rules kind types ≡ rules_going_to kind 0 whole) where
    abbrev at_objects : List PlainObject → List Placed
    at_objects os = flat_map (answers_of_one view all types) os

    at_one : (k : ℕ) (pre rest : List Applied) (x : Applied) → whole ≡ pre ++ x ∷ rest → k ≡ length pre → (o : PlainObject)
        → for_place k (answers_of_one view all types o) ≡ answers_to view (applied_rule x) (cond (bytes_eq o.kind x.rule.now.target) (targets_of_one all o) [])
    at_one k pre rest x is here o =
        ap (λ ps. for_place k (flat_map (placed_answers view ps) (targets_of_one all o))) (sorted o.kind ∙ ap (rules_going_to o.kind 0) is)
        ∙ found_all k (rules_going_to o.kind 0 (pre ++ x ∷ rest)) (applied_rule x) (bytes_eq o.kind x.rule.now.target) (λ t. found t o.kind k 0 pre x rest (omega (arith, here))) (targets_of_one all o)

    at_all : (k : ℕ) (pre rest : List Applied) (x : Applied) → whole ≡ pre ++ x ∷ rest → k ≡ length pre → (os : List PlainObject)
        → for_place k (at_objects os) ≡ answers_to view (applied_rule x) (targets_in x.rule.now.target all os)
    at_all k pre rest x is here [] = refl
    at_all k pre rest x is here (o ∷ os) =
        for_place-append k (answers_of_one view all types o) (at_objects os)
        ∙ (ap₂ (λ (xs ys : List (Answer (List PlainItem))). xs ++ ys) (at_one k pre rest x is here o) (at_all k pre rest x is here os)
        ∙ both (targets_of_one all o) (targets_in x.rule.now.target all os) (bytes_eq o.kind x.rule.now.target))
      where
        both : (ts us : List Target) (b : Bool) → answers_to view (applied_rule x) (cond b ts []) ++ answers_to view (applied_rule x) us ≡ answers_to view (applied_rule x) (cond b (ts ++ us) us)
        both ts us true = sym (map-append (instances view (applied_rule x)) ts us)
        both ts us false = refl

    one_applied : (x y : Applied) (answers : List (Answer (List PlainItem))) → answers ≡ answers_to view (applied_rule x) (targets_in x.rule.now.target all all) → IsNew x → HasTaken answers x y → IsApplied view all y
    one_applied x y answers e n h = record {
      made = subst (λ (r : Bor Rule). made_by y ≡ flat_map all_made (answers_to view (plain_rule r.now) (targets_in r.now.target all all))) (sym h.rule)
          (h.made ∙ (ap (λ (xs : List PlainItem). xs ++ flat_map all_made answers) n.made ∙ ap (flat_map all_made) e));
      faults = subst (λ (r : Bor Rule). faults_by y ≡ flat_map diags_in (answers_to view (plain_rule r.now) (targets_in r.now.target all all))) (sym h.rule)
          (h.faults ∙ (ap (λ (xs : List Diag). xs ++ flat_map diags_in answers) n.faults ∙ ap (flat_map diags_in) e));
    }

    all_applied : (pre xs ys : List Applied) → whole ≡ pre ++ xs → HaveTaken (length pre) (at_objects all) xs ys → AreNew xs → AreApplied view all ys
    all_applied pre [] [] is h n = tt
    all_applied pre [] (y ∷ ys) is h n = absurd h
    all_applied pre (x ∷ xs) [] is h n = absurd h
    all_applied pre (x ∷ xs) (y ∷ ys) is h n =
        let long : length (pre ++ x ∷ []) ≡ length pre + 1 = length-append pre (x ∷ []) in (
          one_applied x y (for_place (length pre) (at_objects all)) (at_all (length pre) pre xs x is refl all) n.0 h.0,
          all_applied (pre ++ x ∷ []) xs ys (is ∙ sym (append_assoc pre (x ∷ []) xs)) (subst (λ k. HaveTaken k (at_objects all) xs ys) (sym long) h.1) n.1,
        )

    -- rules that have taken the answers at all objects
    pub taken_applied : (ys : List Applied) → HaveTaken 0 (at_objects all) whole ys → AreNew whole → AreApplied view all ys
    taken_applied ys h n = all_applied [] whole ys refl h n

    -- ---- places

    within_rules : (n : ℕ) (ps : List PlacedRule) (t : Target) → HavePlaces n ps → AreWithin n (placed_answers view ps t)
    within_rules n [] t h = tt
    within_rules n (p ∷ ps) t h = (h.0, within_rules n ps t h.1)

    within_targets : (n : ℕ) (ps : List PlacedRule) (ts : List Target) → HavePlaces n ps → AreWithin n (flat_map (placed_answers view ps) ts)
    within_targets n ps [] h = tt
    within_targets n ps (t ∷ ts) h = all_append (λ (a : Placed). a.place < n) (placed_answers view ps t) (flat_map (placed_answers view ps) ts) (within_rules n ps t h) (within_targets n ps ts h)

    pub within_one : (o : PlainObject) → AreWithin (length whole) (answers_of_one view all types o)
    within_one o =
        subst (λ ps. AreWithin (length whole) (flat_map (placed_answers view ps) (targets_of_one all o))) (sym (sorted o.kind))
        (within_targets (length whole) (rules_going_to o.kind 0 whole) (targets_of_one all o) (places_of_type o.kind (length whole) 0 whole (omega arith)))

-- the next object
module _ (view : View) (all : List PlainObject) (types : List RulesOfType) (os : List Object) where
  abbrev pub taken_up_to : ℕ → List Placed
  taken_up_to i = flat_map (answers_of_one view all types) (map object_view (take i os))

  pub next_taken : (i : ℕ) (o : Object) (answers : List Placed) (xs ys zs : List Applied) → i < length os → o ≡ get_or os i o → answers ≡ answers_of_one view all types (object_view o)
      → HaveTaken 0 (taken_up_to i) xs ys → HaveTaken 0 answers ys zs → HaveTaken 0 (taken_up_to (i + 1)) xs zs
  next_taken i o answers xs ys zs within here is before now =
      subst (λ bs. HaveTaken 0 bs xs zs) (sym more) (taken_more 0 (taken_up_to i) answers xs ys zs before now)
    where
      more : taken_up_to (i + 1) ≡ taken_up_to i ++ answers
      more =
          ap (λ (xs : List Object). flat_map (answers_of_one view all types) (map object_view xs)) (take_more os i o within ∙ ap (λ (x : Object). take i os ++ x ∷ []) (sym here))
          ∙ (ap (flat_map (answers_of_one view all types)) (map-append object_view (take i os) (o ∷ []))
          ∙ (flat_map-append (answers_of_one view all types) (map object_view (take i os)) (object_view o ∷ [])
          ∙ ap (λ bs. taken_up_to i ++ bs) (append-nil (answers_of_one view all types (object_view o)) ∙ sym is)))

-- ---- at last

module _ (view : View) (os : List Object) where
  abbrev all_of : {A : Type 0} → (Answer (List PlainItem) → List A) → List PlainRule → List A
  all_of f rs = flat_map f (flat_map (answers_at view os) rs)

  one_rule : {A : Type 0} (f : Answer (List PlainItem) → List A) (r : Rule) (made : List A)
      → made ≡ flat_map f (answers_to view (plain_rule r) (targets_in r.target (map object_view os) (map object_view os))) → made ≡ flat_map f (answers_at view os (plain_rule r))
  one_rule f r made h = h ∙ ap (λ ts. flat_map f (answers_to view (plain_rule r) ts)) (targets_are r.target (map object_view os))

  made_of : (ss : List Applied) → AreApplied view (map object_view os) ss → flat_map made_by ss ≡ all_of all_made (rules_of ss)
  made_of [] h = refl
  made_of (s ∷ ss) h =
      ap₂ (λ (xs ys : List PlainItem). xs ++ ys) (one_rule all_made s.rule.now (made_by s) h.0.made) (made_of ss h.1)
      ∙ sym (flat_map-append all_made (answers_at view os (plain_rule s.rule.now)) (flat_map (answers_at view os) (rules_of ss)))

  faults_of : (ss : List Applied) → AreApplied view (map object_view os) ss → flat_map faults_by ss ≡ all_of diags_in (rules_of ss)
  faults_of [] h = refl
  faults_of (s ∷ ss) h =
      ap₂ (λ (xs ys : List Diag). xs ++ ys) (one_rule diags_in s.rule.now (faults_by s) h.0.faults) (faults_of ss h.1)
      ∙ sym (flat_map-append diags_in (answers_at view os (plain_rule s.rule.now)) (flat_map (answers_at view os) (rules_of ss)))

  pub made_are : (ss : List Applied) (rs : List PlainRule) → AreApplied view (map object_view os) ss → rules_of ss ≡ rs → flat_map made_by ss ≡ flat_map all_made (flat_map (answers_at view os) rs)
  made_are ss rs h e = made_of ss h ∙ ap (all_of all_made) e

  pub faults_are : (ss : List Applied) (rs : List PlainRule) → AreApplied view (map object_view os) ss → rules_of ss ≡ rs → flat_map faults_by ss ≡ flat_map diags_in (flat_map (answers_at view os) rs)
  faults_are ss rs h e = faults_of ss h ∙ ap (all_of diags_in) e
