-- Where a commit gave a site, each of its tasks made something.
use Rattle.std.proofs.Common.{◌≡◌, ◌<◌, ℕ, zero, suc, List, [], ◌∷◌, ◌++◌, Bool, true, false, cond, Option, Some, None, map, filter, slice_get, refl, ap, ◌∙◌, arith}
use Rattle.std.specs.Prelude.{Contains}
use Rattle.std.specs.List.{AllByRecursion, flat_map}
use Rattle.std.proofs.lemmas.List.Elements.{All-contains, All-from_recursion}
use Rattle.site_base.specs.declared.diag.Diag.{Diag}
use Rattle.site_base.specs.declared.item_no.ItemNo.{ItemNo}
use Rattle.site_model.specs.PlainSite.{PlainObject}
use Rattle.eval_meaning.specs.Load.{Loaded}
use Rattle.eval_meaning.specs.Registered.{PlainItem, PlainRule}
use Rattle.eval_meaning.specs.Views.{View}
use Rattle.commit_meaning.specs.Answers.{made, diags_in}
use Rattle.commit_meaning.specs.Commits.{committed, first_told, waves}
use Rattle.commit_meaning.specs.Items.{item_answer}
use Rattle.commit_meaning.specs.Names.{Target}
use Rattle.commit_meaning.specs.Orders.{by_number, inserted, is_behind}
use Rattle.commit_meaning.specs.Rules.{instances}
use Rattle.commit_meaning.specs.Waves.{diag_number, diags_of, is_in_wave, limited, member_answer, most_items, rule_answers, view_before, wave_answers, wave_diags, wave_faults, wave_items, wave_objects, world_after}
use Rattle.commit_meaning.specs.Worlds.{World, targets}
use Rattle.kept_tasks.specs.Kept.{GivesSite}

-- ---- waves

told_all : (xs ys : List (List Diag)) → first_told (xs ++ ys) ≡ [] → AllByRecursion (λ ds. ds ≡ []) xs
told_all [] ys h = tt
told_all ([] ∷ xs) ys h = (refl, told_all xs ys h)
told_all ((d ∷ ds) ∷ xs) ys h = absurd cc

of_wave : (load : Loaded) (w : ℕ) → w < 6 → AllByRecursion (λ ds. ds ≡ []) (map (diags_of load) waves) → diags_of load (suc w) ≡ []
of_wave load zero lt h = h.0
of_wave load (suc zero) lt h = h.1.0
of_wave load (suc (suc zero)) lt h = h.1.1.0
of_wave load (suc (suc (suc zero))) lt h = h.1.1.1.0
of_wave load (suc (suc (suc (suc zero)))) lt h = h.1.1.1.1.0
of_wave load (suc (suc (suc (suc (suc zero))))) lt h = h.1.1.1.1.1.0
of_wave load (suc (suc (suc (suc (suc (suc w)))))) lt h = absurd (omega (arith, lt))

module _ {A : Type 0} (n : A → ItemNo) where
  never_empty : (a : A) (bs : List A) → inserted n a bs ≡ [] → ⊥
  never_empty a [] h = absurd cc
  never_empty a (b ∷ bs) h = by (is_behind (n a) (n b)) h
    where
      by : (c : Bool) → cond c (b ∷ inserted n a bs) (a ∷ b ∷ bs) ≡ [] → ⊥
      by true e = absurd cc
      by false e = absurd cc

  none_sorted : (xs : List A) → by_number n xs ≡ [] → xs ≡ []
  none_sorted [] h = refl
  none_sorted (a ∷ more) h = absurd (never_empty a (by_number n more) h)

unlimited : (o : Option PlainItem) (ds : List Diag) → limited o ds ≡ [] → ds ≡ []
unlimited (Some i) ds h = absurd cc
unlimited None ds h = h

no_faults : (load : Loaded) (before : World) (w : ℕ) → wave_diags load before w ≡ [] → wave_faults load before w ≡ []
unfolding wave_diags
no_faults load before w h = none_sorted diag_number (wave_faults load before w) (unlimited (slice_get (wave_items load before w) most_items) (by_number diag_number (wave_faults load before w)) h)

-- ---- lists

left_empty : {A : Type 0} (xs ys : List A) → xs ++ ys ≡ [] → xs ≡ []
left_empty [] ys h = refl
left_empty (x ∷ xs) ys h = absurd cc

right_empty : {A : Type 0} (xs ys : List A) → xs ++ ys ≡ [] → ys ≡ []
right_empty [] ys h = h
right_empty (x ∷ xs) ys h = absurd cc

each_empty : {A B : Type 0} (f : A → List B) (xs : List A) → flat_map f xs ≡ [] → AllByRecursion (λ x. f x ≡ []) xs
each_empty f [] h = tt
each_empty f (x ∷ xs) h = (left_empty (f x) (flat_map f xs) h, each_empty f xs (right_empty (f x) (flat_map f xs) h))

one_empty : {A B : Type 0} (f : A → List B) (xs : List A) (x : A) → flat_map f xs ≡ [] → Contains xs x → f x ≡ []
one_empty f xs x h c = All-contains (λ y. f y ≡ []) xs x (All-from_recursion (λ y. f y ≡ []) xs (each_empty f xs h)) c

flat_append : {A B : Type 0} (f : A → List B) (xs ys : List A) → flat_map f (xs ++ ys) ≡ [] → (flat_map f xs ≡ []) × (flat_map f ys ≡ [])
flat_append f [] ys h = (refl, h)
flat_append f (x ∷ xs) ys h =
    let rest = flat_append f xs ys (right_empty (f x) (flat_map f (xs ++ ys)) h) in
    let first : f x ≡ [] = left_empty (f x) (flat_map f (xs ++ ys)) h in
    (ap (λ l. l ++ flat_map f xs) first ∙ rest.0, rest.1)

flat_flat : {A B C : Type 0} (f : B → List C) (g : A → List B) (xs : List A) → flat_map f (flat_map g xs) ≡ [] → AllByRecursion (λ x. flat_map f (g x) ≡ []) xs
flat_flat f g [] h = tt
flat_flat f g (x ∷ xs) h = let both = flat_append f (g x) (flat_map g xs) h in (both.0, flat_flat f g xs both.1)

flat_of_map : {A B C : Type 0} (f : B → List C) (g : A → B) (xs : List A) → flat_map f (map g xs) ≡ [] → flat_map (λ x. f (g x)) xs ≡ []
flat_of_map f g [] h = refl
flat_of_map f g (x ∷ xs) h =
    let first : f (g x) ≡ [] = left_empty (f (g x)) (flat_map f (map g xs)) h in
    ap (λ l. l ++ flat_map (λ y. f (g y)) xs) first ∙ flat_of_map f g xs (right_empty (f (g x)) (flat_map f (map g xs)) h)

-- ---- tasks of a commit that gave a site

module _ (phases : List PlainObject → List (List Diag)) (load : Loaded) (w : ℕ) (lt : w < 6) (gave : GivesSite phases load) where
  abbrev before : World
  before = world_after load w

  abbrev view : View
  view = view_before load before

  nothing_wrong : wave_faults load before (suc w) ≡ []
  nothing_wrong = no_faults load before (suc w) (of_wave load w lt (told_all (map (diags_of load) waves) (phases (committed load)) gave))

  abbrev of_rules : List Diag
  of_rules = flat_map diags_in (wave_answers load before (suc w))

  abbrev of_items : List Diag
  of_items = flat_map (λ i. diags_in (item_answer view i)) (wave_items load before (suc w))

  abbrev of_members : List Diag
  of_members = flat_map (λ o. diags_in (member_answer load before (suc w) o)) (wave_objects load before (suc w))

  pub item_right : (i : PlainItem) → Contains (wave_items load before (suc w)) i → diags_in (item_answer view i) ≡ []
  item_right i c = one_empty (λ j. diags_in (item_answer view j)) (wave_items load before (suc w)) i (left_empty of_items of_members (right_empty of_rules (of_items ++ of_members) nothing_wrong)) c

  pub member_right : (o : PlainObject) → Contains (wave_objects load before (suc w)) o → diags_in (member_answer load before (suc w) o) ≡ []
  member_right o c = one_empty (λ p. diags_in (member_answer load before (suc w) p)) (wave_objects load before (suc w)) o (right_empty of_items of_members (right_empty of_rules (of_items ++ of_members) nothing_wrong)) c

  abbrev rules : List PlainRule
  rules = filter (λ r. is_in_wave (suc w) r.kind) load.rules

  pub pair_right : (r : PlainRule) (t : Target) → Contains rules r → Contains (targets r.target before.objects) t → diags_in (instances view r t) ≡ []
  pair_right r t c d =
      let none = flat_flat diags_in (rule_answers load before) rules (left_empty of_rules (of_items ++ of_members) nothing_wrong) in
      let of_rule : flat_map diags_in (rule_answers load before r) ≡ [] = All-contains (λ x. flat_map diags_in (rule_answers load before x) ≡ []) rules r (All-from_recursion (λ x. flat_map diags_in (rule_answers load before x) ≡ []) rules none) c in
      one_empty (λ u. diags_in (instances view r u)) (targets r.target before.objects) t (flat_of_map diags_in (instances view r) (targets r.target before.objects) of_rule) d
