-- A pair that is kept makes the items that it made, under their new numbers and with the rule's new places.
use Rattle.std.proofs.Common.{◌≡◌, ℕ, List, [], ◌∷◌, ◌++◌, map, refl, sym, ap, ◌∙◌, subst}
use Rattle.site_base.specs.declared.diag.Diag.{Diag}
use Rattle.site_model.specs.PlainSite.{PlainObject}
use Rattle.object_types.specs.Names.{type_named}
use Rattle.eval_meaning.specs.Load.{Loaded}
use Rattle.eval_meaning.specs.Registered.{PlainItem, PlainRule}
use Rattle.eval_meaning.specs.Registration.{name_preset}
use Rattle.eval_meaning.specs.Views.{View}
use Rattle.eval_meaning.specs.declared.read.Read.{Read}
use Rattle.commit_meaning.specs.Answers.{Answer, made, diagnosed, blocked}
use Rattle.commit_meaning.specs.Names.{Target, target_no, target_number}
use Rattle.commit_meaning.specs.Rules.{instance, instances, pair_number, rule_run}
use Rattle.commit_meaning.specs.Staying.{Stays}
use Rattle.commit_meaning.specs.Starts.{Trees}
use Rattle.commit_meaning.specs.Worlds.{world_view}
use Rattle.commit_meaning.proofs.ViewAnswers.{answers_stay}
use Rattle.commit_order.proofs.Answers.{answers_alike}
use Rattle.commit_places.specs.Alike.{AlikeInstances, AlikeRules}
use Rattle.commit_places.proofs.Commits.{rules_alike}
use Rattle.place_laws.specs.Alike.{nowhere}
use Rattle.place_laws.specs.MovedStates.{moved_item}
use Rattle.kept_tasks.specs.Bare.{Agree, bare_rule, bare_target}
use Rattle.kept_tasks.specs.Kept.{IsKeptPair, renewed_instance, standing, standing_view}
use Rattle.kept_tasks.specs.Reads.{AreReadsOf, IsAnswered, SeenAlike, view_of_reads}
use Rattle.kept_tasks.proofs.Carried.{carried, moved_read, read_in}
use Rattle.kept_tasks.proofs.Instances.{instances_changed, instances_read, names_same, presets_same, rule_numbered}
use Rattle.kept_tasks.proofs.Items.{made_of}
use Rattle.kept_tasks.proofs.Numbers.{Speaks, answered_speaks}
use Rattle.kept_tasks.proofs.Reading.{answered_by_reads, made_before, made_behind, unblocked}
use Rattle.kept_tasks.proofs.Seen.{is_part, unruled, unruled_looks, views_alike}
use Rattle.kept_tasks.proofs.Told.{pair_right}

module _ (load : Loaded) (os : List PlainObject) (rs : List Read) where
  abbrev part : View
  part = view_of_reads load (world_view load os) rs

  pub pair_stays : (r : PlainRule) (t : Target) → Stays (instances part r t) (instances (world_view load os) r t)
  pair_stays r t =
      subst (Stays (instances part r t)) ((answers_alike (unruled (world_view load os)) (world_view load os) (unruled_looks (world_view load os))).rules r t)
      ((answers_stay part (unruled (world_view load os)) (is_part load os rs)).rules r t)

pair_speaks : (view : View) (r : PlainRule) (t : Target) → Speaks (instances view r t)
unfolding instances
pair_speaks view r t = answered_speaks (pair_number r t) (rule_run view r t)

-- ---- numbers

-- an instance of another target, by a rule of another number
abbrev renumbered : PlainRule → Target → PlainItem → PlainItem
renumbered q u i = record i { number = record { item = q.number.item; target = target_no (target_number u); key = i.number.key } }

instance_renumbered : (r q : PlainRule) (t u : Target) → bare_target t ≡ bare_target u → (k : ℕ) (name : List ℕ) (names : Trees)
    → instance (rule_numbered q.number r) u k name names ≡ renumbered q u (instance r t k name names)
instance_renumbered r q t u same k name names =
    ap (λ ps. record (renumbered q u (instance r t k name names)) { presets = name_preset name ++ ps }) (presets_same (type_named r.kind) t u same)

pairs_renumbered : (view : View) (r q : PlainRule) (t u : Target) → bare_target t ≡ bare_target u → (is : List PlainItem) → instances view r t ≡ made is
    → instances view (rule_numbered q.number r) u ≡ made (map (renumbered q u) is)
pairs_renumbered view r q t u same is h = instances_changed view r q.number t u (names_same t u same) (renumbered q u) (instance_renumbered r q t u same) is h

-- ---- places

-- an instance stands where its rule does, and has its body
abbrev placed : PlainRule → PlainItem → PlainItem
placed q i = record i { place = q.place; body = q.body }

instances_placed : (view : View) (q : PlainRule) (u : Target) (js : List PlainItem) → instances view q u ≡ made js → js ≡ map (placed q) js
instances_placed view q u js h =
    let again : instances view q u ≡ made (map (placed q) js) = instances_changed view q q.number u u refl (placed q) (λ k name names. refl) js h in
    same (sym h ∙ again)
  where
    same : made js ≡ made (map (placed q) js) → js ≡ map (placed q) js
    same e = cc

placed_alike : (q : PlainRule) (is js : List PlainItem) → map (moved_item nowhere) is ≡ map (moved_item nowhere) js → map (placed q) is ≡ map (placed q) js
placed_alike q [] [] h = refl
placed_alike q [] (j ∷ js) h = absurd cc
placed_alike q (i ∷ is) [] h = absurd cc
placed_alike q (i ∷ is) (j ∷ js) h =
    let first : moved_item nowhere i ≡ moved_item nowhere j = cc in
    let rest : map (moved_item nowhere) is ≡ map (moved_item nowhere) js = cc in
    ap (λ x. placed q x ∷ map (placed q) is) first ∙ ap (λ l. placed q j ∷ l) (placed_alike q is js rest)

matched : (is : List PlainItem) (a b : Answer (List PlainItem)) → a ≡ made is → AlikeInstances a b → (js : List PlainItem) × (b ≡ made js) × (map (moved_item nowhere) is ≡ map (moved_item nowhere) js)
matched is (made ks) (made js) e h = (js, refl, (let one : ks ≡ is = cc in ap (map (moved_item nowhere)) (sym one) ∙ cc))
matched is (made ks) (diagnosed ds) e h = absurd cc
matched is (made ks) (blocked r) e h = absurd cc
matched is (diagnosed ds) b e h = absurd cc
matched is (blocked r) b e h = absurd cc

map_twice : {A B C : Type 0} (g : B → C) (f : A → B) (xs : List A) → map g (map f xs) ≡ map (λ x. g (f x)) xs
map_twice g f [] = refl
map_twice g f (x ∷ xs) = ap (λ l. g (f x) ∷ l) (map_twice g f xs)

alike_numbered : (r q : PlainRule) → bare_rule r ≡ bare_rule q → AlikeRules (rule_numbered q.number r) q
alike_numbered r q h = ap (rule_numbered q.number) h

-- ---- pairs that are kept

made_renewed : (view other : View) (r q : PlainRule) (t u : Target) → bare_target t ≡ bare_target u → AlikeInstances (instances view (rule_numbered q.number r) u) (instances other q u)
    → (is : List PlainItem) → instances view r t ≡ made is → instances other q u ≡ made (map (renewed_instance q u) is)
made_renewed view other r q t u same alike is h =
    let m = matched (map (renumbered q u) is) (instances view (rule_numbered q.number r) u) (instances other q u) (pairs_renumbered view r q t u same is h) alike in
    m.1 ∙ ap made (instances_placed other q u m.0 m.1 ∙ sym (placed_alike q (map (renumbered q u) is) m.0 m.2) ∙ map_twice (placed q) (renumbered q u) is)

module _ (old new : Loaded) (os ps : List PlainObject) (agree : Agree old new) (r q : PlainRule) (t u : Target) (same_rule : bare_rule r ≡ bare_rule q) (same_target : bare_target t ≡ bare_target u) where
  abbrev world : View
  world = world_view old os

  abbrev other : View
  other = world_view new ps

  alike : (rs : List Read) → SeenAlike world other rs → AlikeInstances (instances (view_of_reads old world rs) (rule_numbered q.number r) u) (instances (view_of_reads new other rs) q u)
  alike rs seen =
      rules_alike (view_of_reads old world rs) (view_of_reads new other rs) (views_alike old new world other rs agree seen) (rule_numbered q.number r) q (alike_numbered r q same_rule) u u refl

  same_read : (rs : List Read) → SeenAlike world other rs → read_in (instances (view_of_reads old world rs) r t) ≡ read_in (instances (view_of_reads new other rs) q u)
  same_read rs seen =
      sym (instances_read (view_of_reads old world rs) r q.number t u (names_same t u same_target) (renumbered q u) (instance_renumbered r q t u same_target))
      ∙ sym (moved_read (map (moved_item nowhere)) (instances (view_of_reads old world rs) (rule_numbered q.number r) u)) ∙ ap read_in (alike rs seen)
      ∙ moved_read (map (moved_item nowhere)) (instances (view_of_reads new other rs) q u)

  -- pairs that are alike have the same reads, where these find the same
  pub pair_reads : (rs : List Read) → AreReadsOf (λ view. instances view r t) old os rs → SeenAlike world other rs → AreReadsOf (λ view. instances view q u) new ps rs
  pair_reads rs are seen = carried world other (λ qs. instances (view_of_reads old world qs) r t) (λ qs. instances (view_of_reads new other qs) q u) same_read rs seen are

  -- and the one makes of the new load what the other made of the old one
  pub pair_follows : (rs : List Read) (is : List PlainItem) → AreReadsOf (λ view. instances view r t) old os rs → SeenAlike world other rs → instances world r t ≡ made is → instances other q u ≡ made (map (renewed_instance q u) is)
  pair_follows rs is are seen e =
      let old_part = view_of_reads old world rs in
      let new_part = view_of_reads new other rs in
      let by_reads : IsAnswered (instances old_part r t) = answered_by_reads (λ view. instances view r t) old os rs are in
      let before : instances old_part r t ≡ made is = made_before (instances old_part r t) (instances world r t) is by_reads (pair_stays old os rs r t) e in
      made_behind (instances new_part q u) (instances other q u) (map (renewed_instance q u) is) (pair_stays new ps rs q u) (made_renewed old_part new_part r q t u same_target (alike rs seen) is before)

module _ (phases : List PlainObject → List (List Diag)) (old new : Loaded) (w : ℕ) (q : PlainRule) (u : Target) (kept : IsKeptPair phases old new w q u) where
  abbrev reads : List Read
  reads = kept.reads.reads

  abbrev old_part : View
  old_part = view_of_reads old (standing_view old w) reads

  made_old : (is : List PlainItem) × (instances (standing_view old w) kept.rule kept.target ≡ made is)
  made_old =
      made_of (instances (standing_view old w) kept.rule kept.target) (pair_speaks (standing_view old w) kept.rule kept.target)
      (unblocked (instances old_part kept.rule kept.target) (instances (standing_view old w) kept.rule kept.target) (answered_by_reads (λ view. instances view kept.rule kept.target) old (standing old w) reads kept.reads.are) (pair_stays old (standing old w) reads kept.rule kept.target))
      (pair_right phases old w kept.wave kept.gave kept.rule kept.target kept.had_rule kept.had_target)

  -- what the new load's rule makes is what the old one's made
  pub pair_kept : (is : List PlainItem) × (instances (standing_view old w) kept.rule kept.target ≡ made is) × (instances (standing_view new w) q u ≡ made (map (renewed_instance q u) is))
  pair_kept =
      (made_old.0, made_old.1, pair_follows old new (standing old w) (standing new w) kept.agree kept.rule q kept.target u kept.same_rule kept.same_target reads made_old.0 kept.reads.are kept.reads.alike made_old.1)
