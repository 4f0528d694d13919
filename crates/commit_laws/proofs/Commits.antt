-- A commit loses nothing.
use Rattle.std.proofs.Common.{◌≡◌, ◌<◌, ◌≤◌, ◌⊎◌, inl, inr, ℕ, zero, suc, List, [], ◌∷◌, ◌++◌, map, true, Option, Some, None, slice_get, refl, sym, ap, ◌∙◌, subst, arith}
use Rattle.std.specs.Prelude.{Contains}
use Rattle.std.specs.List.{AllByRecursion}
use Rattle.std.proofs.lemmas.List.Elements.{Contains-append_left}
use Rattle.site_base.specs.declared.diag.Diag.{Diag}
use Rattle.site_base.specs.declared.diag_kind.DiagKind.TheVariants.{ItemLimit}
use Rattle.site_base.specs.declared.item_no.ItemNo.{ItemNo}
use Rattle.site_model.specs.PlainSite.{PlainObject}
use Rattle.eval_meaning.specs.Load.{Loaded}
use Rattle.eval_meaning.specs.Registered.{PlainItem, PlainRule}
use Rattle.commit_meaning.specs.Answers as answer
use Rattle.commit_meaning.specs.Answers.{Answer, diag}
use Rattle.commit_meaning.specs.Commits.{Committed, site, refused, commit, committed, first_told, unless_told, waves}
use Rattle.commit_meaning.specs.Groups.{grown}
use Rattle.commit_meaning.specs.Items.{item_answer}
use Rattle.commit_meaning.specs.Names.{Target}
use Rattle.commit_meaning.specs.Orders.{by_number}
use Rattle.commit_meaning.specs.Rules.{instances, pair_number}
use Rattle.commit_meaning.specs.Waves.{diag_number, diags_of, is_in_wave, limited, member_answer, most_items, wave_diags, wave_grown, wave_world, world_after}
use Rattle.commit_meaning.specs.Worlds.{targets}
use Rattle.commit_laws.specs.Registered.{IsRegistered, IsRegisteredItem, IsRegisteredRule}
use Rattle.commit_laws.specs.Accounts.{IsAccounted, told_in, items_in, objects_in, view_in}
use Rattle.commit_laws.specs.Fates.{Fate, stands, told, limited as over_limit, never_came, in_vain, ItemMade, RuleMade, MemberMade, CommitLosesNothing}
use Rattle.commit_laws.proofs.Among.{of_one, sorted_in}
use Rattle.commit_laws.proofs.Types.{has_wave}
use Rattle.commit_laws.proofs.Waves.{wave_loses_nothing}

-- ---- what stands after a wave stands in the site

one_wave_on : (load : Loaded) (v : ℕ) (o : PlainObject) → Contains (world_after load v).objects o → Contains (world_after load (suc v)).objects o
unfolding wave_world
one_wave_on load v o c = Contains-append_left (world_after load v).objects (wave_grown load (world_after load v) (suc v)) o c

later_waves : (load : Loaded) (w v : ℕ) → w ≤ v → (o : PlainObject) → Contains (world_after load w).objects o → Contains (world_after load v).objects o
later_waves load w zero le o c = let same : w ≡ zero = omega (arith, le) in subst (λ k. Contains (world_after load k).objects o) same c
later_waves load w (suc v) le o c = by (λ h. one_wave_on load v o (later_waves load w v h o c)) (split le)
  where
    split : w ≤ suc v → (w ≤ v) ⊎ (w ≡ suc v)
    split h = grind (arith, h)

    by : (w ≤ v → Contains (world_after load (suc v)).objects o) → (w ≤ v) ⊎ (w ≡ suc v) → Contains (world_after load (suc v)).objects o
    by earlier (inl h) = earlier h
    by earlier (inr e) = subst (λ k. Contains (world_after load k).objects o) e c

module _ {S : Type 0} (phases : List PlainObject → List (List Diag)) (last : List PlainObject → S) (load : Loaded) where
  abbrev outcome : Committed S
  outcome = commit phases last load

  abbrev stages : List (List Diag)
  stages = map (diags_of load) waves ++ phases (committed load)

  -- ---- the first stage that tells something

  unless : (o : S) (ds : List Diag) → (unless_told o ds ≡ site o) ⊎ ((d : Diag) × (fs : List Diag) × (unless_told o ds ≡ refused (d ∷ fs)))
  unless o [] = inl refl
  unless o (d ∷ fs) = inr (d, fs, refl)

  -- the site stands, or something refuses it
  ends : (outcome ≡ site (last (committed load))) ⊎ ((d : Diag) × (fs : List Diag) × (outcome ≡ refused (d ∷ fs)))
  unfolding commit
  ends = unless (last (committed load)) (first_told stages)

  refused_by : (d : Diag) (ds : List Diag) → first_told stages ≡ d ∷ ds → outcome ≡ refused (d ∷ ds)
  unfolding commit
  refused_by d ds h = ap (unless_told (last (committed load))) h

  -- an earlier wave tells something, or what is told first is told first from here on
  earlier : (P : ℕ → Type 0) (vs : List ℕ) (rest : List (List Diag)) → AllByRecursion P vs
      → ((v : ℕ) × P v × (d : Diag) × (ds : List Diag) × (diags_of load v ≡ d ∷ ds) × (first_told (map (diags_of load) vs ++ rest) ≡ d ∷ ds)) ⊎ (first_told (map (diags_of load) vs ++ rest) ≡ first_told rest)
  earlier P [] rest h = inr refl
  earlier P (v ∷ vs) rest h = by (diags_of load v) refl (earlier P vs rest h.1)
    where
      by : (ds : List Diag) → diags_of load v ≡ ds
          → ((u : ℕ) × P u × (d : Diag) × (fs : List Diag) × (diags_of load u ≡ d ∷ fs) × (first_told (map (diags_of load) vs ++ rest) ≡ d ∷ fs)) ⊎ (first_told (map (diags_of load) vs ++ rest) ≡ first_told rest)
          → ((u : ℕ) × P u × (d : Diag) × (fs : List Diag) × (diags_of load u ≡ d ∷ fs) × (first_told (ds ∷ (map (diags_of load) vs ++ rest)) ≡ d ∷ fs)) ⊎ (first_told (ds ∷ (map (diags_of load) vs ++ rest)) ≡ first_told rest)
      by [] e more = more
      by (d ∷ ds) e more = inl (v, h.0, d, ds, e, refl)

  -- the stages up to a wave, and those from it on
  record Around (w : ℕ) : Type 0 where
    before : List ℕ
    rest : List (List Diag)
    lower : AllByRecursion (λ v. v < suc w) before
    are : stages ≡ map (diags_of load) before ++ (diags_of load (suc w) ∷ rest)

  around : (w : ℕ) → w < 6 → Around w
  around zero lt = record { before = []; rest = _; lower = tt; are = refl }
  around (suc zero) lt = record { before = 1 ∷ []; rest = _; lower = (omega arith, tt); are = refl }
  around (suc (suc zero)) lt = record { before = 1 ∷ 2 ∷ []; rest = _; lower = (omega arith, (omega arith, tt)); are = refl }
  around (suc (suc (suc zero))) lt = record { before = 1 ∷ 2 ∷ 3 ∷ []; rest = _; lower = (omega arith, (omega arith, (omega arith, tt))); are = refl }
  around (suc (suc (suc (suc zero)))) lt = record { before = 1 ∷ 2 ∷ 3 ∷ 4 ∷ []; rest = _; lower = (omega arith, (omega arith, (omega arith, (omega arith, tt)))); are = refl }
  around (suc (suc (suc (suc (suc zero))))) lt = record { before = 1 ∷ 2 ∷ 3 ∷ 4 ∷ 5 ∷ []; rest = _; lower = (omega arith, (omega arith, (omega arith, (omega arith, (omega arith, tt))))); are = refl }
  around (suc (suc (suc (suc (suc (suc w)))))) lt = absurd (omega (arith, lt))

  -- ---- one wave

  -- how the diagnostics of a wave come from what is told in it
  data Telling (w : ℕ) (ds : List Diag) : Type 0 where
    nothing : ds ≡ [] → told_in load w ≡ [] → Telling w ds
    too_many : (first : PlainItem) → ds ≡ diag first.number first.place ItemLimit [] ∷ [] → Telling w ds
    each : ((d : Diag) → Contains (told_in load w) d → Contains ds d) → Telling w ds

  limit_of : (w : ℕ) (o : Option PlainItem) → Telling w (limited o (by_number diag_number (told_in load w)))
  limit_of w (Some i) = too_many i refl
  limit_of w None = each (λ d c. sorted_in diag_number (told_in load w) d c)

  telling : (w : ℕ) → Telling w (diags_of load (suc w))
  unfolding wave_diags
  telling w = limit_of w (slice_get (items_in load w) most_items)

  module _ (w : ℕ) (lt : w < 6) (n : ItemNo) (Made : Type 0) where
    abbrev Ended : Type 0
    Ended = Fate load outcome (suc w) n Made

    -- what was made stands, or was made in vain
    of_made : Made → Ended
    of_made m = by ends
      where
        by : (outcome ≡ site (last (committed load))) ⊎ ((d : Diag) × (fs : List Diag) × (outcome ≡ refused (d ∷ fs))) → Ended
        by (inl e) = stands (last (committed load)) e m
        by (inr e) = in_vain (e.0 ∷ e.1) e.2 m

    -- something is wrong with the task, and no earlier wave told anything
    of_told : (d : Diag) → Contains (told_in load w) d → d.number ≡ n → (ds : List Diag) → diags_of load (suc w) ≡ ds → Telling w ds → ((e : Diag) (es : List Diag) → ds ≡ e ∷ es → outcome ≡ refused (e ∷ es)) → Ended
    of_told d c own ds e (nothing h g) f = absurd (no_element (subst (λ l. Contains l d) g c))
      where
        no_element : Contains {X = Diag} [] d → ⊥
        no_element k = let less = k.1 in omega (arith, less)
    of_told d c own ds e (too_many i h) f = over_limit i (f (diag i.number i.place ItemLimit []) [] h)
    of_told d c own [] e (each h) f = absurd (no_element (h d c))
      where
        no_element : Contains {X = Diag} [] d → ⊥
        no_element k = let less = k.1 in omega (arith, less)
    of_told d c own (x ∷ xs) e (each h) f = told d (x ∷ xs) (f x xs refl) (h d c) own

    reached : (d : Diag) → Contains (told_in load w) d → d.number ≡ n → Ended
    reached d c own =
        let at = around w lt in
        by at (earlier (λ v. v < suc w) at.before (diags_of load (suc w) ∷ at.rest) at.lower)
      where
        by : (at : Around w)
            → ((v : ℕ) × (v < suc w) × (e : Diag) × (es : List Diag) × (diags_of load v ≡ e ∷ es) × (first_told (map (diags_of load) at.before ++ (diags_of load (suc w) ∷ at.rest)) ≡ e ∷ es)) ⊎ (first_told (map (diags_of load) at.before ++ (diags_of load (suc w) ∷ at.rest)) ≡ first_told (diags_of load (suc w) ∷ at.rest))
            → Ended
        by at (inl k) = never_came k.0 k.1 (refused_by k.2 k.3 (ap first_told at.are ∙ k.5) ∙ ap refused (sym k.4))
        by at (inr k) =
            of_told d c own (diags_of load (suc w)) refl (telling w)
            (λ e es h. refused_by e es (ap first_told at.are ∙ k ∙ ap (λ l. first_told (l ∷ at.rest)) h))

    -- from what a wave accounts for to a whole commit
    fate : {A : Type 0} (Stands : A → Type 0) (a : Answer A) → IsAccounted n (told_in load w) Stands a → ((x : A) → a ≡ answer.made x → Stands x → Made) → Ended
    fate Stands (answer.made x) h k = of_made (k x refl h)
    fate Stands (answer.diagnosed []) h k = absurd (h.0 refl)
    fate Stands (answer.diagnosed (d ∷ ds)) h k = reached d h.1.0.1 h.1.0.0
    fate Stands (answer.blocked r) h k = absurd h

  -- ---- all of it

  in_site : (w : ℕ) → w < 6 → (o : PlainObject) → Contains (objects_in load w) o → Contains (committed load) (grown o (member_answer load (world_after load w) (suc w) o))
  in_site w lt o c = later_waves load (suc w) 6 (omega (arith, lt)) (grown o (member_answer load (world_after load w) (suc w) o)) ((wave_loses_nothing load w).objects o c)

  item_fate : (w : ℕ) → w < 6 → (i : PlainItem) → Contains (items_in load w) i → Fate load outcome (suc w) i.number (ItemMade load w i)
  item_fate w lt i c = fate w lt i.number (ItemMade load w i) (Contains (objects_in load w)) (item_answer (view_in load w) i) ((wave_loses_nothing load w).items i c) (λ o e h. (o, e, in_site w lt o h))

  rule_fate : (w : ℕ) → w < 6 → (r : PlainRule) → Contains load.rules r → is_in_wave (suc w) r.kind ≡ true → (t : Target) → Contains (targets r.target (world_after load w).objects) t → Fate load outcome (suc w) (pair_number r t) (RuleMade load w r t)
  rule_fate w lt r c e t d =
      fate w lt (pair_number r t) (RuleMade load w r t) (AllByRecursion (Contains (items_in load w))) (instances (view_in load w) r t) ((wave_loses_nothing load w).rules r c e t d) (λ is f h. (is, f, h))

  member_fate : (w : ℕ) → w < 6 → (o : PlainObject) → Contains (objects_in load w) o → Fate load outcome (suc w) o.number (MemberMade load w o)
  member_fate w lt o c =
      fate w lt o.number (MemberMade load w o) (λ ns. Unit {0}) (member_answer load (world_after load w) (suc w) o) ((wave_loses_nothing load w).members o c)
      (λ ns e h. (ns, e, subst (λ a. Contains (committed load) (grown o a)) e (in_site w lt o c)))

  module _ (is : IsRegistered load) where
    item_wave : (i : PlainItem) → Contains load.items i → (w : ℕ) × (w < 6) × Contains (items_in load w) i
    item_wave i c =
        let has = has_wave i.kind (of_one IsRegisteredItem load.items i is.items c).known in
        (has.0, has.1, (wave_loses_nothing load has.0).registered i c has.2)

    rule_wave : (r : PlainRule) → Contains load.rules r → (w : ℕ) × (w < 6) × (is_in_wave (suc w) r.kind ≡ true)
    rule_wave r c = has_wave r.kind (of_one IsRegisteredRule load.rules r is.rules c).known

    pub commit_loses_nothing : CommitLosesNothing load outcome
    commit_loses_nothing = record { registered = item_wave; registered_rules = rule_wave; items = item_fate; rules = rule_fate; members = member_fate }
