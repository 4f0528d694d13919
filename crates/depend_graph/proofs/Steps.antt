-- What holds one back looks at its parents alone, and no further up than there are ancestors.
use Rattle.std.proofs.Common.{◌≡◌, ◌<◌, ◌&&◌, ◌||◌, not, ℕ, zero, suc, List, [], ◌∷◌, length, map, filter, slice_get, nat_eq, cond, Bool, true, false, Some, refl, sym, ap, ◌∙◌, subst, arith, eqb-true}
use Rattle.std.specs.List.{list_any}
use Rattle.std.proofs.lemmas.List.Folds.{list_any-append}
use Rattle.std.proofs.lemmas.Bool.{and_parts, or_left, or_right}
use Rattle.site_model.specs.PlainSite.{PlainSite}
use Rattle.site_model.specs.declared.depend_spec.DependSpec.{DependSpec}
use Rattle.run_meaning.specs.Reachability.{Outlook, Purpose, for_checks, for_notes, ancestors, depend_or, fails, first_back, held_by_host, reachable, holds_back, host_back, host_in, is_down, is_for, is_hard_down, is_held, parents_of, period_holds, reach_in, reach_of, same_group, stand_together, view_among}
use Rattle.depend_graph.specs.Graph.{HasOrder}
use Rattle.depend_graph.specs.Outlooks.{step_of}
use Rattle.depend_graph.specs.Parents.{has, given}
use Rattle.depend_graph.proofs.Has.{eq_self}
use Rattle.depend_graph.proofs.Ancestors.{ancestor_in}

-- Parents.

given_has : (c : ℕ) (ds : List DependSpec) (k : ℕ) (d : DependSpec) → slice_get ds k ≡ Some d → nat_eq d.child c ≡ true → has d.parent (given c ds) ≡ true
given_has c [] k d at q = absurd cc
given_has c (e ∷ ds) zero d at q =
    let same : e ≡ d = cc in
    subst (λ (z : DependSpec). has d.parent (given c (z ∷ ds)) ≡ true) (sym same)
    (ap (λ t. has d.parent (map (λ (f : DependSpec). f.parent) (cond t (d ∷ filter (λ (f : DependSpec). nat_eq f.child c) ds) (filter (λ (f : DependSpec). nat_eq f.child c) ds)))) q
    ∙ or_left (nat_eq d.parent d.parent) (has d.parent (given c ds)) (eq_self d.parent))
given_has c (e ∷ ds) (suc k) d at q = by (nat_eq e.child c) (given_has c ds k d at q)
  where
    by : (t : Bool) → has d.parent (given c ds) ≡ true
        → has d.parent (map (λ (f : DependSpec). f.parent) (cond t (e ∷ filter (λ (f : DependSpec). nat_eq f.child c) ds) (filter (λ (f : DependSpec). nat_eq f.child c) ds))) ≡ true
    by true h = or_right (nat_eq d.parent e.parent) (has d.parent (given c ds)) h
    by false h = h

pub parent_has : (s : PlainSite) (c k : ℕ) (d : DependSpec) → slice_get s.depends k ≡ Some d → nat_eq d.child c ≡ true → has d.parent (parents_of s c) ≡ true
parent_has s c k d at q =
    list_any-append (nat_eq d.parent) (host_in (slice_get s.checkables c)) (given c s.depends)
    ∙ or_right (has d.parent (host_in (slice_get s.checkables c))) (has d.parent (given c s.depends)) (given_has c s.depends k d at q)

pub host_has : (s : PlainSite) (c h : ℕ) (hs : List ℕ) → host_in (slice_get s.checkables c) ≡ h ∷ hs → has h (parents_of s c) ≡ true
host_has s c h hs e =
    list_any-append (nat_eq h) (host_in (slice_get s.checkables c)) (given c s.depends)
    ∙ or_left (has h (host_in (slice_get s.checkables c))) (has h (given c s.depends)) (ap (has h) e ∙ or_left (nat_eq h h) (has h hs) (eq_self h))

-- Where two tests agree at the parents.

pub any_same : {A : Type 0} (test other : A → Bool) (xs : List A) → ((k : ℕ) (x : A) → slice_get xs k ≡ Some x → test x ≡ other x) → list_any test xs ≡ list_any other xs
any_same test other [] h = refl
any_same test other (x ∷ xs) h = ap (λ b. b || list_any test xs) (h 0 x refl) ∙ ap (λ b. other x || b) (any_same test other xs (λ k. h (suc k)))

pub down_same : (o : Outlook) (b b' : ℕ → Bool) (d : DependSpec) → b d.parent ≡ b' d.parent → is_down o b d ≡ is_down o b' d
down_same o b b' d h = ap (λ t. is_for o.purpose d && (period_holds o.holds d.period o.moment && (t || fails d (view_among d.parent o.seen)))) h

module _ (o : Outlook) (b b' : ℕ → Bool) (c : ℕ) (agree : (q : ℕ) → has q (parents_of o.site c) ≡ true → b q ≡ b' q) where
  at_depend : (k : ℕ) (d : DependSpec) → slice_get o.site.depends k ≡ Some d → nat_eq d.child c ≡ true → is_down o b d ≡ is_down o b' d
  at_depend k d at q = down_same o b b' d (agree d.parent (parent_has o.site c k d at q))

  holds_same : (k : ℕ) (d : DependSpec) → slice_get o.site.depends k ≡ Some d → nat_eq d.child c ≡ true → holds_back o b d ≡ holds_back o b' d
  holds_same k d at q =
      ap (λ t. t && not (list_any (λ (e : DependSpec). stand_together d e && not (is_down o b e)) o.site.depends)) (at_depend k d at q)
      ∙ ap (λ t. is_down o b' d && not t) (any_same (λ (e : DependSpec). stand_together d e && not (is_down o b e)) (λ (e : DependSpec). stand_together d e && not (is_down o b' e)) o.site.depends one)
    where
      one : (j : ℕ) (e : DependSpec) → slice_get o.site.depends j ≡ Some e → (stand_together d e && not (is_down o b e)) ≡ (stand_together d e && not (is_down o b' e))
      one j e here = by (stand_together d e) refl
        where
          by : (t : Bool) → stand_together d e ≡ t → (t && not (is_down o b e)) ≡ (t && not (is_down o b' e))
          by false h = refl
          by true h =
              let child = (and_parts (nat_eq d.child e.child) (same_group d.group e.group) h).0 in
              ap not (at_depend j e here (subst (λ z. nat_eq z c ≡ true) (eqb-true d.child e.child child) q))

  first_same : (k : ℕ) (ds : List DependSpec) → ((i : ℕ) (d : DependSpec) → slice_get ds i ≡ Some d → nat_eq d.child c ≡ true → holds_back o b d ≡ holds_back o b' d) → first_back o b c k ds ≡ first_back o b' c k ds
  first_same k [] h = refl
  first_same k (d ∷ ds) h = by (nat_eq d.child c) refl (first_same (suc k) ds (λ i. h (suc i)))
    where
      by : (t : Bool) → nat_eq d.child c ≡ t → first_back o b c (suc k) ds ≡ first_back o b' c (suc k) ds
          → cond (t && holds_back o b d) (Some k) (first_back o b c (suc k) ds) ≡ cond (t && holds_back o b' d) (Some k) (first_back o b' c (suc k) ds)
      by false q e = e
      by true q e = ap (λ t. cond t (Some k) (first_back o b c (suc k) ds)) (h 0 d refl q) ∙ ap (λ r. cond (holds_back o b' d) (Some k) r) e

  host_same : (purpose : Purpose) (hs : List ℕ) → host_in (slice_get o.site.checkables c) ≡ hs → host_back o b purpose hs ≡ host_back o b' purpose hs
  host_same for_checks hs e = refl
  host_same for_notes [] e = refl
  host_same for_notes (h ∷ hs) e =
      ap (λ t. cond (t || is_hard_down (view_among h o.seen)) (held_by_host h) reachable) (agree h (host_has o.site c h hs e))

  pub step_same : step_of o b c ≡ step_of o b' c
  step_same =
      ap (λ r. depend_or r (host_back o b o.purpose (host_in (slice_get o.site.checkables c)))) (first_same 0 o.site.depends holds_same)
      ∙ ap (depend_or (first_back o b' c 0 o.site.depends)) (host_same o.purpose (host_in (slice_get o.site.checkables c)) refl)

-- As many steps as there are ancestors are enough.

module _ (o : Outlook) (order : HasOrder o.site) where
  abbrev rank : ℕ → ℕ
  rank c = length (ancestors o.site c)

  enough : (m n c : ℕ) → c < length o.site.checkables → rank c < m → rank c < n → reach_in o m c ≡ reach_in o n c
  enough zero n c within h k = absurd (omega (arith, h))
  enough (suc m) zero c within h k = absurd (omega (arith, k))
  enough (suc m) (suc n) c within h k =
      step_same o (λ p. is_held (reach_in o m p)) (λ p. is_held (reach_in o n p)) c
      (λ q up.
      let low = order.fewer c q within up in
      ap is_held (enough m n q (ancestor_in o.site c q (order.parents c q within up)) (omega (arith, low, h)) (omega (arith, low, k))))

  -- what holds one back, by what holds its parents back
  pub reach_step : (c : ℕ) → c < length o.site.checkables → reach_of o c ≡ step_of o (λ q. is_held (reach_of o q)) c
  reach_step c within = by (length o.site.checkables) (order.few c within) refl
    where
      by : (n : ℕ) → rank c < n → n ≡ length o.site.checkables → reach_in o n c ≡ step_of o (λ q. is_held (reach_of o q)) c
      by zero h e = absurd (omega (arith, h))
      by (suc n) h e =
          step_same o (λ p. is_held (reach_in o n p)) (λ p. is_held (reach_of o p)) c
          (λ q up.
          let low = order.fewer c q within up in
          let inside = ancestor_in o.site c q (order.parents c q within up) in
          ap is_held (enough n (length o.site.checkables) q inside (omega (arith, low, h)) (order.few q inside)))
