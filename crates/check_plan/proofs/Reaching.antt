-- What holds back checks looks at what the ancestors show alone.
use Rattle.std.proofs.Common.{◌≡◌, ◌<◌, ◌&&◌, ◌||◌, not, ℕ, zero, suc, ◌+◌, List, [], ◌∷◌, ◌++◌, length, map, slice_get, nat_eq, cond, Bool, true, false, Option, Some, refl, sym, ap, ◌∙◌, subst, arith, eqb-true, eq-eqb}
use Rattle.std.specs.List.{list_any}
use Rattle.std.proofs.lemmas.Bool.{and_parts}
use Rattle.std.proofs.lemmas.List.{append-nil}
use Rattle.jiff_tz.specs.declared.tzif.Tzif.{Tzif}
use Rattle.checkable_core.specs.Contents.{check_at, check_or}
use Rattle.depend_graph.specs.Graph.{HasOrder}
use Rattle.depend_graph.specs.Outlooks.{holds_in, outlook_of, seen_as}
use Rattle.depend_graph.specs.declared.purpose.Purpose.{Purpose}
use Rattle.depend_graph.specs.Parents.{has}
use Rattle.depend_graph.proofs.Steps.{any_same, parent_has}
use Rattle.run_meaning.specs.Acts.{Seen}
use Rattle.run_meaning.specs.Reachability.{Outlook, ancestors, depend_or, fails, first_back, for_checks, holds_back, host_back, host_in, is_down, is_for, is_held, parents_of, period_holds, reach_in, reach_of, same_group, stand_together, view_among}
use Rattle.run_meaning.specs.Schedule.{outlook_after, seen_after, view_of_index}
use Rattle.run_meaning.specs.Turns.{Histories, of_index}
use Rattle.run_meaning.specs.View.{view_of}
use Rattle.site_model.specs.PlainSite.{PlainCheck, PlainSite}
use Rattle.site_model.specs.declared.depend_spec.DependSpec.{DependSpec}
use Rattle.site_model.specs.declared.view.View.{View}
use Rattle.site_posts.specs.Sights.{shown, shown_by}

module _ (s : PlainSite) (holds : ℕ → ℕ → Bool) (moment : ℕ) (xs ys : List Seen) where
  abbrev on : List Seen → Outlook
  on zs = record { site = s; holds = holds; purpose = for_checks; moment = moment; seen = zs }

  module _ (b b' : ℕ → Bool) (c : ℕ) (agree : (q : ℕ) → has q (parents_of s c) ≡ true → b q ≡ b' q) (see : (q : ℕ) → has q (parents_of s c) ≡ true → view_among q xs ≡ view_among q ys) where
    at_depend : (k : ℕ) (d : DependSpec) → slice_get s.depends k ≡ Some d → nat_eq d.child c ≡ true → is_down (on xs) b d ≡ is_down (on ys) b' d
    at_depend k d at q =
        let up = parent_has s c k d at q in
        ap (λ t. is_for for_checks d && (period_holds holds d.period moment && (t || fails d (view_among d.parent xs)))) (agree d.parent up)
        ∙ ap (λ v. is_for for_checks d && (period_holds holds d.period moment && (b' d.parent || fails d v))) (see d.parent up)

    holds_same : (k : ℕ) (d : DependSpec) → slice_get s.depends k ≡ Some d → nat_eq d.child c ≡ true → holds_back (on xs) b d ≡ holds_back (on ys) b' d
    holds_same k d at q =
        ap (λ t. t && not (list_any (λ (e : DependSpec). stand_together d e && not (is_down (on xs) b e)) s.depends)) (at_depend k d at q)
        ∙ ap (λ t. is_down (on ys) b' d && not t) (any_same (λ (e : DependSpec). stand_together d e && not (is_down (on xs) b e)) (λ (e : DependSpec). stand_together d e && not (is_down (on ys) b' e)) s.depends one)
      where
        one : (j : ℕ) (e : DependSpec) → slice_get s.depends j ≡ Some e → (stand_together d e && not (is_down (on xs) b e)) ≡ (stand_together d e && not (is_down (on ys) b' e))
        one j e here = by (stand_together d e) refl
          where
            by : (t : Bool) → stand_together d e ≡ t → (t && not (is_down (on xs) b e)) ≡ (t && not (is_down (on ys) b' e))
            by false h = refl
            by true h =
                let child = (and_parts (nat_eq d.child e.child) (same_group d.group e.group) h).0 in
                ap not (at_depend j e here (subst (λ z. nat_eq z c ≡ true) (eqb-true d.child e.child child) q))

    first_same : (k : ℕ) (ds : List DependSpec) → ((i : ℕ) (d : DependSpec) → slice_get ds i ≡ Some d → nat_eq d.child c ≡ true → holds_back (on xs) b d ≡ holds_back (on ys) b' d) → first_back (on xs) b c k ds ≡ first_back (on ys) b' c k ds
    first_same k [] h = refl
    first_same k (d ∷ ds) h = by (nat_eq d.child c) refl (first_same (suc k) ds (λ i. h (suc i)))
      where
        by : (t : Bool) → nat_eq d.child c ≡ t → first_back (on xs) b c (suc k) ds ≡ first_back (on ys) b' c (suc k) ds
            → cond (t && holds_back (on xs) b d) (Some k) (first_back (on xs) b c (suc k) ds) ≡ cond (t && holds_back (on ys) b' d) (Some k) (first_back (on ys) b' c (suc k) ds)
        by false q e = e
        by true q e = ap (λ t. cond t (Some k) (first_back (on xs) b c (suc k) ds)) (h 0 d refl q) ∙ ap (λ r. cond (holds_back (on ys) b' d) (Some k) r) e

    host_same : (hs : List ℕ) → host_back (on xs) b for_checks hs ≡ host_back (on ys) b' for_checks hs
    host_same hs = refl

    one_step : depend_or (first_back (on xs) b c 0 s.depends) (host_back (on xs) b for_checks (host_in (slice_get s.checkables c))) ≡ depend_or (first_back (on ys) b' c 0 s.depends) (host_back (on ys) b' for_checks (host_in (slice_get s.checkables c)))
    one_step =
        ap (λ r. depend_or r (host_back (on xs) b for_checks (host_in (slice_get s.checkables c)))) (first_same 0 s.depends holds_same)
        ∙ ap (depend_or (first_back (on ys) b' c 0 s.depends)) (host_same (host_in (slice_get s.checkables c)))

  -- where both show the same of all above one
  module _ (order : HasOrder s) (top : ℕ) (within : top < length s.checkables) (see : (q : ℕ) → has q (ancestors s top) ≡ true → view_among q xs ≡ view_among q ys) where
    same_from : (n c : ℕ) → ((q : ℕ) → has q (parents_of s c) ≡ true → has q (ancestors s top) ≡ true) → reach_in (on xs) n c ≡ reach_in (on ys) n c
    same_from zero c up = refl
    same_from (suc n) c up =
        one_step (λ p. is_held (reach_in (on xs) n p)) (λ p. is_held (reach_in (on ys) n p)) c
        (λ q is. ap is_held (same_from n q (λ r above. order.further top q r within (up q is) above)))
        (λ q is. see q (up q is))

    same_reach : reach_of (on xs) top ≡ reach_of (on ys) top
    same_reach = same_from (length s.checkables) top (λ q is. order.parents top q within is)

-- What is shown of each.

module _ (s : PlainSite) (h : Histories) where
  abbrev view_at : ℕ → View
  view_at p = view_of (check_at s p) (of_index p h)

  among_shown : (q : ℕ) (ps : List ℕ) → has q ps ≡ true → view_among q (map seen_as (map (shown_by s h) ps)) ≡ Some (view_at q)
  among_shown q [] is = absurd cc
  among_shown q (p ∷ ps) is = by (nat_eq p q) refl (among_shown q ps)
    where
      later : nat_eq p q ≡ false → (u : Bool) → nat_eq q p ≡ u → (u || has q ps) ≡ true → has q ps ≡ true
      later e false f g = g
      later e true f g = let both : true ≡ false = sym (eq-eqb p q (sym (eqb-true q p f))) ∙ e in absurd cc

      by : (t : Bool) → nat_eq p q ≡ t → (has q ps ≡ true → view_among q (map seen_as (map (shown_by s h) ps)) ≡ Some (view_at q)) → cond t (Some (view_at p)) (view_among q (map seen_as (map (shown_by s h) ps))) ≡ Some (view_at q)
      by true e rest = ap (λ n. Some (view_at n)) (eqb-true p q e)
      by false e rest = rest (later e (nat_eq q p) refl is)

  abbrev told : ℕ → PlainCheck → View
  told p c = view_of c (of_index p h ++ of_index p [])

  among_all : (k i q : ℕ) (cs : List PlainCheck) → q ≡ k + i → i < length cs → view_among q (seen_after k cs h []) ≡ Some (told q (check_or (slice_get cs i)))
  among_all k i q [] at l = absurd (omega (arith, l))
  among_all k zero q (c ∷ cs) at l =
      let same : k ≡ q = omega (arith, at) in
      ap (λ t. cond t (Some (told k c)) (view_among q (seen_after (suc k) cs h []))) (eq-eqb k q same) ∙ ap (λ n. Some (told n c)) same
  among_all k (suc i) q (c ∷ cs) at l = by (nat_eq k q) refl (among_all (suc k) i q cs (omega (arith, at)) (omega (arith, l)))
    where
      by : (t : Bool) → nat_eq k q ≡ t → view_among q (seen_after (suc k) cs h []) ≡ Some (told q (check_or (slice_get cs i))) → cond t (Some (told k c)) (view_among q (seen_after (suc k) cs h [])) ≡ Some (told q (check_or (slice_get cs i)))
      by true e rest = let same = eqb-true k q e in absurd (omega (arith, at, same))
      by false e rest = rest

  whole : (q : ℕ) (c : PlainCheck) → told q c ≡ view_of c (of_index q h)
  whole q c = ap (view_of c) (append-nil (of_index q h))

  -- the view of the checkable at a place among all
  at_place : (k i : ℕ) (cs : List PlainCheck) → i < length cs → view_of_index i (seen_after k cs h []) ≡ Some (told (k + i) (check_or (slice_get cs i)))
  at_place k i [] l = absurd (omega (arith, l))
  at_place k zero (c ∷ cs) l = let z : k ≡ k + 0 = omega arith in ap (λ n. Some (told n c)) z
  at_place k (suc i) (c ∷ cs) l =
      let z : suc k + i ≡ k + suc i = omega arith in
      at_place (suc k) i cs (omega (arith, l)) ∙ ap (λ n. Some (told n (check_or (slice_get cs i)))) z

  pub view_is : (k : ℕ) → k < length s.checkables → view_of_index k (seen_after 0 s.checkables h []) ≡ Some (view_at k)
  view_is k l =
      let z : 0 + k ≡ k = omega arith in
      at_place 0 k s.checkables l ∙ ap (λ n. Some (told n (check_at s k))) z ∙ ap Some (whole k (check_at s k))

  -- what holds back the checks of one, by what is shown above it, and by what all show
  pub reach_is : (zone : Option Tzif) (moment k : ℕ) → HasOrder s → k < length s.checkables → ((q : ℕ) → has q (ancestors s k) ≡ true → q < length s.checkables)
      → reach_of (outlook_of s zone Purpose.Checks moment (shown s h k)) k ≡ reach_of (outlook_after s (holds_in s zone) moment h []) k
  reach_is zone moment k order l own =
      same_reach s (holds_in s zone) moment (map seen_as (shown s h k)) (seen_after 0 s.checkables h []) order k l
      (λ q above. among_shown q (ancestors s k) above ∙ sym (among_all 0 q q s.checkables (omega arith) (own q above) ∙ ap Some (whole q (check_at s q))))
