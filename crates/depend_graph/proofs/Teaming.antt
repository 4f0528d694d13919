-- The lists of leaders and of those that they lead are those of dependencies that stand together.
use Rattle.std.proofs.Common.{◌≡◌, ◌≢◌, ◌<◌, ◌≤◌, ◌+◌, ◌⊎◌, inl, inr, ℕ, List, length, take, slice_get, true, Some, AllPairs, sym, ap, ◌∙◌, subst, arith}
use Rattle.site_model.specs.PlainSite.{PlainSite}
use Rattle.site_model.specs.declared.depend_spec.DependSpec.{DependSpec}
use Rattle.run_meaning.proofs.Lists.{get_within, one_at, within}
use Rattle.run_meaning.specs.Turns.{of_index}
use Rattle.depend_graph.specs.Parents.{has}
use Rattle.depend_graph.specs.Teams.{AreTeams, Together, all_leaders, following, leader_in, leading}
use Rattle.depend_graph.proofs.Firsts.{same_child}
use Rattle.depend_graph.proofs.Leaders.{following_has, following_own, leader_alone, leader_at, leader_of_get, leading_has, leading_own, leading_rises, leads_low, together_led, with_leader}

module _ (s : PlainSite) (leaders followers : List (List ℕ)) (rows : (c : ℕ) → of_index c leaders ≡ leading 0 c s.depends (all_leaders s.depends))
    (led : (k : ℕ) → of_index k followers ≡ following 0 k (all_leaders s.depends)) where
  abbrev ds : List DependSpec
  ds = s.depends

  abbrev leads : ℕ → DependSpec → ℕ
  leads k d = leader_in (take k ds) d

  none_more : (i : ℕ) → 0 + i ≡ i
  none_more i = omega arith

  own : (c k : ℕ) → has k (of_index c leaders) ≡ true → (d : DependSpec) × (slice_get ds k ≡ Some d) × (slice_get (all_leaders ds) k ≡ Some k) × (d.child ≡ c)
  own c k h =
      let (i, d, is, at, at_l, child) = leading_own 0 c ds (all_leaders ds) k (ap (has k) (sym (rows c)) ∙ h) in
      let same : i ≡ k = omega (arith, is) in
      (d, ap (slice_get ds) (sym same) ∙ at, ap (slice_get (all_leaders ds)) (sym same) ∙ at_l, child)

  its_leader : (k : ℕ) (d : DependSpec) → slice_get ds k ≡ Some d → (j : ℕ) × (j ≤ k) × (has j (of_index d.child leaders) ≡ true) × ((j ≡ k) ⊎ Together ds j k)
  its_leader k d at = (leads k d, leads_low ds k d at, there, with_leader ds k d at)
    where
      found : (e : DependSpec) × (slice_get ds (leads k d) ≡ Some e)
      found = let low = leads_low ds k d at in let w = within ds k d at in get_within ds (leads k d) (omega (arith, low, w))

      child : found.0.child ≡ d.child
      child = by (with_leader ds k d at)
        where
          by : (leads k d ≡ k) ⊎ Together ds (leads k d) k → found.0.child ≡ d.child
          by (inl e) = ap (λ (z : DependSpec). z.child) (one_at ds k found.0 d (ap (slice_get ds) (sym e) ∙ found.1) at)
          by (inr (e, f, at_l, at_k, stands)) =
              ap (λ (z : DependSpec). z.child) (one_at ds (leads k d) found.0 e found.1 at_l) ∙ same_child e f stands ∙ ap (λ (z : DependSpec). z.child) (one_at ds k f d at_k at)

      there : has (leads k d) (of_index d.child leaders) ≡ true
      there =
          ap (has (leads k d)) (rows d.child) ∙ ap (λ z. has z (leading 0 d.child ds (all_leaders ds))) (sym (none_more (leads k d)))
          ∙ leading_has 0 d.child ds (all_leaders ds) (leads k d) found.0 found.1 (leader_of_get ds (leads k d) found.0 found.1 ∙ ap Some (leader_alone ds k d found.0 at found.1 ∙ sym (none_more (leads k d)))) child

  its_followers : (c k j : ℕ) → has k (of_index c leaders) ≡ true → (has j (of_index k followers) ≡ true → (j ≢ k) × Together ds k j) × ((j ≢ k) × Together ds k j → has j (of_index k followers) ≡ true)
  its_followers c k j h = (to, from)
    where
      to : has j (of_index k followers) ≡ true → (j ≢ k) × Together ds k j
      to q =
          let (i, is, at_l, apart) = following_own 0 k (all_leaders ds) j (ap (has j) (sym (led k)) ∙ q) in
          let same : i ≡ j = omega (arith, is) in
          let (e, at_j, leader) = leader_at ds j k (ap (slice_get (all_leaders ds)) (sym same) ∙ at_l) in
          (apart, on e leader (with_leader ds j e at_j) apart)
        where
          on : (e : DependSpec) → k ≡ leads j e → (leads j e ≡ j) ⊎ Together ds (leads j e) j → j ≢ k → Together ds k j
          on e leader (inl q) apart = absurd (apart (sym q ∙ sym leader))
          on e leader (inr t) apart = subst (λ z. Together ds z j) (sym leader) t

      from : (j ≢ k) × Together ds k j → has j (of_index k followers) ≡ true
      from (apart, (d', e, at_k, at_j, stands)) =
          let (d, at, at_l, child) = own c k h in
          let (d'', at', leader) = leader_at ds k k at_l in
          let one : d'' ≡ d' = one_at ds k d'' d' at' at_k in
          let alone : leads k d' ≡ k = ap (leads k) (sym one) ∙ sym leader in
          let mine : leads j e ≡ k = together_led ds k j d' e at_k at_j alone apart stands in
          ap (has j) (led k) ∙ ap (λ z. has z (following 0 k (all_leaders ds))) (sym (none_more j))
          ∙ following_has 0 k (all_leaders ds) j (leader_of_get ds j e at_j ∙ ap Some mine) (λ q. apart (sym (none_more j) ∙ q))

  pub teams_are : length leaders ≡ length s.checkables → length followers ≡ length s.depends → AreTeams s leaders followers
  teams_are checkables depends = record {
    checkables = checkables;
    depends = depends;
    child = λ c k h. let (d, at, at_l, child) = own c k h in (d, at, child);
    rising = λ c. subst (AllPairs (λ j k. j < k)) (sym (rows c)) (leading_rises 0 c ds (all_leaders ds));
    led = its_leader;
    others = its_followers;
  }
