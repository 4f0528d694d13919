-- The answers of an outlook: what is known of a parent, and what holds one back.
use Rattle.std.proofs.Common.{◌≡◌, ◌<◌, ◌||◌, ℕ, List, length, map, get_or, slice_get, option_to_list, Bool, true, false, Option, None, Some, refl, sym, ap, ◌∙◌}
use Rattle.std.proofs.lemmas.Bool.{or_left}
use Rattle.std.proofs.lemmas.Option.{slice_get-get_or}
use Rattle.site_model.specs.PlainSite.{PlainSite, check_view}
use Rattle.site_model.specs.declared.check_spec.CheckSpec.{CheckSpec}
use Rattle.run_meaning.proofs.Lists.{get_of_map, within}
use Rattle.run_meaning.specs.Reachability.{Outlook, Reach, depend_or, held_by_depend, host_back, host_in}
use Rattle.run_meaning.specs.Turns.{of_index}
use Rattle.depend_graph.specs.Outlooks.{first_of, leads_back, step_of}
use Rattle.depend_graph.specs.Teams.{AreTeams}
use Rattle.depend_graph.proofs.Firsts.{first_is}
use Rattle.depend_graph.proofs.Has.{stands_at}

-- Either of two tests of a parent.

pub either_true : (a b r : Bool) → a ≡ true → r ≡ true → r ≡ (a || b)
either_true a b r h q = q ∙ sym (or_left a b h)

pub either_other : (a b c r : Bool) → a ≡ false → b ≡ c → r ≡ c → r ≡ (a || b)
either_other a b c r h k q = q ∙ sym k ∙ ap (λ t. t || b) (sym h)

-- Leaders.

pub leader_in_range : (s : PlainSite) (leaders followers : List (List ℕ)) → AreTeams s leaders followers → (c i : ℕ) → i < length (of_index c leaders) → get_or (of_index c leaders) i 0 < length s.depends
leader_in_range s leaders followers teams c i l =
    let k = get_or (of_index c leaders) i 0 in
    let (d, at, child) = teams.child c k (stands_at k (of_index c leaders) i 0 l refl) in within s.depends k d at

-- What holds one back.

module _ (o : Outlook) (b : ℕ → Bool) (c : ℕ) (leaders followers : List (List ℕ)) (teams : AreTeams o.site leaders followers) where
  abbrev hosts : List ℕ
  hosts = host_in (slice_get o.site.checkables c)

  pub step_some : (k : ℕ) → Some k ≡ first_of (leads_back o b followers) (of_index c leaders) → held_by_depend k ≡ step_of o b c
  step_some k h = ap (λ r. depend_or r (host_back o b o.purpose hosts)) (h ∙ first_is o b c leaders followers teams)

  pub step_none : (r : Reach) → None ≡ first_of (leads_back o b followers) (of_index c leaders) → r ≡ host_back o b o.purpose hosts → r ≡ step_of o b c
  step_none r h q = q ∙ ap (λ z. depend_or z (host_back o b o.purpose hosts)) (h ∙ first_is o b c leaders followers teams)

-- the host of a checkable, by the host that it sets
module _ (xs : List CheckSpec) (c : ℕ) (x : CheckSpec) (inside : c < length xs) (at : x ≡ get_or xs c x) where
  pub its_host : (h : Option ℕ) → x.host ≡ h → host_in (slice_get (map check_view xs) c) ≡ host_in (Some (record (check_view x) { host = h }))
  its_host h is =
      ap host_in (get_of_map check_view xs c x (slice_get-get_or xs c x inside ∙ ap Some (sym at))) ∙ ap (λ (o : Option ℕ). host_in (Some (record (check_view x) { host = o }))) is

  pub own_host : host_in (slice_get (map check_view xs) c) ≡ option_to_list x.host
  own_host = its_host x.host refl ∙ by x.host
    where
      by : (h : Option ℕ) → host_in (Some (record (check_view x) { host = h })) ≡ option_to_list h
      by None = refl
      by (Some h) = refl
