-- Each round is made so.
use Rattle.std.proofs.Common.{◌≡◌, ◌<◌, ◌≤◌, ◌+◌, ℕ, zero, suc, List, [], ◌∷◌, ◌++◌, length, take, drop, map, filter, slice_get, nat_eq, nat_le, cond, Bool, true, false, ◌&&◌, Some, None, Option, refl, sym, ap, ◌∙◌, subst, arith, length-append, append_assoc, take_at, eqb-true, eq-eqb, inl, inr, ◌⊎◌}
use Rattle.std.proofs.lemmas.List.{append-nil}
use Rattle.std.proofs.lemmas.Bool.Decides.{nat_tests}
use Rattle.std.proofs.lemmas.Slice.Eq.{bytes_eq-Decides}
use Rattle.std.specs.List.{list_all}
use Rattle.std.specs.Str.{bytes_eq}
use Rattle.site_model.specs.PlainSite.{PlainCheck}
use Rattle.site_model.specs.declared.entry.Entry.{Entry}
use Rattle.site_model.specs.declared.event.Event.{Event}
use Rattle.site_model.specs.declared.sight.Sight.{Sight}
use Rattle.run_meaning.specs.Turns.{Asked, Histories, of_index}
use Rattle.run_meaning.specs.Acts.{Rules, Seen, entry_of}
use Rattle.run_meaning.specs.Rounds.{behind, entries_by, events_on, all_seen, IsMade, IsRound}
use Rattle.run_meaning.specs.Alone.{with_entry}
use Rattle.run_meaning.specs.Runs.{no_entries}
use Rattle.run_meaning.proofs.Lists.{get_at, get_map, get_of_map, within, length_map, length-with_entry, with_entry_at, of_index_nothing, keeps_append, kept_at, take_next, take_whole, same_of_index, keeps_fewer}
use Rattle.run_meaning.proofs.Meeting.{seen_agree}
use Rattle.round_check.specs.declared.told.Told.{Told}
use Rattle.round_check.specs.Making.{told_of, told_on, event_for, is_sight, are_sights, entry_told, adding_told, made_with, then_made, made_from, AreParentsFirst}
use Rattle.round_check.proofs.Growing.{both_so, all_so, drop_whole}

so_le : (a b : ℕ) → a ≤ b → nat_le a b ≡ true
so_le a b h = grind (arith, nat_tests)

module _ (r : Rules) (moment : ℕ) (before : Histories) (events : List (List Asked)) (round : Histories) (x : IsRound r moment before events round)
    (order : List Told) (first : AreParentsFirst r.ancestors order) (same : (c : ℕ) → told_on c order ≡ map (told_of c) (of_index c round)) where
  -- so many of a checkable were made
  abbrev IsSoFar : List Told → Histories → Type 0
  IsSoFar done part = (c : ℕ) → of_index c part ≡ take (length (told_on c done)) (of_index c round)

  module _ (done todo : List Told) (t : Told) (part : Histories) (whole : order ≡ done ++ t ∷ todo) (len : length part ≡ length r.site.checkables) (so_far : IsSoFar done part) where
    abbrev c : ℕ
    c = t.checkable

    abbrev n : ℕ
    n = length (told_on c done)

    at : slice_get order (length done) ≡ Some t
    at = ap (λ z. slice_get z (length done)) whole ∙ get_at done todo t

    told_at : slice_get (map (told_of c) (of_index c round)) n ≡ Some t
    told_at =
        let cut : take (length done) order ≡ done = ap (take (length done)) whole ∙ take_at done (t ∷ todo) (length done) refl in
        ap (λ z. slice_get z n) (sym (same c))
        ∙ ap (λ z. slice_get (told_on c order) (length (told_on c z))) (sym cut)
        ∙ kept_at (λ (u : Told). nat_eq u.checkable c) order (length done) t at (eq-eqb c c refl)

    abbrev found : (e : Entry) × (slice_get (of_index c round) n ≡ Some e) × (told_of c e ≡ t)
    found = get_map (told_of c) (of_index c round) n t told_at

    -- all of an ancestor stands
    all_of : (j p : ℕ) → slice_get (r.ancestors c) j ≡ Some p → of_index p part ≡ of_index p round
    all_of j p h =
        let none : told_on p (t ∷ todo) ≡ [] = ap (told_on p) (sym (drop_whole done (t ∷ todo)) ∙ ap (drop (length done)) (sym whole)) ∙ first (length done) j p t at h in
        let all : told_on p order ≡ told_on p done = ap (told_on p) whole ∙ keeps_append (λ (u : Told). nat_eq u.checkable p) done (t ∷ todo) ∙ ap (λ z. told_on p done ++ z) none ∙ append-nil (told_on p done) in
        let many : length (told_on p done) ≡ length (of_index p round) = ap length (sym all ∙ same p) ∙ length_map (told_of p) (of_index p round) in
        so_far p ∙ ap (λ z. take z (of_index p round)) many ∙ take_whole (of_index p round)

    module _ (e : Entry) (stands : slice_get (of_index c round) n ≡ Some e) (is : told_of c e ≡ t) where
      abbrev m : IsMade r moment (behind before round) c (of_index c before ++ take n (of_index c round)) e
      m = x.made c n e stands

      caller : e.caller ≡ t.caller
      caller = ap (λ (u : Told). u.caller) is

      sights : e.sights ≡ t.sights
      sights = ap (λ (u : Told). u.sights) is

      fits : c < length part
      fits = omega (arith, within r.site.checkables c m.check m.is, len)

      -- the event comes next
      comes : event_for events part t ≡ Some e.event
      comes =
          let k = t.caller in
          let mine : nat_eq e.caller k ≡ true = eq-eqb e.caller k caller in
          let lt : k < length events = subst (λ z. z < length events) caller (x.callers c n e stands) in
          ap (λ es. slice_get (events_on c (of_index k events)) (length (entries_by k es))) (so_far c)
          ∙ ap (λ z. slice_get z (length (entries_by k (take n (of_index c round))))) (sym (x.taken k c lt))
          ∙ get_of_map (λ (f : Entry). f.event) (entries_by k (of_index c round)) (length (entries_by k (take n (of_index c round)))) e (kept_at (λ (f : Entry). nat_eq f.caller k) (of_index c round) n e stands mine)

      ancestors_are : map (λ (y : Sight). y.checkable) t.sights ≡ r.ancestors c
      ancestors_are = ap (map (λ (y : Sight). y.checkable)) (sym sights) ∙ x.ancestors c n e stands

      -- a sight is of an ancestor
      of_sight : (j : ℕ) (y : Sight) → slice_get t.sights j ≡ Some y → of_index y.checkable part ≡ of_index y.checkable round
      of_sight j y h = all_of j y.checkable (ap (λ z. slice_get z j) (sym ancestors_are) ∙ get_of_map (λ (y : Sight). y.checkable) t.sights j y h)

      can_see : are_sights r before part t ≡ true
      can_see =
          both_so (bytes_eq (map (λ (y : Sight). y.checkable) t.sights) (r.ancestors c)) (list_all (is_sight before part) t.sights)
          ((bytes_eq-Decides (map (λ (y : Sight). y.checkable) t.sights) (r.ancestors c)).1 ancestors_are)
          (all_so (is_sight before part) t.sights (λ j y h.
          let p = y.checkable in
          let s = x.seen c n j e y stands (ap (λ z. slice_get z j) sights ∙ h) in
          both_so (nat_le (length (of_index p before)) y.count) (nat_le y.count (length (behind before part p))) (so_le (length (of_index p before)) y.count s.0)
          (so_le y.count (length (behind before part p)) (subst (λ es. y.count ≤ length (of_index p before ++ es)) (sym (of_sight j y h)) s.1))))

      entry_is : e ≡ entry_told r moment before part t m.check e.event
      entry_is =
          let seen : all_seen r.site (behind before round) t.sights ≡ all_seen r.site (behind before part) t.sights = seen_agree r.site (behind before round) (behind before part) t.sights (λ j y h. ap (λ es. take y.count (of_index y.checkable before ++ es)) (sym (of_sight j y h))) in
          m.made
          ∙ ap (λ es. entry_of r c m.check (of_index c before ++ es) (all_seen r.site (behind before round) e.sights) (record { caller = e.caller; moment = moment; event = e.event; sights = e.sights })) (sym (so_far c))
          ∙ ap (λ ss. entry_of r c m.check (behind before part c) (all_seen r.site (behind before round) ss) (record { caller = e.caller; moment = moment; event = e.event; sights = ss })) sights
          ∙ ap (λ k. entry_of r c m.check (behind before part c) (all_seen r.site (behind before round) t.sights) (record { caller = k; moment = moment; event = e.event; sights = t.sights })) caller
          ∙ ap (λ vs. entry_of r c m.check (behind before part c) vs (record { caller = t.caller; moment = moment; event = e.event; sights = t.sights })) seen

      pub made_next : made_with r moment before events t part ≡ Some (with_entry c e part)
      made_next =
          ap (λ o. adding_told r moment before part t o (event_for events part t)) m.is
          ∙ ap (adding_told r moment before part t (Some m.check)) comes
          ∙ ap (λ b. cond b (Some (with_entry c (entry_told r moment before part t m.check e.event) part)) None) can_see
          ∙ ap (λ f. Some (with_entry c f part)) (sym entry_is)

      pub length_next : length (with_entry c e part) ≡ length r.site.checkables
      length_next = length-with_entry c e part ∙ len

      pub so_far_next : IsSoFar (done ++ t ∷ []) (with_entry c e part)
      so_far_next d =
          with_entry_at d c e part fits
          ∙ by (nat_eq c d) refl
          ∙ ap (λ z. take (length z) (of_index d round)) (sym (keeps_append (λ (u : Told). nat_eq u.checkable d) done (t ∷ [])))
        where
          by : (b : Bool) → nat_eq c d ≡ b → of_index d part ++ cond b (e ∷ []) [] ≡ take (length (told_on d done ++ cond b (t ∷ []) [])) (of_index d round)
          by true q =
              let eq : c ≡ d = eqb-true c d q in
              let here : slice_get (of_index d round) (length (told_on d done)) ≡ Some e = subst (λ z. slice_get (of_index z round) (length (told_on z done)) ≡ Some e) eq stands in
              let many : length (told_on d done ++ t ∷ []) ≡ suc (length (told_on d done)) = length-append (told_on d done) (t ∷ []) ∙ omega arith in
              ap (λ z. z ++ e ∷ []) (so_far d) ∙ sym (take_next (of_index d round) (length (told_on d done)) e here) ∙ ap (λ z. take z (of_index d round)) (sym many)
          by false q = append-nil (of_index d part) ∙ so_far d ∙ ap (λ z. take (length z) (of_index d round)) (sym (append-nil (told_on d done)))

  pub is_made : (done todo : List Told) (part : Histories) → order ≡ done ++ todo → length part ≡ length r.site.checkables → IsSoFar done part → made_from r moment before events todo part ≡ Some round
  is_made done [] part whole len so_far =
      ap Some (same_of_index part round (len ∙ sym x.whole) (λ c.
      let many : length (told_on c done) ≡ length (of_index c round) = ap (λ z. length (told_on c z)) (sym (append-nil done) ∙ sym whole) ∙ ap length (same c) ∙ length_map (told_of c) (of_index c round) in
      so_far c ∙ ap (λ z. take z (of_index c round)) many ∙ take_whole (of_index c round)))
  is_made done (t ∷ todo) part whole len so_far =
      let (e, stands, is) = found done todo t part whole len so_far in
      ap (λ o. then_made o (made_from r moment before events todo)) (made_next done todo t part whole len so_far e stands is)
      ∙ is_made (done ++ t ∷ []) todo (with_entry t.checkable e part) (whole ∙ sym (append_assoc done (t ∷ []) todo)) (length_next done todo t part whole len so_far e stands is) (so_far_next done todo t part whole len so_far e stands is)

  pub all_made : made_from r moment before events order (no_entries r.site) ≡ Some round
  all_made = is_made [] order (no_entries r.site) refl (length_map (λ _. []) r.site.checkables) (λ c. of_index_nothing r.site.checkables c)
