-- What is made one after another is a round, but for the ways of its callers.
use Rattle.std.proofs.Common.{◌≡◌, ◌<◌, ◌≤◌, ◌+◌, ℕ, zero, suc, List, [], ◌∷◌, ◌++◌, length, take, drop, map, filter, slice_get, nat_eq, nat_le, cond, Bool, true, false, ◌&&◌, Some, None, Option, refl, sym, ap, ◌∙◌, subst, arith, length-append, append_assoc, eqb-true, eq-eqb, inl, inr, ◌⊎◌}
use Rattle.std.proofs.lemmas.List.{append-nil, map-append}
use Rattle.std.proofs.lemmas.Bool.Decides.{nat_tests}
use Rattle.std.proofs.lemmas.Slice.Eq.{bytes_eq-Decides}
use Rattle.std.specs.List.{list_all}
use Rattle.std.specs.Str.{bytes_eq}
use Rattle.site_model.specs.PlainSite.{PlainCheck}
use Rattle.site_model.specs.declared.entry.Entry.{Entry}
use Rattle.site_model.specs.declared.event.Event.{Event}
use Rattle.site_model.specs.declared.sight.Sight.{Sight}
use Rattle.run_meaning.specs.Turns.{Asked, Histories, of_index}
use Rattle.run_meaning.specs.Acts.{Rules, Seen, entry_of}
use Rattle.run_meaning.specs.Rounds.{behind, entries_by, events_on, all_seen, IsMade}
use Rattle.run_meaning.specs.Alone.{with_entry}
use Rattle.run_meaning.specs.Runs.{no_entries}
use Rattle.run_meaning.proofs.Lists.{within, length_map, length-with_entry, with_entry_at, of_index_nothing, of_index_past, keeps_append, take_next}
use Rattle.run_meaning.proofs.Meeting.{seen_agree}
use Rattle.round_check.specs.declared.told.Told.{Told}
use Rattle.round_check.specs.Making.{told_of, told_on, event_for, is_sight, are_sights, entry_told, adding_told, made_with, then_made, made_from}
use Rattle.round_check.proofs.Growing.{both_left, both_right, all_at, get_grown, front_grown, behind_grown, length_grown}

pub le_is : (a b : ℕ) → nat_le a b ≡ true → a ≤ b
le_is a b h = grind (arith, nat_tests)

-- a part of a round, of which so much was told
pub record IsPart (r : Rules) (moment : ℕ) (before : Histories) (events : List (List Asked)) (done : List Told) (round : Histories) : Type 0 where
  pub whole : length round ≡ length r.site.checkables
  pub told : (c : ℕ) → map (told_of c) (of_index c round) ≡ told_on c done
  pub taken : (k c : ℕ) → map (λ e. e.event) (entries_by k (of_index c round)) ≡ take (length (entries_by k (of_index c round))) (events_on c (of_index k events))
  pub callers : (c i : ℕ) (e : Entry) → slice_get (of_index c round) i ≡ Some e → e.caller < length events
  pub made : (c i : ℕ) (e : Entry) → slice_get (of_index c round) i ≡ Some e → IsMade r moment (behind before round) c (of_index c before ++ take i (of_index c round)) e
  pub ancestors : (c i : ℕ) (e : Entry) → slice_get (of_index c round) i ≡ Some e → map (λ x. x.checkable) e.sights ≡ r.ancestors c
  pub seen : (c i j : ℕ) (e : Entry) (x : Sight) → slice_get (of_index c round) i ≡ Some e → slice_get e.sights j ≡ Some x → (length (of_index x.checkable before) ≤ x.count) × (x.count ≤ length (behind before round x.checkable))

-- an entry is made as it is told
pub record IsAdded (r : Rules) (moment : ℕ) (before : Histories) (events : List (List Asked)) (t : Told) (round next : Histories) : Type 0 where
  pub check : PlainCheck
  pub is : slice_get r.site.checkables t.checkable ≡ Some check
  pub event : Event
  pub comes : event_for events round t ≡ Some event
  pub sights : are_sights r before round t ≡ true
  pub made : next ≡ with_entry t.checkable (entry_told r moment before round t check event) round

module _ (r : Rules) (moment : ℕ) (before : Histories) (events : List (List Asked)) where
  pub added : (t : Told) (round next : Histories) → made_with r moment before events t round ≡ Some next → IsAdded r moment before events t round next
  added t round next h = by (slice_get r.site.checkables t.checkable) (event_for events round t) refl refl h
    where
      seen_so : (check : PlainCheck) (v : Event) (b : Bool) → slice_get r.site.checkables t.checkable ≡ Some check → event_for events round t ≡ Some v → are_sights r before round t ≡ b
          → cond b (Some (with_entry t.checkable (entry_told r moment before round t check v) round)) None ≡ Some next → IsAdded r moment before events t round next
      seen_so check v true is comes sights g = record { check = check; is = is; event = v; comes = comes; sights = sights; made = (let e : with_entry t.checkable (entry_told r moment before round t check v) round ≡ next = cc in sym e) }
      seen_so check v false is comes sights g = absurd cc

      by : (check : Option PlainCheck) (v : Option Event) → slice_get r.site.checkables t.checkable ≡ check → event_for events round t ≡ v → adding_told r moment before round t check v ≡ Some next → IsAdded r moment before events t round next
      by None v is comes g = absurd cc
      by (Some check) None is comes g = absurd cc
      by (Some check) (Some v) is comes g = seen_so check v (are_sights r before round t) is comes refl g

  pub nothing_is_part : IsPart r moment before events [] (no_entries r.site)
  nothing_is_part = record {
    whole = length_map (λ _. []) r.site.checkables;
    told = λ c. ap (map (told_of c)) (of_index_nothing r.site.checkables c);
    taken = λ k c. ap (λ (es : List Entry). map (λ (e : Entry). e.event) (entries_by k es)) (of_index_nothing r.site.checkables c) ∙ sym (ap (λ (es : List Entry). take (length (entries_by k es)) (events_on c (of_index k events))) (of_index_nothing r.site.checkables c));
    callers = λ c i e h. none c i e h;
    made = λ c i e h. none c i e h;
    ancestors = λ c i e h. none c i e h;
    seen = λ c i j e x h k. none c i e h;
  }
    where
      none : {A : Type 0} (c i : ℕ) (e : Entry) → slice_get (of_index c (no_entries r.site)) i ≡ Some e → A
      none c i e h = let g : slice_get [] i ≡ Some e = ap (λ z. slice_get z i) (sym (of_index_nothing r.site.checkables c)) ∙ h in absurd cc

  module _ (done : List Told) (part : Histories) (x : IsPart r moment before events done part) (t : Told) (next : Histories) (a : IsAdded r moment before events t part next) where
    abbrev e : Entry
    e = entry_told r moment before part t a.check a.event

    abbrev grown : Histories
    grown = with_entry t.checkable e part

    fits : t.checkable < length part
    fits = omega (arith, within r.site.checkables t.checkable a.check a.is, x.whole)

    told_more : (c : ℕ) → map (told_of c) (of_index c grown) ≡ told_on c (done ++ t ∷ [])
    told_more c =
        ap (map (told_of c)) (with_entry_at c t.checkable e part fits)
        ∙ map-append (told_of c) (of_index c part) (cond (nat_eq t.checkable c) (e ∷ []) [])
        ∙ ap (λ z. z ++ map (told_of c) (cond (nat_eq t.checkable c) (e ∷ []) [])) (x.told c)
        ∙ ap (λ z. told_on c done ++ z) (by (nat_eq t.checkable c) refl)
        ∙ sym (keeps_append (λ (u : Told). nat_eq u.checkable c) done (t ∷ []))
      where
        by : (b : Bool) → nat_eq t.checkable c ≡ b → map (told_of c) (cond b (e ∷ []) []) ≡ cond b (t ∷ []) []
        by true q = ap (λ k. record { checkable = k; caller = t.caller; sights = t.sights } ∷ []) (sym (eqb-true t.checkable c q))
        by false q = refl

    -- the events of a caller
    taken_more : (k c : ℕ) → map (λ (e : Entry). e.event) (entries_by k (of_index c grown)) ≡ take (length (entries_by k (of_index c grown))) (events_on c (of_index k events))
    taken_more k c =
        subst (λ (es : List Entry). map (λ (e : Entry). e.event) (entries_by k es) ≡ take (length (entries_by k es)) (events_on c (of_index k events))) (sym (with_entry_at c t.checkable e part fits))
        (by (nat_eq t.checkable c) refl)
      where
        own : (b : Bool) → nat_eq t.caller k ≡ b → t.checkable ≡ c → map (λ (e : Entry). e.event) (entries_by k (of_index c part) ++ cond b (e ∷ []) []) ≡ take (length (entries_by k (of_index c part) ++ cond b (e ∷ []) [])) (events_on c (of_index k events))
        own true q same =
            let es = entries_by k (of_index c part) in
            let n = length es in
            let caller : t.caller ≡ k = eqb-true t.caller k q in
            let at : slice_get (events_on c (of_index k events)) n ≡ Some a.event = sym (λ i. slice_get (events_on (same i) (of_index (caller i) events)) (length (entries_by (caller i) (of_index (same i) part)))) ∙ a.comes in
            let len : length (es ++ e ∷ []) ≡ suc n = length-append es (e ∷ []) ∙ omega arith in
            map-append (λ (e : Entry). e.event) es (e ∷ [])
            ∙ ap (λ z. z ++ a.event ∷ []) (x.taken k c)
            ∙ sym (take_next (events_on c (of_index k events)) n a.event at)
            ∙ ap (λ z. take z (events_on c (of_index k events))) (sym len)
        own false q same = subst (λ (es : List Entry). map (λ (e : Entry). e.event) es ≡ take (length es) (events_on c (of_index k events))) (sym (append-nil (entries_by k (of_index c part)))) (x.taken k c)

        by : (b : Bool) → nat_eq t.checkable c ≡ b → map (λ (e : Entry). e.event) (entries_by k (of_index c part ++ cond b (e ∷ []) [])) ≡ take (length (entries_by k (of_index c part ++ cond b (e ∷ []) []))) (events_on c (of_index k events))
        by true q =
            subst (λ (es : List Entry). map (λ (e : Entry). e.event) es ≡ take (length es) (events_on c (of_index k events))) (sym (keeps_append (λ (e : Entry). nat_eq e.caller k) (of_index c part) (e ∷ [])))
            (own (nat_eq t.caller k) refl (eqb-true t.checkable c q))
        by false q = subst (λ (es : List Entry). map (λ (e : Entry). e.event) (entries_by k es) ≡ take (length (entries_by k es)) (events_on c (of_index k events))) (sym (append-nil (of_index c part))) (x.taken k c)

    -- it is one of the callers
    caller_of : t.caller < length events
    caller_of = by (events_on t.checkable (of_index t.caller events)) (of_index t.caller events) refl a.comes
      where
        past : (evs : List Asked) (k : ℕ) (ess : List (List Asked)) → of_index k ess ≡ evs → (n : ℕ) (v : Event) → slice_get (events_on t.checkable evs) n ≡ Some v → k < length ess
        past evs k [] is n v h = absurd (let g : slice_get (events_on t.checkable []) n ≡ Some v = ap (λ z. slice_get (events_on t.checkable z) n) is ∙ h in cc)
        past evs zero (es ∷ ess) is n v h = omega arith
        past evs (suc k) (es ∷ ess) is n v h = let w = past evs k ess is n v h in omega (arith, w)

        by : (vs : List Event) (evs : List Asked) → of_index t.caller events ≡ evs → slice_get (events_on t.checkable (of_index t.caller events)) (length (entries_by t.caller (of_index t.checkable part))) ≡ Some a.event → t.caller < length events
        by vs evs is h = past evs t.caller events is (length (entries_by t.caller (of_index t.checkable part))) a.event (ap (λ z. slice_get (events_on t.checkable z) (length (entries_by t.caller (of_index t.checkable part)))) (sym is) ∙ h)

    sights_are : map (λ (x : Sight). x.checkable) t.sights ≡ r.ancestors t.checkable
    sights_are = (bytes_eq-Decides (map (λ (x : Sight). x.checkable) t.sights) (r.ancestors t.checkable)).0 (both_left (bytes_eq (map (λ (x : Sight). x.checkable) t.sights) (r.ancestors t.checkable)) (list_all (is_sight before part) t.sights) a.sights)

    sights_seen : (j : ℕ) (y : Sight) → slice_get t.sights j ≡ Some y → (length (of_index y.checkable before) ≤ y.count) × (y.count ≤ length (behind before part y.checkable))
    sights_seen j y h =
        let b = all_at (is_sight before part) t.sights (both_right (bytes_eq (map (λ (x : Sight). x.checkable) t.sights) (r.ancestors t.checkable)) (list_all (is_sight before part) t.sights) a.sights) j y h in
        let low = length (of_index y.checkable before) in
        let high = length (behind before part y.checkable) in
        (le_is low y.count (both_left (nat_le low y.count) (nat_le y.count high) b), le_is y.count high (both_right (nat_le low y.count) (nat_le y.count high) b))

    -- what was seen is seen later too
    seen_later : (xs : List Sight) → ((j : ℕ) (y : Sight) → slice_get xs j ≡ Some y → y.count ≤ length (behind before part y.checkable)) → all_seen r.site (behind before part) xs ≡ all_seen r.site (behind before grown) xs
    seen_later xs h = seen_agree r.site (behind before part) (behind before grown) xs (λ j y k. behind_grown part t.checkable e fits before y.checkable y.count (h j y k))

    made_old : (c i : ℕ) (f : Entry) → slice_get (of_index c part) i ≡ Some f → IsMade r moment (behind before grown) c (of_index c before ++ take i (of_index c grown)) f
    made_old c i f h =
        let m = x.made c i f h in
        let w = within (of_index c part) i f h in
        record {
          check = m.check;
          is = m.is;
          made =
              m.made
              ∙ ap (λ vs. entry_of r c m.check (of_index c before ++ take i (of_index c part)) vs (record { caller = f.caller; moment = moment; event = f.event; sights = f.sights })) (seen_later f.sights (λ j y k. (x.seen c i j f y h k).1))
              ∙ ap (λ es. entry_of r c m.check (of_index c before ++ es) (all_seen r.site (behind before grown) f.sights) (record { caller = f.caller; moment = moment; event = f.event; sights = f.sights })) (sym (front_grown part t.checkable e fits c i (omega (arith, w))));
        }

    made_new : IsMade r moment (behind before grown) t.checkable (of_index t.checkable before ++ take (length (of_index t.checkable part)) (of_index t.checkable grown)) e
    made_new =
        let c = t.checkable in
        let n = length (of_index c part) in
        record {
          check = a.check;
          is = a.is;
          made =
              ap (λ vs. entry_of r c a.check (behind before part c) vs (record { caller = t.caller; moment = moment; event = a.event; sights = t.sights })) (seen_later t.sights (λ j y k. (sights_seen j y k).1))
              ∙ ap (λ es. entry_of r c a.check (of_index c before ++ es) (all_seen r.site (behind before grown) t.sights) (record { caller = t.caller; moment = moment; event = a.event; sights = t.sights })) (sym (front_grown part c e fits c n (omega arith) ∙ take_all_of (of_index c part)));
        }
      where
        take_all_of : (es : List Entry) → take (length es) es ≡ es
        take_all_of [] = refl
        take_all_of (f ∷ es) = ap (λ z. f ∷ z) (take_all_of es)

    -- what holds of older entries and of the new one
    of_each : (P : ℕ → ℕ → Entry → Type 0) → ((c i : ℕ) (f : Entry) → slice_get (of_index c part) i ≡ Some f → P c i f) → P t.checkable (length (of_index t.checkable part)) e → (c i : ℕ) (f : Entry) → slice_get (of_index c grown) i ≡ Some f → P c i f
    of_each P old new c i f h = by (get_grown part t.checkable e fits c i f h)
      where
        by : (slice_get (of_index c part) i ≡ Some f) ⊎ ((t.checkable ≡ c) × (i ≡ length (of_index c part)) × (f ≡ e)) → P c i f
        by (inl g) = old c i f g
        by (inr (same, n, is)) = subst (λ z. P z i f) same (subst (λ z. P t.checkable z f) (sym (n ∙ ap (λ z. length (of_index z part)) (sym same))) (subst (λ z. P t.checkable (length (of_index t.checkable part)) z) (sym is) new))

    pub part_grown : IsPart r moment before events (done ++ t ∷ []) grown
    part_grown = record {
      whole = length-with_entry t.checkable e part ∙ x.whole;
      told = told_more;
      taken = taken_more;
      callers = of_each (λ c i f. f.caller < length events) (λ c i f h. x.callers c i f h) caller_of;
      made = of_each (λ c i f. IsMade r moment (behind before grown) c (of_index c before ++ take i (of_index c grown)) f) made_old made_new;
      ancestors = of_each (λ c i f. map (λ (x : Sight). x.checkable) f.sights ≡ r.ancestors c) (λ c i f h. x.ancestors c i f h) sights_are;
      seen = λ c i j f y h k. of_each (λ c i f. (j : ℕ) (y : Sight) → slice_get f.sights j ≡ Some y → (length (of_index y.checkable before) ≤ y.count) × (y.count ≤ length (behind before grown y.checkable)))
          (λ c i f h j y k. let s = x.seen c i j f y h k in (s.0, more y s.1)) (λ j y k. let s = sights_seen j y k in (s.0, more y s.1)) c i f h j y k;
    }
      where
        more : (y : Sight) → y.count ≤ length (behind before part y.checkable) → y.count ≤ length (behind before grown y.checkable)
        more y le =
            let p = y.checkable in
            let l = length_grown part t.checkable e fits p in
            let m = length-append (of_index p before) (of_index p part) in
            let n = length-append (of_index p before) (of_index p grown) in
            omega (arith, l, m, n, le)

  pub made_is_part : (done todo : List Told) (part round : Histories) → IsPart r moment before events done part → made_from r moment before events todo part ≡ Some round → IsPart r moment before events (done ++ todo) round
  made_is_part done [] part round x h =
      let e : part ≡ round = cc in
      subst (IsPart r moment before events (done ++ [])) e (subst (λ z. IsPart r moment before events z part) (sym (append-nil done)) x)
  made_is_part done (t ∷ todo) part round x h = by (λ next y g. made_is_part (done ++ t ∷ []) todo next round y g) (made_with r moment before events t part) refl h
    where
      by : ((next : Histories) → IsPart r moment before events (done ++ t ∷ []) next → made_from r moment before events todo next ≡ Some round → IsPart r moment before events ((done ++ t ∷ []) ++ todo) round)
          → (o : Option Histories) → made_with r moment before events t part ≡ o → then_made o (made_from r moment before events todo) ≡ Some round → IsPart r moment before events (done ++ t ∷ todo) round
      by f None q g = absurd cc
      by f (Some next) q g =
          let a = added t part next q in
          let y = subst (IsPart r moment before events (done ++ t ∷ [])) (sym a.made) (part_grown done part x t next a) in
          subst (λ z. IsPart r moment before events z round) (append_assoc done (t ∷ []) todo) (f next y g)
