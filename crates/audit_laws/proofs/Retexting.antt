-- With other texts of results, and over entries that differ in theirs alone, the events of a round make the same round with these texts.
use Rattle.std.proofs.Common.{◌≡◌, ◌-◌, ◌≤◌, ◌+◌, ℕ, zero, suc, nat_eq, Bool, true, false, cond, List, [], ◌∷◌, ◌++◌, length, map, slice_get, take, refl, sym, ap, ap₂, ◌∙◌, subst, arith, eqb-true, Some}
use Rattle.std.proofs.lemmas.List.{length-append, length-map, map-append}
use Rattle.site_model.specs.PlainSite.{PlainSite}
use Rattle.site_model.specs.declared.entry.Entry.{Entry}
use Rattle.site_model.specs.declared.event.Event.{Event}
use Rattle.site_model.specs.declared.sight.Sight.{Sight}
use Rattle.log_text.specs.EntryTwo.{untold, without_texts}
use Rattle.run_meaning.specs.Acts.{Act, entry_of}
use Rattle.run_meaning.specs.Meaning.{rules_of}
use Rattle.run_meaning.specs.Rounds.{IsEntryFor, IsMade, IsRound, all_seen, behind, entries_by, events_on}
use Rattle.run_meaning.specs.Turns.{Asked, Histories, of_index}
use Rattle.run_meaning.proofs.Lists.{take_map}
use Rattle.audit_laws.specs.Versions.{untold_act, untold_all}
use Rattle.audit_laws.proofs.UntoldEntries.{entries_same}
use Rattle.audit_laws.proofs.UntoldRounds.{all_seen_same, got, indexed, of_map, Got}
use Rattle.audit_laws.proofs.UntoldViews.{bare}

-- ---- other texts, by the checkable

module _ (text : ℕ → Event → Event) where
  abbrev pub with_text : ℕ → Entry → Entry
  with_text c e = record e { event = text c e.event }

  abbrev pub asked_with : Asked → Asked
  asked_with a = record a { event = text a.checkable a.event }

  abbrev pub round_with : ℕ → Histories → Histories
  round_with c [] = []
  round_with c (es ∷ round) = map (with_text c) es ∷ round_with (suc c) round

  pub many_with : (c : ℕ) (round : Histories) → length (round_with c round) ≡ length round
  many_with c [] = refl
  many_with c (es ∷ round) = ap suc (many_with (suc c) round)

  index_with : (j c : ℕ) (round : Histories) → of_index c (round_with j round) ≡ map (with_text (j + c)) (of_index c round)
  index_with j c [] = refl
  index_with j zero (es ∷ round) = let z : j ≡ j + 0 = omega arith in ap (λ n. map (with_text n) es) z
  index_with j (suc c) (es ∷ round) = let z : suc j + c ≡ j + suc c = omega arith in index_with (suc j) c round ∙ ap (λ n. map (with_text n) (of_index c round)) z

  pub indexed_with : (c : ℕ) (round : Histories) → of_index c (round_with 0 round) ≡ map (with_text c) (of_index c round)
  indexed_with c round = index_with 0 c round ∙ (let z : 0 + c ≡ c = omega arith in ap (λ n. map (with_text n) (of_index c round)) z)

  by_with : (c k : ℕ) (es : List Entry) → entries_by k (map (with_text c) es) ≡ map (with_text c) (entries_by k es)
  by_with c k [] = refl
  by_with c k (e ∷ es) = by (nat_eq e.caller k) (by_with c k es)
    where
      by : (t : Bool) → entries_by k (map (with_text c) es) ≡ map (with_text c) (entries_by k es) → cond t (with_text c e ∷ entries_by k (map (with_text c) es)) (entries_by k (map (with_text c) es)) ≡ map (with_text c) (cond t (e ∷ entries_by k es) (entries_by k es))
      by true ih = ap (λ xs. with_text c e ∷ xs) ih
      by false ih = ih

  events_with : (c : ℕ) (es : List Entry) → map (λ (e : Entry). e.event) (map (with_text c) es) ≡ map (text c) (map (λ (e : Entry). e.event) es)
  events_with c [] = refl
  events_with c (e ∷ es) = ap (λ xs. text c e.event ∷ xs) (events_with c es)

  on_with : (c : ℕ) (events : List Asked) → events_on c (map asked_with events) ≡ map (text c) (events_on c events)
  on_with c [] = refl
  on_with c (a ∷ events) = by (nat_eq a.checkable c) refl (on_with c events)
    where
      by : (t : Bool) → nat_eq a.checkable c ≡ t → events_on c (map asked_with events) ≡ map (text c) (events_on c events)
          → cond t (text a.checkable a.event ∷ events_on c (map asked_with events)) (events_on c (map asked_with events)) ≡ map (text c) (cond t (a.event ∷ events_on c events) (events_on c events))
      by true q ih = ap₂ (λ n xs. text n a.event ∷ xs) (eqb-true a.checkable c q) ih
      by false q ih = ih

  many_on : (c i : ℕ) (events : List Asked) → length (events_on c (take i (map asked_with events))) ≡ length (events_on c (take i events))
  many_on c i events =
      ap (λ xs. length (events_on c xs)) (take_map asked_with i events)
      ∙ (ap length (on_with c (take i events)) ∙ length-map (events_on c (take i events)) (text c))

  -- ---- where nothing else changes

  module _ (texts : (c : ℕ) (v : Event) → without_texts (text c v) ≡ without_texts v) where
    bare_with : (c : ℕ) (es : List Entry) → bare (map (with_text c) es) ≡ bare es
    bare_with c [] = refl
    bare_with c (e ∷ es) = ap₂ (λ v (xs : List Entry). record e { event = v } ∷ xs) (texts c e.event) (bare_with c es)

    untold_from : (c : ℕ) (round : Histories) → untold_all (round_with c round) ≡ untold_all round
    untold_from c [] = refl
    untold_from c (es ∷ round) = ap₂ (λ (xs : List Entry) (xss : Histories). xs ∷ xss) (bare_with c es) (untold_from (suc c) round)

    pub untold_with : (round : Histories) → untold_all (round_with 0 round) ≡ untold_all round
    untold_with round = untold_from 0 round

    -- an entry is known by all but its texts, and by its event
    rebuilt : (x y : Entry) (v : Event) → untold y ≡ untold x → y.event ≡ v → record x { event = v } ≡ y
    rebuilt x y v same event = ap₂ (λ (u : Entry) w. record u { event = w }) (sym same) (sym event)

    module _ (s : PlainSite) (holds : ℕ → ℕ → Bool) (moment : ℕ) (before other : Histories) (alike : untold_all other ≡ untold_all before) (events : List (List Asked)) (round : Histories) (h : IsRound (rules_of s holds) moment before events round) where
      abbrev after : Histories
      after = round_with 0 round

      abbrev told : List (List Asked)
      told = map (map asked_with) events

      bare_other : (c : ℕ) → bare (of_index c other) ≡ bare (of_index c before)
      bare_other c = sym (indexed c other) ∙ (ap (of_index c) alike ∙ indexed c before)

      long : (c : ℕ) → length (of_index c other) ≡ length (of_index c before)
      long c = sym (length-map (of_index c other) untold) ∙ (ap length (bare_other c) ∙ length-map (of_index c before) untold)

      long_after : (c : ℕ) → length (of_index c after) ≡ length (of_index c round)
      long_after c = ap length (indexed_with c round) ∙ length-map (of_index c round) (with_text c)

      long_behind : (c : ℕ) → length (behind other after c) ≡ length (behind before round c)
      long_behind c = length-append (of_index c other) (of_index c after) ∙ (ap₂ (λ m n. m + n) (long c) (long_after c) ∙ sym (length-append (of_index c before) (of_index c round)))

      seen_so : (xs : List Sight) → all_seen s (behind other after) xs ≡ all_seen s (behind before round) xs
      seen_so xs =
          sym (all_seen_same s other after xs)
          ∙ (ap₂ (λ hs rs. all_seen s (behind hs rs) xs) alike (untold_with round) ∙ all_seen_same s before round xs)

      entry_at : (c i : ℕ) (e : Entry) → slice_get (of_index c after) i ≡ Some e → Got (with_text c) (of_index c round) i e
      entry_at c i e at = got (with_text c) (of_index c round) i e (ap (λ es. slice_get es i) (sym (indexed_with c round)) ∙ at)

      made_of : (c i : ℕ) (e : Entry) → slice_get (of_index c round) i ≡ Some e → IsMade (rules_of s holds) moment (behind other after) c (of_index c other ++ take i (of_index c after)) (with_text c e)
      made_of c i e at = record {
        check = m.check;
        is = m.is;
        made = ap (λ (x : Entry). record x { event = text c e.event }) m.made ∙ rebuilt old new (text c e.event) same refl;
      }
        where
          history : List Entry
          history = of_index c before ++ take i (of_index c round)

          later : List Entry
          later = of_index c other ++ take i (of_index c after)

          m : IsMade (rules_of s holds) moment (behind before round) c history e
          m = h.made c i e at

          act : Act
          act = record { caller = e.caller; moment = moment; event = e.event; sights = e.sights }

          again : Act
          again = record { caller = e.caller; moment = moment; event = text c e.event; sights = e.sights }

          old : Entry
          old = entry_of (rules_of s holds) c m.check history (all_seen s (behind before round) e.sights) act

          new : Entry
          new = entry_of (rules_of s holds) c m.check later (all_seen s (behind other after) e.sights) again

          past : bare later ≡ bare history
          past =
              map-append untold (of_index c other) (take i (of_index c after))
              ∙ (ap₂ (λ xs ys. xs ++ ys) (bare_other c)
              (sym (take_map untold i (of_index c after)) ∙ (ap (λ es. take i (bare es)) (indexed_with c round) ∙ (ap (take i) (bare_with c (of_index c round)) ∙ take_map untold i (of_index c round))))
              ∙ sym (map-append untold (of_index c before) (take i (of_index c round))))

          same : untold new ≡ untold old
          same =
              sym (entries_same s holds c m.check later (all_seen s (behind other after) e.sights) again)
              ∙ (ap₂ (λ es seen. entry_of (rules_of s holds) c m.check es seen (untold_act again)) past (seen_so e.sights)
              ∙ (ap (λ v. entry_of (rules_of s holds) c m.check (bare history) (all_seen s (behind before round) e.sights) (record act { event = v })) (texts c e.event)
              ∙ entries_same s holds c m.check history (all_seen s (behind before round) e.sights) act))

      -- of each caller
      record For (k i : ℕ) (e : Entry) : Type 0 where
        of : Entry
        sights : e.sights ≡ of.sights
        entry : IsEntryFor (of_index k events) round k i of

      entry_for : (k i : ℕ) (e : Entry) → IsEntryFor (of_index k told) after k i e → For k i e
      entry_for k i e f = record { of = g.of; sights = ap (λ (x : Entry). x.sights) (sym g.is); entry = record { asked = a.of; at = a.at; made = g.at } }
        where
          a : Got asked_with (of_index k events) i f.asked
          a = got asked_with (of_index k events) i f.asked (ap (λ xs. slice_get xs i) (sym (of_map asked_with k events)) ∙ f.at)

          same : f.asked.checkable ≡ a.of.checkable
          same = ap (λ (x : Asked). x.checkable) (sym a.is)

          places : (c : ℕ) → slice_get (entries_by k (of_index c after)) (length (events_on c (take i (of_index k told)))) ≡ Some e → slice_get (map (with_text c) (entries_by k (of_index c round))) (length (events_on c (take i (of_index k events)))) ≡ Some e
          places c at =
              ap₂ (λ es n. slice_get es n) (sym (ap (entries_by k) (indexed_with c round) ∙ by_with c k (of_index c round)))
              (sym (ap (λ xs. length (events_on c (take i xs))) (of_map asked_with k events) ∙ many_on c i (of_index k events)))
              ∙ at

          g : Got (with_text a.of.checkable) (entries_by k (of_index a.of.checkable round)) (length (events_on a.of.checkable (take i (of_index k events)))) e
          g =
              got (with_text a.of.checkable) (entries_by k (of_index a.of.checkable round)) (length (events_on a.of.checkable (take i (of_index k events)))) e
              (places a.of.checkable (subst (λ c. slice_get (entries_by k (of_index c after)) (length (events_on c (take i (of_index k told)))) ≡ Some e) same f.made))

      sight_in : (of e : Entry) (j : ℕ) (x : Sight) → e.sights ≡ of.sights → slice_get e.sights j ≡ Some x → slice_get of.sights j ≡ Some x
      sight_in of e j x is at = ap (λ xs. slice_get xs j) (sym is) ∙ at

      sights_of : (c : ℕ) (of e : Entry) → with_text c of ≡ e → e.sights ≡ of.sights
      sights_of c of e is = ap (λ (x : Entry). x.sights) (sym is)

      many_told : length told ≡ length events
      many_told = length-map events (map asked_with)

      pub retexted : IsRound (rules_of s holds) moment other told after
      retexted = record {
        whole = many_with 0 round ∙ h.whole;
        taken = λ k c lt.
            ap (map (λ (e : Entry). e.event)) (ap (entries_by k) (indexed_with c round) ∙ by_with c k (of_index c round))
            ∙ (events_with c (entries_by k (of_index c round))
            ∙ (ap (map (text c)) (h.taken k c (let n = many_told in omega (arith, lt, n))) ∙ (sym (on_with c (of_index k events)) ∙ sym (ap (events_on c) (of_map asked_with k events)))));
        callers = λ c i e at.
            let g = entry_at c i e at in
            let same : e.caller ≡ g.of.caller = ap (λ (x : Entry). x.caller) (sym g.is) in
            let lt = h.callers c i g.of g.at in
            let n = many_told in
            omega (arith, same, lt, n);
        made = λ c i e at.
            let g = entry_at c i e at in
            subst (IsMade (rules_of s holds) moment (behind other after) c (of_index c other ++ take i (of_index c after))) g.is (made_of c i g.of g.at);
        ancestors = λ c i e at.
            let g = entry_at c i e at in
            ap (map (λ (x : Sight). x.checkable)) (sights_of c g.of e g.is) ∙ h.ancestors c i g.of g.at;
        seen = λ c i j e x at sight.
            let g = entry_at c i e at in
            let n = h.seen c i j g.of x g.at (sight_in g.of e j x (sights_of c g.of e g.is) sight) in
            (subst (λ n. n ≤ x.count) (sym (long x.checkable)) n.0, subst (λ n. x.count ≤ n) (sym (long_behind x.checkable)) n.1);
        rising = λ k i j m n e f x y lt first second one two same.
            let p = entry_for k i e first in
            let q = entry_for k j f second in
            h.rising k i j m n p.of q.of x y lt p.entry q.entry (sight_in p.of e m x p.sights one) (sight_in q.of f n y q.sights two) same;
        own = λ k i m e x first sight.
            let p = entry_for k i e first in
            own_count k x
            ∙ (h.own k i m p.of x p.entry (sight_in p.of e m x p.sights sight)
            ∙ sym (ap (λ xs. length (events_on x.checkable (take i xs))) (of_map asked_with k events) ∙ many_on x.checkable i (of_index k events)));
      }
        where
          own_count : (k : ℕ) (x : Sight) → length (entries_by k (take (x.count - length (of_index x.checkable other)) (of_index x.checkable after))) ≡ length (entries_by k (take (x.count - length (of_index x.checkable before)) (of_index x.checkable round)))
          own_count k x =
              ap₂ (λ n es. length (entries_by k (take (x.count - n) es))) (long x.checkable) (indexed_with x.checkable round)
              ∙ (ap (λ es. length (entries_by k es)) (take_map (with_text x.checkable) (x.count - length (of_index x.checkable before)) (of_index x.checkable round))
              ∙ (ap length (by_with x.checkable k (take (x.count - length (of_index x.checkable before)) (of_index x.checkable round)))
              ∙ length-map (entries_by k (take (x.count - length (of_index x.checkable before)) (of_index x.checkable round))) (with_text x.checkable)))
