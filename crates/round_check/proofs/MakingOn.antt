-- A round in the making grows by an entry.
use Rattle.std.proofs.Common.{◌≡◌, ◌<◌, ◌≤◌, ◌+◌, ◌-◌, ℕ, zero, suc, List, [], ◌∷◌, ◌++◌, length, take, map, slice_get, nat_eq, cond, Bool, true, false, ◌&&◌, Some, None, Option, refl, sym, ap, ◌∙◌, subst, arith, length-append, eqb-true, eq-eqb, inl, inr, ◌⊎◌}
use Rattle.std.proofs.lemmas.Bool.{cases_lt}
use Rattle.std.proofs.lemmas.List.{append-nil, map-append}
use Rattle.std.proofs.lemmas.Slice.Eq.{bytes_eq-Decides}
use Rattle.std.specs.List.{list_all}
use Rattle.std.specs.Str.{bytes_eq}
use Rattle.jiff_tz.specs.declared.tzif.Tzif.{Tzif}
use Rattle.checkable_core.proofs.Listed.{check_is}
use Rattle.checkable_core.specs.Contents.{Contents, check_at}
use Rattle.checkable_core.specs.Entries.{entry_made, rules_in, sight_of}
use Rattle.run_meaning.proofs.Lists.{get_suc_none, keeps_append, length-with_entry, length_map, of_index_past, with_entry_at}
use Rattle.run_meaning.specs.Acts.{entry_of}
use Rattle.run_meaning.specs.Alone.{with_entry}
use Rattle.run_meaning.specs.Reachability.{ancestors}
use Rattle.run_meaning.specs.Rounds.{all_seen, behind, entries_by, events_on}
use Rattle.run_meaning.specs.Runs.{joined}
use Rattle.run_meaning.specs.Turns.{Asked, Histories, of_index}
use Rattle.run_meaning.specs.View.{view_of}
use Rattle.site_model.specs.PlainSite.{PlainCheck, PlainSite}
use Rattle.site_model.specs.declared.entry.Entry.{Entry}
use Rattle.site_model.specs.declared.event.Event.{Event}
use Rattle.site_model.specs.declared.sight.Sight.{Sight}
use Rattle.site_model.specs.declared.view.View.{View}
use Rattle.site_posts.proofs.Behind.{joined_at, joined_more}
use Rattle.site_posts.specs.Books.{AreBooks, histories_of}
use Rattle.site_posts.specs.Segments.{segment_of, segments_of}
use Rattle.round_check.specs.declared.making.Making.{Making}
use Rattle.round_check.specs.declared.shelf.Shelf.{Shelf}
use Rattle.round_check.specs.declared.told.Told.{Told}
use Rattle.round_check.specs.declared.walking.Place.{Place}
use Rattle.round_check.specs.Kept.{shelf_at, views_before, next_wanted, seen_told, AreViews, AreWanted, IsMaking, MadeSo}
use Rattle.round_check.specs.Making.{event_for, is_sight, are_sights, entry_told, adding_told, made_with}
use Rattle.round_check.specs.Shelves.{listed}
use Rattle.round_check.specs.Ways.{place_of}
use Rattle.round_check.proofs.Growing.{both_left, both_right, get_grown}
use Rattle.round_check.proofs.Telling.{count_of, names_told, seen_so, told_back, views_more}

-- what was put on a shelf at one place
pub put_at : {A : Type 0} (k q : ℕ) (x : A) (xs : List A) → xs ++ cond (nat_eq k q) (x ∷ []) [] ≡ cond (nat_eq k q) (xs ++ x ∷ []) xs
put_at k q x xs = by (nat_eq k q)
  where
    by : (b : Bool) → xs ++ cond b (x ∷ []) [] ≡ cond b (xs ++ x ∷ []) xs
    by true = refl
    by false = append-nil xs

module _ (s : PlainSite) (zone : Option Tzif) (now : ℕ) (before : Histories) (events : List (List Asked)) (round : Histories) (m : Making) (books : List Contents) (x : IsMaking s now before (length events) round m books)
    (wanted : List (Shelf Event)) (are_wanted : AreWanted events wanted) (t : Told) (lt : t.checkable < length s.checkables) where
  -- the event that is wanted next is that of the round
  pub event_is : next_wanted wanted m.own.items t ≡ event_for events round t
  event_is = ap (λ vs. slice_get vs (length (shelf_at m.own.items t.caller t.checkable))) (are_wanted t.caller t.checkable) ∙ by (cases_lt t.caller (length events))
    where
      by : (t.caller < length events) ⊎ (length events ≤ t.caller) → slice_get (events_on t.checkable (of_index t.caller events)) (length (shelf_at m.own.items t.caller t.checkable)) ≡ event_for events round t
      by (inl less) = ap (slice_get (events_on t.checkable (of_index t.caller events))) (ap length (x.own t.caller t.checkable less) ∙ length_map place_of (entries_by t.caller (of_index t.checkable round)))
      by (inr le) =
          let none : events_on t.checkable (of_index t.caller events) ≡ [] = ap (events_on t.checkable) (of_index_past events t.caller le) in
          ap (λ vs. slice_get vs (length (shelf_at m.own.items t.caller t.checkable))) none
          ∙ sym (ap (λ vs. slice_get vs (length (entries_by t.caller (of_index t.checkable round)))) none)

  abbrev step : Option Histories
  step = made_with (rules_in s zone) now before events t round

  step_is : (v : Option Event) → next_wanted wanted m.own.items t ≡ v → step ≡ adding_told (rules_in s zone) now before round t (Some (check_at s t.checkable)) v
  step_is v is =
      ap (λ o. adding_told (rules_in s zone) now before round t o (event_for events round t)) (check_is s.checkables t.checkable lt)
      ∙ ap (adding_told (rules_in s zone) now before round t (Some (check_at s t.checkable))) (sym event_is ∙ is)

  pub no_event : (Kept : Histories → Type 0) → next_wanted wanted m.own.items t ≡ None → MadeSo Kept step false
  no_event Kept is = subst (λ o. MadeSo Kept o false) (sym (step_is None is)) refl

  pub no_sight : (Kept : Histories → Type 0) (v : Event) → next_wanted wanted m.own.items t ≡ Some v → are_sights (rules_in s zone) before round t ≡ false → MadeSo Kept step false
  no_sight Kept v is none =
      subst (λ o. MadeSo Kept o false) (sym (step_is (Some v) is ∙ ap (λ b. cond b (Some (with_entry t.checkable (entry_told (rules_in s zone) now before round t (check_at s t.checkable) v) round)) None) none)) refl

  module _ (v : Event) (is : next_wanted wanted m.own.items t ≡ Some v) (seen : are_sights (rules_in s zone) before round t ≡ true) where
    abbrev c : ℕ
    c = t.checkable

    abbrev e : Entry
    e = entry_told (rules_in s zone) now before round t (check_at s c) v

    names : map (λ (y : Sight). y.checkable) t.sights ≡ ancestors s c
    names = (bytes_eq-Decides (map (λ (y : Sight). y.checkable) t.sights) (ancestors s c)).0 (both_left (bytes_eq (map (λ (y : Sight). y.checkable) t.sights) (ancestors s c)) (list_all (is_sight before round) t.sights) seen)

    all : list_all (is_sight before round) t.sights ≡ true
    all = both_right (bytes_eq (map (λ (y : Sight). y.checkable) t.sights) (ancestors s c)) (list_all (is_sight before round) t.sights) seen

    pub names_are : map (λ (y : ℕ × View). y.0) (seen_told s before round t.sights) ≡ ancestors s c
    names_are = names_told s before round t.sights ∙ names

    -- a caller that has an event is one of them
    pub caller_of : t.caller < length m.own.items
    caller_of = by (cases_lt t.caller (length events))
      where
        by : (t.caller < length events) ⊎ (length events ≤ t.caller) → t.caller < length m.own.items
        by (inl less) = subst (λ n. t.caller < n) (sym x.each_caller) less
        by (inr le) =
            let none : None ≡ Some v = sym (ap (λ vs. slice_get vs (length (entries_by t.caller (of_index c round)))) (ap (events_on c) (of_index_past events t.caller le))) ∙ sym event_is ∙ is in absurd cc

    -- the entry that is made
    pub made_is : (f : Entry) → f ≡ entry_made s zone c (of_index c (histories_of books)) t.caller now v (seen_told s before round t.sights) → f ≡ e
    made_is f made =
        made
        ∙ ap (λ es. entry_made s zone c es t.caller now v (seen_told s before round t.sights)) (ap (of_index c) x.stand ∙ joined_at before round c)
        ∙ ap (λ vs. entry_of (rules_in s zone) c (check_at s c) (behind before round c) vs (record { caller = t.caller; moment = now; event = v; sights = map sight_of (seen_told s before round t.sights) })) (seen_so s before round c t.sights names all)
        ∙ ap (λ ss. entry_of (rules_in s zone) c (check_at s c) (behind before round c) (all_seen s (behind before round) t.sights) (record { caller = t.caller; moment = now; event = v; sights = ss })) (told_back s before round t.sights all)

    abbrev grown : Histories
    grown = with_entry c e round

    fits : c < length round
    fits = omega (arith, lt, x.whole)

    pub goes_on : (f : Entry) → f ≡ e → (view : View) → view ≡ view_of (check_at s c) (of_index c (histories_of books)) → (m' : Making) (books' : List Contents)
        → map segment_of m'.gathered.entries ≡ segments_of (with_entry c f round)
        → ((q : ℕ) → listed m'.views.lists.entries q ≡ listed m.views.lists.entries q ++ cond (nat_eq c q) (view ∷ []) [])
        → length m'.own.items ≡ length m.own.items
        → ((k q : ℕ) → shelf_at m'.own.items k q ≡ shelf_at m.own.items k q ++ cond (nat_eq f.caller k) (cond (nat_eq c q) (record { number = f.number; sights = t.sights } ∷ []) []) [])
        → histories_of books' ≡ with_entry c f (histories_of books) → AreBooks s now books'
        → MadeSo (λ next. IsMaking s now before (length events) next m' books') step true
    goes_on f same view shows m' books' segments views callers own stand are =
        subst (λ o. MadeSo (λ next. IsMaking s now before (length events) next m' books') o true) (sym (step_is (Some v) is ∙ ap (λ b. cond b (Some (with_entry c e round)) None) seen)) (
          refl,
          record {
            whole = length-with_entry c e round ∙ x.whole;
            segments = segments ∙ ap (λ z. segments_of (with_entry c z round)) same;
            views = views_on;
            each_caller = callers ∙ x.each_caller;
            own = own_on;
            numbers = numbers_on;
            stand = stand ∙ ap (λ z. with_entry c z (histories_of books)) same ∙ ap (with_entry c e) x.stand ∙ joined_more before round c e fits;
            are = are;
          },
        )
      where
        view_is : view ≡ view_of (check_at s c) (behind before round c)
        view_is = shows ∙ ap (view_of (check_at s c)) (ap (of_index c) x.stand ∙ joined_at before round c)

        views_on : (p : ℕ) → listed m'.views.lists.entries p ≡ views_before (check_at s p) (of_index p before) (of_index p grown)
        views_on p =
            views p ∙ ap (λ vs. vs ++ cond (nat_eq c p) (view ∷ []) []) (x.views p) ∙ by (nat_eq c p) refl ∙ ap (views_before (check_at s p) (of_index p before)) (sym (with_entry_at p c e round fits))
          where
            by : (b : Bool) → nat_eq c p ≡ b → views_before (check_at s p) (of_index p before) (of_index p round) ++ cond b (view ∷ []) [] ≡ views_before (check_at s p) (of_index p before) (of_index p round ++ cond b (e ∷ []) [])
            by true q =
                let eq = eqb-true c p q in
                ap (λ w. views_before (check_at s p) (of_index p before) (of_index p round) ++ w ∷ []) (view_is ∙ ap (λ z. view_of (check_at s z) (behind before round z)) eq)
                ∙ sym (views_more (check_at s p) (of_index p before) (of_index p round) e)
            by false q = append-nil (views_before (check_at s p) (of_index p before) (of_index p round)) ∙ ap (views_before (check_at s p) (of_index p before)) (sym (append-nil (of_index p round)))

        place_is : record { number = f.number; sights = t.sights } ≡ place_of e
        place_is = ap (λ (z : Entry). record { number = z.number; sights = t.sights }) same

        own_on : (k p : ℕ) → k < length events → shelf_at m'.own.items k p ≡ map place_of (entries_by k (of_index p grown))
        own_on k p less =
            own k p
            ∙ ap (λ ps. ps ++ cond (nat_eq f.caller k) (cond (nat_eq c p) (record { number = f.number; sights = t.sights } ∷ []) []) []) (x.own k p less)
            ∙ ap (λ pl. map place_of (entries_by k (of_index p round)) ++ cond (nat_eq f.caller k) (cond (nat_eq c p) (pl ∷ []) []) []) place_is
            ∙ ap (λ (z : Entry). map place_of (entries_by k (of_index p round)) ++ cond (nat_eq z.caller k) (cond (nat_eq c p) (place_of e ∷ []) []) []) same
            ∙ ap (λ ps. map place_of (entries_by k (of_index p round)) ++ ps) (by (nat_eq c p) (nat_eq t.caller k) refl)
            ∙ sym (map-append place_of (entries_by k (of_index p round)) (entries_by k (cond (nat_eq c p) (e ∷ []) [])))
            ∙ ap (map place_of) (sym (keeps_append (λ (z : Entry). nat_eq z.caller k) (of_index p round) (cond (nat_eq c p) (e ∷ []) [])))
            ∙ ap (λ es. map place_of (entries_by k es)) (sym (with_entry_at p c e round fits))
          where
            by : (b d : Bool) → nat_eq t.caller k ≡ d → cond d (cond b (place_of e ∷ []) []) [] ≡ map place_of (entries_by k (cond b (e ∷ []) []))
            by true true q = ap (λ z. map place_of (cond z (e ∷ []) [])) (sym q)
            by true false q = ap (λ z. map place_of (cond z (e ∷ []) [])) (sym q)
            by false true q = refl
            by false false q = refl

        numbers_on : (p j : ℕ) (g : Entry) → slice_get (of_index p grown) j ≡ Some g → g.number ≡ length (of_index p before) + suc j
        numbers_on p j g h = by (get_grown round c e fits p j g h)
          where
            by : (slice_get (of_index p round) j ≡ Some g) ⊎ ((c ≡ p) × (j ≡ length (of_index p round)) × (g ≡ e)) → g.number ≡ length (of_index p before) + suc j
            by (inl old) = x.numbers p j g old
            by (inr (eq, at, new)) =
                let n : g.number ≡ length (of_index c before ++ of_index c round) + 1 = ap (λ (z : Entry). z.number) new in
                let l = length-append (of_index c before) (of_index c round) in
                let p1 = ap (λ z. length (of_index z before)) eq in
                let p2 = ap (λ z. length (of_index z round)) eq in
                omega (arith, n, l, at, p1, p2)
