-- What was seen is what the first entries make.
use Rattle.std.proofs.Common.{◌≡◌, ◌<◌, ◌≤◌, ◌+◌, ◌-◌, ℕ, zero, suc, List, [], ◌∷◌, ◌++◌, length, take, map, reverse, slice_get, get_or, nat_le, nat_lt, cond, Bool, true, false, ◌&&◌, Some, None, Option, refl, sym, ap, ◌∙◌, subst, arith, length-append, length-take-le, append_assoc}
use Rattle.std.proofs.lemmas.List.{append-nil, length-reverse}
use Rattle.std.proofs.lemmas.Bool.Decides.{nat_tests}
use Rattle.std.specs.List.{list_all}
use Rattle.checkable_core.proofs.Own.{ancestors_own}
use Rattle.checkable_core.specs.Contents.{check_at}
use Rattle.checkable_core.specs.Entries.{sight_of}
use Rattle.depend_graph.specs.Outlooks.{seen_as}
use Rattle.run_meaning.proofs.Lists.{get_map, get_of_map, take_past, take_whole, within}
use Rattle.run_meaning.specs.Reachability.{ancestors}
use Rattle.run_meaning.specs.Rounds.{all_seen, behind}
use Rattle.run_meaning.specs.Turns.{Histories, of_index}
use Rattle.run_meaning.specs.View.{view_of}
use Rattle.site_model.specs.PlainSite.{PlainCheck, PlainSite}
use Rattle.site_model.specs.declared.entry.Entry.{Entry}
use Rattle.site_model.specs.declared.sight.Sight.{Sight}
use Rattle.site_model.specs.declared.view.View.{View}
use Rattle.site_posts.proofs.Shown.{Shows, seen_all}
use Rattle.round_check.specs.Kept.{seen_told, view_at, views_before}
use Rattle.round_check.specs.Making.{is_sight}
use Rattle.round_check.proofs.Growing.{all_at, both_right}
use Rattle.round_check.proofs.MakingSound.{le_is}

pub count_of : (check : PlainCheck) (es : List Entry) → (view_of check es).count ≡ length es
count_of check es = length-reverse es

le_not : (a b : ℕ) → b < a → nat_le a b ≡ false
le_not a b h = grind (arith, nat_tests)

lt_is : (a b : ℕ) → nat_lt a b ≡ true → a < b
lt_is a b h = grind (arith, nat_tests)

lt_isnt : (a b : ℕ) → nat_lt a b ≡ false → b ≤ a
lt_isnt a b h = grind (arith, nat_tests)

-- Views before entries.

pub views_length : (check : PlainCheck) (old new : List Entry) → length (views_before check old new) ≡ length new
views_length check old [] = refl
views_length check old (e ∷ new) = ap suc (views_length check (old ++ e ∷ []) new)

pub views_at : (check : PlainCheck) (old new : List Entry) (n : ℕ) → n < length new → slice_get (views_before check old new) n ≡ Some (view_of check (old ++ take n new))
views_at check old [] n h = absurd (omega (arith, h))
views_at check old (e ∷ new) zero h = ap (λ es. Some (view_of check es)) (sym (append-nil old))
views_at check old (e ∷ new) (suc n) h = views_at check (old ++ e ∷ []) new n (omega (arith, h)) ∙ ap (λ es. Some (view_of check es)) (append_assoc old (e ∷ []) (take n new))

pub views_more : (check : PlainCheck) (old new : List Entry) (e : Entry) → views_before check old (new ++ e ∷ []) ≡ views_before check old new ++ view_of check (old ++ new) ∷ []
views_more check old [] e = ap (λ es. view_of check es ∷ []) (sym (append-nil old))
views_more check old (f ∷ new) e =
    ap (λ vs. view_of check old ∷ vs) (views_more check (old ++ f ∷ []) new e ∙ ap (λ es. views_before check (old ++ f ∷ []) new ++ view_of check es ∷ []) (append_assoc old (f ∷ []) new))

-- One sight.

module _ (check : PlainCheck) (old new : List Entry) (count : ℕ) where
  abbrev pub seen_or : Option View
  seen_or = cond (nat_le (length old) count && nat_le count (length (old ++ new))) (Some (view_of check (take count (old ++ new)))) None

  pub beyond : length (old ++ new) < count → None ≡ seen_or
  beyond lt =
      let e : (nat_le (length old) count && nat_le count (length (old ++ new))) ≡ false = by (nat_le (length old) count) (le_not count (length (old ++ new)) lt) in
      ap (λ b. cond b (Some (view_of check (take count (old ++ new)))) None) (sym e)
    where
      by : (b : Bool) → nat_le count (length (old ++ new)) ≡ false → (b && nat_le count (length (old ++ new))) ≡ false
      by true h = h
      by false h = refl

  fits : length old ≤ count → count ≤ length (old ++ new) → (nat_le (length old) count && nat_le count (length (old ++ new))) ≡ true
  fits low high =
      let a : nat_le (length old) count ≡ true = grind (arith, nat_tests, low) in
      let b : nat_le count (length (old ++ new)) ≡ true = grind (arith, nat_tests, high) in
      ap (λ t. t && nat_le count (length (old ++ new))) a ∙ b

  pub whole : count ≡ length (old ++ new) → Some (view_of check (old ++ new)) ≡ seen_or
  whole is =
      let l = length-append old new in
      ap (λ es. Some (view_of check es)) (sym (ap (λ n. take n (old ++ new)) is ∙ take_whole (old ++ new)))
      ∙ sym (ap (λ b. cond b (Some (view_of check (take count (old ++ new)))) None) (fits (omega (arith, is, l)) (omega (arith, is))))

  pub back : (later : ℕ) → count + later ≡ length (old ++ new) → 0 < later → cond (nat_lt (length (views_before check old new)) later) None (slice_get (views_before check old new) (length (views_before check old new) - later)) ≡ seen_or
  back later is some =
      let l = length-append old new in
      let v = views_length check old new in
      ap (λ n. cond (nat_lt n later) None (slice_get (views_before check old new) (n - later))) v ∙ by (nat_lt (length new) later) refl
    where
      by : (b : Bool) → nat_lt (length new) later ≡ b → cond b None (slice_get (views_before check old new) (length new - later)) ≡ seen_or
      by true q =
          let l = length-append old new in
          let lt = lt_is (length new) later q in
          let low : nat_le (length old) count ≡ false = le_not (length old) count (omega (arith, is, l, lt)) in
          sym (ap (λ t. cond (t && nat_le count (length (old ++ new))) (Some (view_of check (take count (old ++ new)))) None) low)
      by false q =
          let l = length-append old new in
          let le = lt_isnt (length new) later q in
          let n = length new - later in
          let at : length old + n ≡ count = omega (arith, is, l, le) in
          views_at check old new n (omega (arith, le, some))
          ∙ ap (λ es. Some (view_of check es)) (sym (take_past old new n) ∙ ap (λ m. take m (old ++ new)) at)
          ∙ sym (ap (λ b. cond b (Some (view_of check (take count (old ++ new)))) None) (fits (omega (arith, at)) (omega (arith, is))))

-- All sights.

module _ (s : PlainSite) (before round : Histories) where
  -- they tell so much
  pub sights_told : (xs : List Sight) → ((j : ℕ) (x : Sight) → slice_get xs j ≡ Some x → x.count ≤ length (behind before round x.checkable)) → map sight_of (seen_told s before round xs) ≡ xs
  sights_told [] h = refl
  sights_told (x ∷ xs) h =
      let es = behind before round x.checkable in
      let n : (view_at s before round x).count ≡ x.count = count_of (check_at s x.checkable) (take x.count es) ∙ length-take-le x.count es (h 0 x refl) in
      ap (λ n. record { checkable = x.checkable; count = n } ∷ map sight_of (seen_told s before round xs)) n ∙ ap (λ ys. x ∷ ys) (sights_told xs (λ j. h (suc j)))

  pub names_told : (xs : List Sight) → map (λ (x : ℕ × View). x.0) (seen_told s before round xs) ≡ map (λ (x : Sight). x.checkable) xs
  names_told [] = refl
  names_told (x ∷ xs) = ap (λ ys. x.checkable ∷ ys) (names_told xs)

  low_enough : (xs : List Sight) → list_all (is_sight before round) xs ≡ true → (j : ℕ) (x : Sight) → slice_get xs j ≡ Some x → x.count ≤ length (behind before round x.checkable)
  low_enough xs all j x h =
      let b = all_at (is_sight before round) xs all j x h in
      le_is x.count (length (behind before round x.checkable)) (both_right (nat_le (length (of_index x.checkable before)) x.count) (nat_le x.count (length (behind before round x.checkable))) b)

  pub told_back : (xs : List Sight) → list_all (is_sight before round) xs ≡ true → map sight_of (seen_told s before round xs) ≡ xs
  told_back xs all = sights_told xs (low_enough xs all)

  pub seen_so : (c : ℕ) (xs : List Sight) → map (λ (x : Sight). x.checkable) xs ≡ ancestors s c → list_all (is_sight before round) xs ≡ true → map seen_as (seen_told s before round xs) ≡ all_seen s (behind before round) xs
  seen_so c xs are all = seen_all s (behind before round) (seen_told s before round xs) each ∙ ap (all_seen s (behind before round)) (told_back xs all)
    where
      one : (x : Sight) → x.checkable < length s.checkables → x.count ≤ length (behind before round x.checkable) → Shows s (behind before round) x.checkable (view_at s before round x)
      one x lt le =
          let es = behind before round x.checkable in
          let n : (view_at s before round x).count ≡ x.count = count_of (check_at s x.checkable) (take x.count es) ∙ length-take-le x.count es le in
          record { within = lt; view = ap (λ n. view_of (check_at s x.checkable) (take n es)) (sym n) }

      each : (i : ℕ) (y : ℕ × View) → slice_get (seen_told s before round xs) i ≡ Some y → Shows s (behind before round) y.0 y.1
      each i y h =
          let (x, at, is) = get_map (λ (x : Sight). (x.checkable, view_at s before round x)) xs i y h in
          let name : slice_get (ancestors s c) i ≡ Some x.checkable = ap (λ z. slice_get z i) (sym are) ∙ get_of_map (λ (x : Sight). x.checkable) xs i x at in
          let own = ancestors_own s c i 0 (within (ancestors s c) i x.checkable name) in
          let get : get_or (ancestors s c) i 0 ≡ x.checkable = get_or_is (ancestors s c) i x.checkable name in
          subst (λ (z : ℕ × View). Shows s (behind before round) z.0 z.1) is (one x (subst (λ z. z < length s.checkables) get own) (low_enough xs all i x at))
        where
          get_or_is : (ps : List ℕ) (i p : ℕ) → slice_get ps i ≡ Some p → get_or ps i 0 ≡ p
          get_or_is [] i p h = absurd cc
          get_or_is (q ∷ ps) zero p h = let e : q ≡ p = cc in e
          get_or_is (q ∷ ps) (suc i) p h = get_or_is ps i p h
