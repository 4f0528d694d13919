-- Steps of the loops over acts, callers, sights and what is told.
use Rattle.std.proofs.Common.{◌≡◌, ◌<◌, ◌≤◌, ◌+◌, ◌-◌, ℕ, zero, suc, List, [], ◌∷◌, ◌++◌, length, take, drop, map, slice_get, nat_eq, cond, Bool, true, false, ◌&&◌, Some, None, Option, refl, sym, ap, ◌∙◌, subst, arith, eq-eqb}
use mathlib.Core.Path.{fun_ext}
use Rattle.std.proofs.lemmas.List.{append-nil, map-append}
use Rattle.std.proofs.lemmas.Slice.Eq.{bytes_eq-Decides}
use Rattle.std.specs.List.{list_all}
use Rattle.std.specs.Str.{bytes_eq}
use Rattle.run_meaning.proofs.Lists.{get_suc_none, take_next, take_whole, within}
use Rattle.run_meaning.specs.Reachability.{ancestors}
use Rattle.run_meaning.specs.Rounds.{events_on}
use Rattle.run_meaning.specs.Turns.{Asked, Histories, of_index}
use Rattle.site_model.specs.PlainSite.{PlainSite}
use Rattle.site_model.specs.declared.event.Event.{Event}
use Rattle.site_model.specs.declared.sight.Sight.{Sight}
use Rattle.site_model.specs.declared.view.View.{View}
use Rattle.site_posts.specs.Made.{asked_of}
use Rattle.site_posts.specs.declared.act.Act.{Act}
use Rattle.round_check.specs.declared.ordering.Ranked.{Ranked}
use Rattle.round_check.specs.declared.shelf.Shelf.{Shelf}
use Rattle.round_check.specs.declared.told.Told.{Told}
use Rattle.round_check.specs.declared.walking.Place.{Place}
use Rattle.round_check.specs.Kept.{AreWanted, seen_told, shelf_at, shelved, view_at}
use Rattle.round_check.specs.Making.{is_sight}
use Rattle.round_check.specs.Ordered.{AreRanked, told_by_rank}
use Rattle.round_check.specs.Shelves.{listed}
use Rattle.round_check.specs.Walking.{raised}
use Rattle.round_check.specs.Ways.{are_ways, is_way, next_place, one_more, sees_all, sights_in}
use Rattle.round_check.proofs.Growing.{both_so}
use Rattle.round_check.proofs.Placing.{events_append}
use Rattle.round_check.proofs.Stepping.{drop_one, drop_past}

pub take_one : {A : Type 0} (i : ℕ) (xs : List A) (x : A) → slice_get xs i ≡ Some x → take (i + 1) xs ≡ take i xs ++ x ∷ []
take_one i xs x at =
    let e : i + 1 ≡ suc i = omega arith in
    ap (λ n. take n xs) e ∙ take_next xs i x at

pub take_past : {A : Type 0} (i : ℕ) (xs : List A) → length xs ≤ i → take i xs ≡ xs
take_past zero [] l = refl
take_past (suc i) [] l = refl
take_past zero (x ∷ xs) l = absurd (omega (arith, l))
take_past (suc i) (x ∷ xs) l = ap (λ z. x ∷ z) (take_past i xs (omega (arith, l)))

-- Events of acts.

pub events_more : (i : ℕ) (acts : List Act) (a : Act) (v : Event) (p : ℕ) (old new : List Event) → slice_get acts i ≡ Some a → v ≡ a.event → old ≡ events_on p (map asked_of (take i acts)) → new ≡ old ++ cond (nat_eq a.checkable p) (v ∷ []) []
    → new ≡ events_on p (map asked_of (take (i + 1) acts))
events_more i acts a v p old new at event so_far grown =
    grown
    ∙ ap (λ z. z ++ cond (nat_eq a.checkable p) (v ∷ []) []) so_far
    ∙ ap (λ z. events_on p (map asked_of (take i acts)) ++ cond (nat_eq a.checkable p) (z ∷ []) []) event
    ∙ sym (events_append p (map asked_of (take i acts)) (asked_of a ∷ []))
    ∙ ap (events_on p) (sym (map-append asked_of (take i acts) (a ∷ [])) ∙ ap (map asked_of) (sym (take_one i acts a at)))

pub events_end : (i : ℕ) (acts : List Act) (p : ℕ) (all : List Event) → length acts ≤ i → all ≡ events_on p (map asked_of (take i acts)) → all ≡ events_on p (map asked_of acts)
events_end i acts p all l h = h ∙ ap (λ z. events_on p (map asked_of z)) (take_past i acts l)

-- one caller more
pub wanted_more : (w : List (Shelf Event)) (xs : List (List Asked)) (shelf : Shelf Event) (es : List Asked) → length w ≡ length xs → AreWanted xs w → ((p : ℕ) → listed shelf.lists.entries p ≡ events_on p es) → AreWanted (xs ++ es ∷ []) (w ++ shelf ∷ [])
wanted_more [] [] shelf es l h is zero p = is p
wanted_more [] [] shelf es l h is (suc k) p = refl
wanted_more [] (x ∷ xs) shelf es l h is k p = absurd (omega (arith, l))
wanted_more (y ∷ w) [] shelf es l h is k p = absurd (omega (arith, l))
wanted_more (y ∷ w) (x ∷ xs) shelf es l h is zero p = h zero p
wanted_more (y ∷ w) (x ∷ xs) shelf es l h is (suc k) p = wanted_more w xs shelf es (omega (arith, l)) (λ j. h (suc j)) is k p

-- an empty shelf more
pub empty_more : (w : List (Shelf Place)) (shelf : Shelf Place) → ((k p : ℕ) → shelf_at w k p ≡ []) → ((p : ℕ) → listed shelf.lists.entries p ≡ []) → (k p : ℕ) → shelf_at (w ++ shelf ∷ []) k p ≡ []
empty_more [] shelf h is zero p = is p
empty_more [] shelf h is (suc k) p = refl
empty_more (y ∷ w) shelf h is zero p = h zero p
empty_more (y ∷ w) shelf h is (suc k) p = empty_more w shelf (λ j. h (suc j)) is k p

-- The way of a caller.

module _ (own : ℕ → List Place) (i : ℕ) (acts : List Act) (a : Act) (r : Bool) (done last : ℕ → ℕ) (at : slice_get acts i ≡ Some a) (so_far : is_way own done last (map asked_of (drop i acts)) ≡ r) where
  here : (sees_all own done last (next_place own done a.checkable) && is_way own (one_more a.checkable done) (raised (sights_in (next_place own done a.checkable)) last) (map asked_of (drop (i + 1) acts))) ≡ r
  here = sym (ap (λ z. is_way own done last (map asked_of z)) (drop_one i acts a at)) ∙ so_far

  pub way_next : (done' last' : ℕ → ℕ) → sees_all own done last (next_place own done a.checkable) ≡ true → ((q : ℕ) → done' q ≡ one_more a.checkable done q) → ((q : ℕ) → last' q ≡ raised (sights_in (next_place own done a.checkable)) last q)
      → is_way own done' last' (map asked_of (drop (i + 1) acts)) ≡ r
  way_next done' last' fits d e =
      ap (λ f. is_way own f last' (map asked_of (drop (i + 1) acts))) (fun_ext d)
      ∙ ap (λ f. is_way own (one_more a.checkable done) f (map asked_of (drop (i + 1) acts))) (fun_ext e)
      ∙ sym (ap (λ b. b && is_way own (one_more a.checkable done) (raised (sights_in (next_place own done a.checkable)) last) (map asked_of (drop (i + 1) acts))) fits)
      ∙ here

  pub way_fails : sees_all own done last (next_place own done a.checkable) ≡ false → false ≡ r
  way_fails fits = sym (ap (λ b. b && is_way own (one_more a.checkable done) (raised (sights_in (next_place own done a.checkable)) last) (map asked_of (drop (i + 1) acts))) fits) ∙ here

pub way_end : (own : ℕ → List Place) (i : ℕ) (acts : List Act) (r : Bool) (done last : ℕ → ℕ) → length acts ≤ i → is_way own done last (map asked_of (drop i acts)) ≡ r → true ≡ r
way_end own i acts r done last l h = sym (ap (λ z. is_way own done last (map asked_of z)) (drop_past i acts l)) ∙ h

pub way_begin : (own : ℕ → List Place) (acts : List Act) (done last : ℕ → ℕ) → ((q : ℕ) → done q ≡ 0) → ((q : ℕ) → last q ≡ 0) → is_way own done last (map asked_of acts) ≡ is_way own (λ _. 0) (λ _. 0) (map asked_of acts)
way_begin own acts done last d e = ap (λ f. is_way own f last (map asked_of acts)) (fun_ext d) ∙ ap (λ f. is_way own (λ _. 0) f (map asked_of acts)) (fun_ext e)

-- The ways of all callers.

module _ {A : Type 0} (asked : A → List Asked) (i : ℕ) (own : List (Shelf Place)) (lists : List A) (shelf : Shelf Place) (list : A) (r : Bool) (so : slice_get own i ≡ Some shelf) (is : slice_get lists i ≡ Some list)
    (so_far : are_ways (drop i own) (map asked (drop i lists)) ≡ r) where
  ways_here : (is_way (listed shelf.lists.entries) (λ _. 0) (λ _. 0) (asked list) && are_ways (drop (i + 1) own) (map asked (drop (i + 1) lists))) ≡ r
  ways_here = sym (ap (λ z. are_ways z (map asked (drop i lists))) (drop_one i own shelf so) ∙ ap (λ z. are_ways (shelf ∷ drop (i + 1) own) (map asked z)) (drop_one i lists list is)) ∙ so_far

  pub ways_next : is_way (listed shelf.lists.entries) (λ _. 0) (λ _. 0) (asked list) ≡ true → are_ways (drop (i + 1) own) (map asked (drop (i + 1) lists)) ≡ r
  ways_next fits = sym (ap (λ b. b && are_ways (drop (i + 1) own) (map asked (drop (i + 1) lists))) fits) ∙ ways_here

  pub ways_fail : is_way (listed shelf.lists.entries) (λ _. 0) (λ _. 0) (asked list) ≡ false → false ≡ r
  ways_fail fits = sym (ap (λ b. b && are_ways (drop (i + 1) own) (map asked (drop (i + 1) lists))) fits) ∙ ways_here

no_ways : (own : List (Shelf Place)) → are_ways own [] ≡ true
no_ways [] = refl
no_ways (x ∷ xs) = refl

pub ways_end : {A : Type 0} (asked : A → List Asked) (i : ℕ) (own : List (Shelf Place)) (lists : List A) (r : Bool) → length lists ≤ i → are_ways (drop i own) (map asked (drop i lists)) ≡ r → true ≡ r
ways_end asked i own lists r l h = sym (ap (λ z. are_ways (drop i own) (map asked z)) (drop_past i lists l) ∙ no_ways (drop i own)) ∙ h

-- Sights.

pub sight_more : (s : PlainSite) (before round : Histories) (i : ℕ) (xs : List Sight) (x : Sight) (v : View) (old new : List (ℕ × View)) → slice_get xs i ≡ Some x
    → Some v ≡ cond (is_sight before round x) (Some (view_at s before round x)) None → (old ≡ seen_told s before round (take i xs)) × (list_all (is_sight before round) (take i xs) ≡ true) → new ≡ old ++ (x.checkable, v) ∷ []
    → (new ≡ seen_told s before round (take (i + 1) xs)) × (list_all (is_sight before round) (take (i + 1) xs) ≡ true)
sight_more s before round i xs x v old new at seen (so_far, all) grown = by (is_sight before round x) refl seen
  where
    all_more : (ys : List Sight) → list_all (is_sight before round) ys ≡ true → is_sight before round x ≡ true → list_all (is_sight before round) (ys ++ x ∷ []) ≡ true
    all_more [] h q = both_so (is_sight before round x) true q refl
    all_more (y ∷ ys) h q = both_so (is_sight before round y) (list_all (is_sight before round) (ys ++ x ∷ [])) (left_of (is_sight before round y) (list_all (is_sight before round) ys) h) (all_more ys (right_of (is_sight before round y) (list_all (is_sight before round) ys) h) q)
      where
        left_of : (a b : Bool) → (a && b) ≡ true → a ≡ true
        left_of true b h = refl
        left_of false b h = h

        right_of : (a b : Bool) → (a && b) ≡ true → b ≡ true
        right_of true b h = h
        right_of false b h = absurd cc

    by : (b : Bool) → is_sight before round x ≡ b → Some v ≡ cond b (Some (view_at s before round x)) None → (new ≡ seen_told s before round (take (i + 1) xs)) × (list_all (is_sight before round) (take (i + 1) xs) ≡ true)
    by false q e = absurd cc
    by true q e =
        let same : v ≡ view_at s before round x = cc in
        let t = take_one i xs x at in (
          grown
              ∙ ap (λ z. z ++ (x.checkable, v) ∷ []) so_far
              ∙ ap (λ w. seen_told s before round (take i xs) ++ (x.checkable, w) ∷ []) same
              ∙ sym (map-append (λ (y : Sight). (y.checkable, view_at s before round y)) (take i xs) (x ∷ []))
              ∙ ap (seen_told s before round) (sym t),
          ap (list_all (is_sight before round)) t ∙ all_more (take i xs) all q,
        )

pub sight_none : (s : PlainSite) (before round : Histories) (i : ℕ) (xs : List Sight) (x : Sight) → slice_get xs i ≡ Some x → None ≡ cond (is_sight before round x) (Some (view_at s before round x)) None → list_all (is_sight before round) xs ≡ false
sight_none s before round i xs x at none = by (is_sight before round x) refl none
  where
    fails : (xs : List Sight) (i : ℕ) → slice_get xs i ≡ Some x → is_sight before round x ≡ false → list_all (is_sight before round) xs ≡ false
    fails [] i h q = absurd cc
    fails (y ∷ ys) zero h q = let e : y ≡ x = cc in ap (λ (z : Sight). is_sight before round z && list_all (is_sight before round) ys) e ∙ ap (λ b. b && list_all (is_sight before round) ys) q
    fails (y ∷ ys) (suc i) h q = ap (λ b. is_sight before round y && b) (fails ys i h q) ∙ never (is_sight before round y)
      where
        never : (b : Bool) → (b && false) ≡ false
        never true = refl
        never false = refl

    by : (b : Bool) → is_sight before round x ≡ b → None ≡ cond b (Some (view_at s before round x)) None → list_all (is_sight before round) xs ≡ false
    by true q e = absurd cc
    by false q e = fails xs i at q

-- Names of sights.

pub name_more : (i : ℕ) (xs : List Sight) (x : Sight) (v : View) (old new : List (ℕ × View)) → slice_get xs i ≡ Some x → map (λ (y : ℕ × View). y.0) old ≡ map (λ (y : Sight). y.checkable) (take i xs) → new ≡ old ++ (x.checkable, v) ∷ []
    → map (λ (y : ℕ × View). y.0) new ≡ map (λ (y : Sight). y.checkable) (take (i + 1) xs)
name_more i xs x v old new at so_far grown =
    ap (map (λ (y : ℕ × View). y.0)) grown
    ∙ map-append (λ (y : ℕ × View). y.0) old ((x.checkable, v) ∷ [])
    ∙ ap (λ ns. ns ++ x.checkable ∷ []) so_far
    ∙ sym (map-append (λ (y : Sight). y.checkable) (take i xs) (x ∷ []))
    ∙ ap (map (λ (y : Sight). y.checkable)) (sym (take_one i xs x at))

-- in the end they are those of all sights
pub all_names : (i : ℕ) (xs : List Sight) (ps qs ns : List ℕ) → length xs ≤ i → ns ≡ map (λ (y : Sight). y.checkable) (take i xs) → bytes_eq (map (λ (y : Sight). y.checkable) xs) ps ≡ true → ps ≡ qs → ns ≡ qs
all_names i xs ps qs ns l so_far same is =
    so_far ∙ ap (map (λ (y : Sight). y.checkable)) (take_past i xs l) ∙ (bytes_eq-Decides (map (λ (y : Sight). y.checkable) xs) ps).0 same ∙ is

pub names_next : (i : ℕ) (xs : List Sight) (ps : List ℕ) (x : Sight) (p : ℕ) (r : Bool) → slice_get xs i ≡ Some x → slice_get ps i ≡ Some p → x.checkable ≡ p → bytes_eq (map (λ (y : Sight). y.checkable) (drop i xs)) (drop i ps) ≡ r
    → bytes_eq (map (λ (y : Sight). y.checkable) (drop (i + 1) xs)) (drop (i + 1) ps) ≡ r
names_next i xs ps x p r is at same h =
    let t : nat_eq x.checkable p ≡ true = eq-eqb x.checkable p same in
    sym (ap (λ z. bytes_eq (map (λ (y : Sight). y.checkable) z) (drop i ps)) (drop_one i xs x is) ∙ ap (bytes_eq (x.checkable ∷ map (λ (y : Sight). y.checkable) (drop (i + 1) xs))) (drop_one i ps p at) ∙ ap (λ b. b && bytes_eq (map (λ (y : Sight). y.checkable) (drop (i + 1) xs)) (drop (i + 1) ps)) t) ∙ h

pub names_fail : (i : ℕ) (xs : List Sight) (ps : List ℕ) (x : Sight) (p : ℕ) (r : Bool) → slice_get xs i ≡ Some x → slice_get ps i ≡ Some p → nat_eq x.checkable p ≡ false → bytes_eq (map (λ (y : Sight). y.checkable) (drop i xs)) (drop i ps) ≡ r → false ≡ r
names_fail i xs ps x p r is at other h =
    sym (ap (λ z. bytes_eq (map (λ (y : Sight). y.checkable) z) (drop i ps)) (drop_one i xs x is) ∙ ap (bytes_eq (x.checkable ∷ map (λ (y : Sight). y.checkable) (drop (i + 1) xs))) (drop_one i ps p at) ∙ ap (λ b. b && bytes_eq (map (λ (y : Sight). y.checkable) (drop (i + 1) xs)) (drop (i + 1) ps)) other) ∙ h

pub names_end : (i : ℕ) (xs : List Sight) (ps : List ℕ) (r : Bool) → length xs ≤ i → length xs ≡ length ps → bytes_eq (map (λ (y : Sight). y.checkable) (drop i xs)) (drop i ps) ≡ r → true ≡ r
names_end i xs ps r l same h = sym (ap (λ z. bytes_eq (map (λ (y : Sight). y.checkable) z) (drop i ps)) (drop_past i xs l) ∙ ap (bytes_eq []) (drop_past i ps (omega (arith, l, same)))) ∙ h

pub names_apart : (xs : List Sight) (ps : List ℕ) → (length xs ≡ length ps → ⊥) → false ≡ bytes_eq (map (λ (y : Sight). y.checkable) xs) ps
names_apart [] [] n = absurd (n refl)
names_apart [] (p ∷ ps) n = refl
names_apart (x ∷ xs) [] n = refl
names_apart (x ∷ xs) (p ∷ ps) n = by (nat_eq x.checkable p) (names_apart xs ps (λ e. n (ap suc e)))
  where
    by : (b : Bool) → false ≡ bytes_eq (map (λ (y : Sight). y.checkable) xs) ps → false ≡ (b && bytes_eq (map (λ (y : Sight). y.checkable) xs) ps)
    by true h = h
    by false h = refl

-- Ranks.

pub ranked_more : (s : PlainSite) (list : List Ranked) (x : Ranked) → AreRanked s list → x.told.checkable < length s.checkables → x.rank ≡ length (ancestors s x.told.checkable) → AreRanked s (list ++ x ∷ [])
ranked_more s list x are lt rank = record {
  within = each (λ y. y.told.checkable < length s.checkables) list (λ i y h. are.within i y h) lt;
  rank = each (λ y. y.rank ≡ length (ancestors s y.told.checkable)) list (λ i y h. are.rank i y h) rank;
}
  where
    each : (P : Ranked → Type 0) (ys : List Ranked) → ((i : ℕ) (y : Ranked) → slice_get ys i ≡ Some y → P y) → P x → (i : ℕ) (y : Ranked) → slice_get (ys ++ x ∷ []) i ≡ Some y → P y
    each P [] old new zero y h = let e : x ≡ y = cc in subst P e new
    each P [] old new (suc i) y h = absurd cc
    each P (z ∷ ys) old new zero y h = old zero y h
    each P (z ∷ ys) old new (suc i) y h = each P ys (λ j. old (suc j)) new i y h

pub none_ranked : (s : PlainSite) → AreRanked s []
none_ranked s = record { within = λ i x h. absurd cc; rank = λ i x h. absurd cc }
