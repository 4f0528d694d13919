-- What is answered of a round that is told of.
use Rattle.std.proofs.Common.{◌≡◌, ◌≢◌, ◌<◌, ◌≤◌, ◌+◌, ℕ, zero, suc, List, [], ◌∷◌, ◌++◌, length, map, filter, slice_get, nat_eq, cond, Bool, true, false, ◌&&◌, Some, None, Option, refl, sym, ap, ◌∙◌, subst, arith, eqb-true, eq-eqb, inl, inr, ◌⊎◌}
use Rattle.std.proofs.lemmas.List.{append-nil}
use Rattle.std.specs.List.{list_all}
use Rattle.jiff_tz.specs.declared.tzif.Tzif.{Tzif}
use Rattle.checkable_core.specs.Contents.{Contents, check_at}
use Rattle.checkable_core.specs.Entries.{rules_in}
use Rattle.run_meaning.proofs.Lists.{get_map, keeps_all, keeps_append, keeps_none, length_map, of_index_nothing, of_index_past, within}
use Rattle.run_meaning.proofs.Parts.{apart}
use Rattle.run_meaning.proofs.Shares.{get_either}
use Rattle.run_meaning.specs.Rounds.{IsRound, entries_by}
use Rattle.run_meaning.specs.Runs.{joined, no_entries}
use Rattle.run_meaning.specs.Turns.{Asked, Histories, from_on, of_index}
use Rattle.site_model.specs.PlainSite.{PlainSite}
use Rattle.site_model.specs.declared.entry.Entry.{Entry}
use Rattle.site_posts.proofs.Behind.{joined_nothing}
use Rattle.site_posts.proofs.Segmenting.{none_from}
use Rattle.site_posts.specs.Books.{AreBooks, histories_of}
use Rattle.site_posts.specs.Many.{IsRoundOf}
use Rattle.site_posts.specs.Segments.{segment_of, segments_of}
use Rattle.site_posts.specs.declared.segment.Segment.{Segment}
use Rattle.round_check.specs.declared.making.Making.{Making}
use Rattle.round_check.specs.declared.shelf.Shelf.{Shelf}
use Rattle.round_check.specs.declared.told.Told.{Told}
use Rattle.round_check.specs.declared.walking.Place.{Place}
use Rattle.round_check.specs.Answer.{IsNoRound, IsOnlyRound}
use Rattle.round_check.specs.Checked.{if_walked, round_told}
use Rattle.round_check.specs.Kept.{IsBegun, IsMaking, shelf_at, shelved, views_before}
use Rattle.round_check.specs.Making.{made_from, then_made, told_from, told_in, told_of, told_on}
use Rattle.round_check.specs.Ordered.{IsOrderOf, IsOutside}
use Rattle.round_check.specs.Shelves.{listed}
use Rattle.round_check.specs.Walking.{are_walked, is_walked, walks}
use Rattle.round_check.specs.Ways.{are_ways, is_way, place_of}
use Rattle.round_check.proofs.ToldLaws.{complete, sound}
use Rattle.round_check.proofs.Placing.{way_is}

-- What a round tells.

told_beyond : (k : ℕ) (round : Histories) (i : ℕ) (t : Told) → slice_get (told_from k round) i ≡ Some t → (k ≤ t.checkable) × (t.checkable < k + length round)
told_beyond k [] i t h = absurd cc
told_beyond k (es ∷ round) i t h = by (get_either (map (told_of k) es) (told_from (suc k) round) i t h) (told_beyond (suc k) round)
  where
    by : (slice_get (map (told_of k) es) i ≡ Some t) ⊎ ((j : ℕ) × (slice_get (told_from (suc k) round) j ≡ Some t)) → ((i : ℕ) (t : Told) → slice_get (told_from (suc k) round) i ≡ Some t → (suc k ≤ t.checkable) × (t.checkable < suc k + length round)) → (k ≤ t.checkable) × (t.checkable < k + length (es ∷ round))
    by (inl a) f =
        let (e, at, is) = get_map (told_of k) es i t a in
        let same : k ≡ t.checkable = ap (λ (z : Told). z.checkable) is in
        (omega (arith, same), omega (arith, same))
    by (inr (j, a)) f = let g = f j t a in (omega (arith, g.0), omega (arith, g.1))

on_own : (k : ℕ) (es : List Entry) → told_on k (map (told_of k) es) ≡ map (told_of k) es
on_own k es = keeps_all (λ t. nat_eq t.checkable k) (map (told_of k) es) (λ i t h. let (e, at, is) = get_map (told_of k) es i t h in subst (λ (z : Told). nat_eq z.checkable k ≡ true) is (eq-eqb k k refl))

on_other : (c k : ℕ) (es : List Entry) → k ≢ c → told_on c (map (told_of k) es) ≡ []
on_other c k es n = keeps_none (λ t. nat_eq t.checkable c) (map (told_of k) es) (λ i t h. let (e, at, is) = get_map (told_of k) es i t h in subst (λ (z : Told). nat_eq z.checkable c ≡ false) is (apart k c n))

told_on_from : (k c x : ℕ) (round : Histories) → x ≡ k + c → told_on x (told_from k round) ≡ map (told_of x) (of_index c round)
told_on_from k c x [] at = refl
told_on_from k zero x (es ∷ round) at =
    let same : x ≡ k = omega (arith, at) in
    let none : told_on k (told_from (suc k) round) ≡ [] = keeps_none (λ t. nat_eq t.checkable k) (told_from (suc k) round) (λ i t h. let g = told_beyond (suc k) round i t h in apart t.checkable k (λ e. omega (arith, g.0, e))) in
    ap (λ z. told_on z (told_from k (es ∷ round))) same
    ∙ keeps_append (λ t. nat_eq t.checkable k) (map (told_of k) es) (told_from (suc k) round)
    ∙ ap (λ ts. told_on k (map (told_of k) es) ++ ts) none
    ∙ append-nil (told_on k (map (told_of k) es))
    ∙ on_own k es
    ∙ sym (ap (λ z. map (told_of z) es) same)
told_on_from k (suc c) x (es ∷ round) at =
    keeps_append (λ t. nat_eq t.checkable x) (map (told_of k) es) (told_from (suc k) round)
    ∙ ap (λ ts. ts ++ told_on x (told_from (suc k) round)) (on_other x k es (λ e. omega (arith, e, at)))
    ∙ told_on_from (suc k) c x round (omega (arith, at))

pub told_on_in : (c : ℕ) (round : Histories) → told_on c (told_in round) ≡ map (told_of c) (of_index c round)
told_on_in c round = told_on_from 0 c c round (omega arith)

-- Ways.

of_index_get : {A : Type 0} (xss : List (List A)) (i : ℕ) (xs : List A) → slice_get xss i ≡ Some xs → of_index i xss ≡ xs
of_index_get [] i xs h = absurd cc
of_index_get (ys ∷ xss) zero xs h = let e : ys ≡ xs = cc in e
of_index_get (ys ∷ xss) (suc i) xs h = of_index_get xss i xs h

ways_by : (f : ℕ → Bool) (j : ℕ) (own : List (Shelf Place)) (evs : List (List Asked)) → length own ≡ length evs
    → ((i : ℕ) (shelf : Shelf Place) (acts : List Asked) → slice_get own i ≡ Some shelf → slice_get evs i ≡ Some acts → is_way (listed shelf.lists.entries) (λ _. 0) (λ _. 0) acts ≡ f (j + i))
    → are_ways own evs ≡ list_all f (from_on j (length evs))
ways_by f j [] [] l h = refl
ways_by f j [] (acts ∷ evs) l h = absurd (omega (arith, l))
ways_by f j (shelf ∷ own) [] l h = absurd (omega (arith, l))
ways_by f j (shelf ∷ own) (acts ∷ evs) l h =
    let z : j + 0 ≡ j = omega arith in
    ap (λ b. b && are_ways own evs) (h 0 shelf acts refl refl ∙ ap f z)
    ∙ ap (λ b. f j && b) (ways_by f (suc j) own evs (omega (arith, l)) (λ i s a p q. let e : j + suc i ≡ suc j + i = omega arith in h (suc i) s a p q ∙ ap f e))

module _ (s : PlainSite) (zone : Option Tzif) (now : ℕ) (old : List Contents) (events : List (List Asked)) (told : List Told) where
  abbrev before : Histories
  before = histories_of old

  pub ways_are : (round : Histories) (m : Making) (books : List Contents) → IsMaking s now before (length events) round m books → are_ways m.own.items events ≡ are_walked before events round
  ways_are round m books x =
      ways_by (is_walked before round events) 0 m.own.items events x.each_caller (λ i shelf acts at ev.
      let w = within events i acts ev in
      let own_is : (p : ℕ) → listed shelf.lists.entries p ≡ map place_of (entries_by i (of_index p round)) = λ p. sym (ap (λ o. shelved o p) at) ∙ x.own i p w in
      let z : 0 + i ≡ i = omega arith in
      way_is before round i (listed shelf.lists.entries) own_is x.numbers acts [] (λ _. 0) (λ _. 0) (λ q. refl)
      ∙ ap (λ a. walks before round i [] a (λ _. 0)) (sym (of_index_get events i acts ev))
      ∙ ap (is_walked before round events) (sym z))

  -- What is answered.

  pub outside_is_none : IsOutside s told → IsNoRound s zone now old events told
  outside_is_none o round x is =
      let g = told_beyond 0 round o.index o.one (ap (λ z. slice_get z o.index) is ∙ o.at) in
      let h = o.outside in
      let w = x.whole in
      omega (arith, g.1, h, w)

  module _ (order : List Told) (o : IsOrderOf s told order) where
    abbrev found : Option Histories
    found = round_told (rules_in s zone) now before events order

    all_found : (round : Histories) → IsRound (rules_in s zone) now before events round → told_in round ≡ told → found ≡ Some round
    all_found round x is = complete (rules_in s zone) now before events order round o.first (λ c. o.alike c ∙ ap (told_on c) (sym is) ∙ told_on_in c round) x

    pub none_is_none : found ≡ None → IsNoRound s zone now old events told
    none_is_none none round x is = let w : None ≡ Some round = sym none ∙ all_found round x is in absurd cc

    pub some_is_only : (round : Histories) (books : List Contents) (segments : List Segment) → found ≡ Some round → segments ≡ segments_of round → histories_of books ≡ joined before round → AreBooks s now books → IsOnlyRound s zone now old books events told segments
    some_is_only round books segments is tells stand are = record {
      made = record { round = round; is = (sound (rules_in s zone) now before events order round is).0; told = tells; behind = stand; books = are };
      only = λ other x same. let w : Some other ≡ Some round = sym (all_found other x same) ∙ is in cc;
    }

  pub not_made : (order : List Told) → made_from (rules_in s zone) now before events order (no_entries s) ≡ None → round_told (rules_in s zone) now before events order ≡ None
  not_made order h = ap (λ r. then_made r (if_walked before events)) h

  pub is_walked_so : (order : List Told) (round : Histories) (b : Bool) → made_from (rules_in s zone) now before events order (no_entries s) ≡ Some round → are_walked before events round ≡ b → round_told (rules_in s zone) now before events order ≡ cond b (Some round) None
  is_walked_so order round b h w = ap (λ r. then_made r (if_walked before events)) h ∙ ap (λ t. cond t (Some round) None) w

  -- At the beginning.

  pub begun_is_kept : (m : Making) → AreBooks s now old → IsBegun (length events) m → IsMaking s now before (length events) (no_entries s) m old
  begun_is_kept m are b = record {
    whole = length_map (λ _. []) s.checkables;
    segments = ap (map segment_of) b.gathered ∙ sym (none_from 0 s.checkables);
    views = λ p. b.views p ∙ nothing_before p;
    each_caller = b.callers_are;
    own = λ k p lt. b.own k p ∙ nothing_own k p;
    numbers = λ p j e h. let g : slice_get [] j ≡ Some e = ap (λ z. slice_get z j) (sym (of_index_nothing s.checkables p)) ∙ h in absurd cc;
    stand = sym (joined_nothing before s.checkables (length_map (λ (k : Contents). k.entries) old ∙ are.whole));
    are = are;
  }
    where
      nothing_before : (p : ℕ) → [] ≡ views_before (check_at s p) (of_index p before) (of_index p (no_entries s))
      nothing_before p = sym (ap (views_before (check_at s p) (of_index p before)) (of_index_nothing s.checkables p))

      nothing_own : (k p : ℕ) → [] ≡ map place_of (filter (λ (e : Entry). nat_eq e.caller k) (of_index p (no_entries s)))
      nothing_own k p = sym (ap (λ (es : List Entry). map place_of (filter (λ (e : Entry). nat_eq e.caller k) es)) (of_index_nothing s.checkables p))
