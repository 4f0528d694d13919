-- Watches go on by the segments of a round as by its entries.
use Rattle.std.proofs.Common.{◌≡◌, ◌<◌, ℕ, suc, ◌+◌, false, List, [], ◌∷◌, ◌++◌, length, set, slice_get, Option, Some, None, refl, sym, ap, ◌∙◌, subst, arith, append_assoc, length-append}
use Rattle.checkable_core.specs.Contents.{check_at, check_or}
use Rattle.run_meaning.specs.Schedule.{Watch, is_waiting, watch_from, watches_from}
use Rattle.run_meaning.specs.Turns.{Histories, Outstanding, Slot, of_index}
use Rattle.run_meaning.proofs.Lists.{get_at}
use Rattle.site_model.specs.PlainSite.{PlainCheck, PlainSite}
use Rattle.site_model.specs.declared.entry.Entry.{Entry}
use Rattle.site_posts.specs.Segments.{segments_from, segments_of}
use Rattle.site_posts.specs.declared.segment.Segment.{Segment}
use Rattle.check_plan.specs.Followed.{followed, followed_from}
use Rattle.check_plan.specs.Plans.{TellWaiting, slots_in}

-- Segment after segment.

abbrev pub watch_or : Option Watch → Watch
watch_or None = record { slot = record { next = 0; forced = false }; waiting = false }
watch_or (Some w) = w

module _ (s : PlainSite) (before : Histories) where
  abbrev pub one_on : Segment → List Watch → List Watch
  one_on x ws = set ws x.checkable (watch_from (check_at s x.checkable) (of_index x.checkable before) x.entries (watch_or (slice_get ws x.checkable)))

  abbrev pub all_on : List Segment → List Watch → List Watch
  all_on [] ws = ws
  all_on (x ∷ xs) ws = all_on xs (one_on x ws)

  set_behind : {A : Type 0} (front ws : List A) (x y : A) → set (front ++ x ∷ ws) (length front) y ≡ front ++ y ∷ ws
  set_behind [] ws x y = refl
  set_behind (z ∷ front) ws x y = ap (λ xs. z ∷ xs) (set_behind front ws x y)

  one_longer : (front : List Watch) (w : Watch) (k : ℕ) → length front ≡ k → length (front ++ w ∷ []) ≡ suc k
  one_longer front w k h = let n = length-append front (w ∷ []) in omega (arith, n, h)

  on_behind : (front ws : List Watch) (w : Watch) (k : ℕ) (es : List Entry) → length front ≡ k → one_on (record { checkable = k; entries = es }) (front ++ w ∷ ws) ≡ front ++ watch_from (check_at s k) (of_index k before) es w ∷ ws
  on_behind front ws w k es h =
      subst (λ n. one_on (record { checkable = n; entries = es }) (front ++ w ∷ ws) ≡ front ++ watch_from (check_at s n) (of_index n before) es w ∷ ws) h
      (ap (λ o. set (front ++ w ∷ ws) (length front) (watch_from (check_at s (length front)) (of_index (length front) before) es (watch_or o))) (get_at front ws w)
      ∙ set_behind front ws w (watch_from (check_at s (length front)) (of_index (length front) before) es w))

  follows_from : (k : ℕ) (front ws : List Watch) (round : Histories) → length front ≡ k → length round ≡ length ws → all_on (segments_from k round) (front ++ ws) ≡ front ++ followed_from s k before round ws
  follows_from k front ws [] h many = refl
  follows_from k front [] (es ∷ round) h many = absurd (omega (arith, many))
  follows_from k front (w ∷ ws) ([] ∷ round) h many =
      ap (all_on (segments_from (suc k) round)) (sym (append_assoc front (w ∷ []) ws))
      ∙ follows_from (suc k) (front ++ w ∷ []) ws round (one_longer front w k h) (omega (arith, many))
      ∙ append_assoc front (w ∷ []) (followed_from s (suc k) before round ws)
  follows_from k front (w ∷ ws) ((e ∷ es) ∷ round) h many =
      let v = watch_from (check_at s k) (of_index k before) (e ∷ es) w in
      ap (all_on (segments_from (suc k) round)) (on_behind front ws w k (e ∷ es) h ∙ sym (append_assoc front (v ∷ []) ws))
      ∙ follows_from (suc k) (front ++ v ∷ []) ws round (one_longer front v k h) (omega (arith, many))
      ∙ append_assoc front (v ∷ []) (followed_from s (suc k) before round ws)

  pub follows : (ws : List Watch) (round : Histories) → length round ≡ length ws → all_on (segments_of round) ws ≡ followed s before round ws
  follows ws round many = follows_from 0 [] ws round refl many

-- From the watches of plans on.

module _ (s : PlainSite) (before round : Histories) where
  abbrev watch_first : List Outstanding → ℕ → Slot → Watch
  watch_first os k t = record { slot = t; waiting = is_waiting os k }

  none_followed : (k : ℕ) (rest : Histories) → followed_from s k before rest [] ≡ []
  none_followed k [] = refl
  none_followed k (es ∷ rest) = refl

  nothing_more : (k : ℕ) (cs : List PlainCheck) (ss : List Slot) (os : List Outstanding) → ((i : ℕ) → [] ≡ of_index (k + i) round) → watches_from k cs ss os [] [] ≡ watches_from k cs ss os before round
  nothing_more k [] ss os none = refl
  nothing_more k (c ∷ cs) [] os none = refl
  nothing_more k (c ∷ cs) (t ∷ ss) os none =
      let z : k + 0 ≡ k = omega arith in
      ap (λ es. watch_from c (of_index k before) es (watch_first os k t) ∷ watches_from (suc k) cs ss os [] []) (none 0 ∙ ap (λ n. of_index n round) z)
      ∙ ap (λ ws. watch_from c (of_index k before) (of_index k round) (watch_first os k t) ∷ ws)
      (nothing_more (suc k) cs ss os (λ i. let y : k + suc i ≡ suc k + i = omega arith in none (suc i) ∙ ap (λ n. of_index n round) y))

  from_plans : (k : ℕ) (cs : List PlainCheck) (ss : List Slot) (os : List Outstanding) (rest : Histories) → ((i : ℕ) → i < length cs → check_at s (k + i) ≡ check_or (slice_get cs i)) → ((i : ℕ) → of_index i rest ≡ of_index (k + i) round)
      → followed_from s k before rest (watches_from k cs ss os [] []) ≡ watches_from k cs ss os before round
  from_plans k [] ss os rest cs_are rest_is = none_followed k rest
  from_plans k (c ∷ cs) [] os rest cs_are rest_is = none_followed k rest
  from_plans k (c ∷ cs) (t ∷ ss) os [] cs_are rest_is = nothing_more k (c ∷ cs) (t ∷ ss) os rest_is
  from_plans k (c ∷ cs) (t ∷ ss) os (es ∷ rest) cs_are rest_is =
      let z : k + 0 ≡ k = omega arith in
      let behind = followed_from s (suc k) before rest (watches_from (suc k) cs ss os [] []) in
      ap (λ d. watch_from d (of_index k before) es (watch_first os k t) ∷ behind) (ap (check_at s) (sym z) ∙ cs_are 0 (omega arith))
      ∙ ap (λ fs. watch_from c (of_index k before) fs (watch_first os k t) ∷ behind) (rest_is 0 ∙ ap (λ n. of_index n round) z)
      ∙ ap (λ ws. watch_from c (of_index k before) (of_index k round) (watch_first os k t) ∷ ws)
      (from_plans (suc k) cs ss os rest
      (λ i l. let y : suc k + i ≡ k + suc i = omega arith in ap (check_at s) y ∙ cs_are (suc i) (omega (arith, l)))
      (λ i. let y : k + suc i ≡ suc k + i = omega arith in rest_is (suc i) ∙ ap (λ n. of_index n round) y))

  pub after_plans : (ss : List Slot) (os : List Outstanding) → followed s before round (watches_from 0 s.checkables ss os [] []) ≡ watches_from 0 s.checkables ss os before round
  after_plans ss os =
      from_plans 0 s.checkables ss os round (λ i l. let z : 0 + i ≡ i = omega arith in ap (check_at s) z) (λ i. let z : i ≡ 0 + i = omega arith in ap (λ n. of_index n round) z)

-- Watches that tell what waits are those of their plans.

pub own_watches : (k : ℕ) (cs : List PlainCheck) (ws : List Watch) (os : List Outstanding) → length ws ≡ length cs → ((i : ℕ) (w : Watch) → slice_get ws i ≡ Some w → w.waiting ≡ is_waiting os (k + i)) → watches_from k cs (slots_in ws) os [] [] ≡ ws
own_watches k [] [] os many tell = refl
own_watches k [] (w ∷ ws) os many tell = absurd (omega (arith, many))
own_watches k (c ∷ cs) [] os many tell = refl
own_watches k (c ∷ cs) (w ∷ ws) os many tell =
    let z : k + 0 ≡ k = omega arith in
    ap (λ t. record { slot = w.slot; waiting = t } ∷ watches_from (suc k) cs (slots_in ws) os [] []) (sym (tell 0 w refl ∙ ap (is_waiting os) z))
    ∙ ap (λ vs. w ∷ vs) (own_watches (suc k) cs ws os (omega (arith, many)) (λ i v at. let y : k + suc i ≡ suc k + i = omega arith in tell (suc i) v at ∙ ap (is_waiting os) y))

pub plan_watches : (s : PlainSite) (ws : List Watch) (os : List Outstanding) → length ws ≡ length s.checkables → TellWaiting ws os → watches_from 0 s.checkables (slots_in ws) os [] [] ≡ ws
plan_watches s ws os many tell = own_watches 0 s.checkables ws os many (λ i w at. let z : i ≡ 0 + i = omega arith in tell i w at ∙ ap (is_waiting os) z)

-- A round's entries stay as many watches as there were.

pub many_followed : (s : PlainSite) (k : ℕ) (before round : Histories) (ws : List Watch) → length (followed_from s k before round ws) ≡ length ws
many_followed s k before [] ws = refl
many_followed s k before (es ∷ round) [] = refl
many_followed s k before (es ∷ round) (w ∷ ws) = ap suc (many_followed s (suc k) before round ws)
