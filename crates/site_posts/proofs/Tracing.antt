-- What callers do at posts is what they tell of the events of a round.
use Rattle.std.proofs.Common.{◌≡◌, ◌≢◌, ◌⊎◌, ℕ, zero, suc, ◌+◌, ◌-◌, ◌<◌, ◌≤◌, List, [], ◌∷◌, ◌++◌, length, map, take, filter, set, eqb, cond, Bool, true, false, slice_get, slice_index_or, Option, Some, None, inl, inr, ⊎_elim, refl, sym, ap, ◌∙◌, subst, arith, append_assoc, length-append}
use Rattle.std.specs.Prelude.{All}
use Rattle.std.proofs.lemmas.Bool.{cases_lt}
use Rattle.std.proofs.lemmas.Bool.Decides.{eqb_tells}
use Rattle.std.proofs.lemmas.List.{length-map, length-set, length-reverse, length-take-le}
use Rattle.std.proofs.lemmas.Option.{same_Some, slice_get_within, slice_get-get_or, get_or_from_slice_get}
use Rattle.jiff_tz.specs.declared.tzif.Tzif.{Tzif}
use Rattle.checkable_core.proofs.Behind.{replayed, seen_of_all}
use Rattle.checkable_core.proofs.Listed.{check_is}
use Rattle.checkable_core.specs.Contents.{Contents, check_at}
use Rattle.checkable_core.specs.Entries.{entry_made, rules_in, sight_of}
use Rattle.checkable_core.specs.Machines.{IsFit, after_entry, entry_by, glance_by}
use Rattle.checkable_core.specs.declared.deed.Deed.{Deed}
use Rattle.checkable_core.specs.declared.machine.SiteMachine.{SiteMachine}
use Rattle.depend_graph.specs.Outlooks.{seen_as}
use Rattle.post_turn.specs.History.{IsFront, entries_of, replay}
use Rattle.post_rounds.specs.Rounds as posts
use Rattle.post_rounds.specs.Rounds.{Done, IsCourse, IsDone, IsSight, Sense, at_post, made_at, sense}
use Rattle.post_rounds.specs.declared.base.Base.{Base}
use Rattle.post_rounds.specs.declared.ended.Ended.{Ended}
use Rattle.post_rounds.specs.declared.job.Job.{Job}
use Rattle.run_laws.specs.Traces.{AreTraced, IsSightOf, IsTraced, Trace, entry_told, events_in, many_on}
use Rattle.run_meaning.proofs.Lists.{get_map, get_of_map, get_take, get_within, of_index_nothing, of_index_past, one_at, take_map, take_past}
use Rattle.run_meaning.specs.Acts.{entry_of}
use Rattle.run_meaning.specs.Rounds.{all_seen, behind, entries_by, events_on}
use Rattle.run_meaning.specs.Runs.{no_entries}
use Rattle.run_meaning.specs.Turns.{Asked, Histories, of_index}
use Rattle.run_meaning.specs.View.{view_of}
use Rattle.site_model.specs.PlainSite.{PlainCheck, PlainSite, site_view}
use Rattle.site_model.specs.declared.entry.Entry.{Entry}
use Rattle.site_model.specs.declared.event.Event.{Event}
use Rattle.site_model.specs.declared.sight.Sight.{Sight}
use Rattle.site_model.specs.declared.view.View.{View}
use Rattle.site_posts.proofs.Shown.{IsSighted, IsStill, Look, Shows, each_shown, posts_of, seen_all, shown_names, leads_count}
use Rattle.site_posts.specs.Lent.{round_with}
use Rattle.site_posts.specs.Outlooks.{AreBases, AreOutlooks, Ascends, IsBaseOf, IsJobOf, IsNoneOf, IsOutlookOf, ahead_in, ahead_of, asked_by, deed_of, shown_with}
use Rattle.site_posts.specs.declared.ahead.Outlook.{Outlook}
use Rattle.site_posts.specs.declared.hall.Deeds.{Deeds}
use Rattle.site_posts.specs.declared.hall.Wanted.{Wanted}

-- Lists of which one changes.

of_index_set : (r : Histories) (k : ℕ) (h : List Entry) → k < length r → of_index k (set r k h) ≡ h
of_index_set [] k h l = absurd (omega (arith, l))
of_index_set (x ∷ r) zero h l = refl
of_index_set (x ∷ r) (suc k) h l = of_index_set r k h (omega (arith, l))

of_index_other : (r : Histories) (k c : ℕ) (h : List Entry) → k ≢ c → of_index c (set r k h) ≡ of_index c r
of_index_other [] k c h e = refl
of_index_other (x ∷ r) zero zero h e = absurd (e refl)
of_index_other (x ∷ r) zero (suc c) h e = refl
of_index_other (x ∷ r) (suc k) zero h e = refl
of_index_other (x ∷ r) (suc k) (suc c) h e = of_index_other r k c h (λ s. e (ap suc s))

-- each stands at one place
abbrev pub AreApart : List ℕ → Type 0
AreApart ks = (p q c : ℕ) → slice_get ks p ≡ Some c → slice_get ks q ≡ Some c → p ≡ q

pub ascending_apart : (ks : List ℕ) → Ascends ks → AreApart ks
ascending_apart ks up p q c at_p at_q = by (cases_lt p q) (cases_lt q p)
  where
    read : (i : ℕ) → slice_get ks i ≡ Some c → slice_index_or ks i 0 ≡ c
    read i e = get_or_from_slice_get ks i c 0 e

    by : (p < q) ⊎ (q ≤ p) → (q < p) ⊎ (p ≤ q) → p ≡ q
    by (inl lt) other = let a = up p q lt (slice_get_within ks q c at_q) in let b = read p at_p in let d = read q at_q in absurd (omega (arith, a, b, d))
    by (inr le) (inl lt) = let a = up q p lt (slice_get_within ks p c at_p) in let b = read p at_p in let d = read q at_q in absurd (omega (arith, a, b, d))
    by (inr le) (inr more) = omega (arith, le, more)

pub round_length : (r : Histories) (ks : List ℕ) (es : List (Ended Contents Entry)) → length (round_with r ks es) ≡ length r
round_length r [] es = refl
round_length r (k ∷ ks) [] = refl
round_length r (k ∷ ks) (e ∷ es) = round_length (set r k e.history) ks es ∙ length-set r k e.history

pub round_else : (c : ℕ) (r : Histories) (ks : List ℕ) (es : List (Ended Contents Entry)) → IsNoneOf c ks → of_index c (round_with r ks es) ≡ of_index c r
round_else c r [] es none = refl
round_else c r (k ∷ ks) [] none = refl
round_else c r (k ∷ ks) (e ∷ es) none = round_else c (set r k e.history) ks es (λ i. none (suc i)) ∙ of_index_other r k c e.history (none 0 k refl)

pub round_at : (p c : ℕ) (r : Histories) (ks : List ℕ) (es : List (Ended Contents Entry)) (e : Ended Contents Entry) → AreApart ks → slice_get ks p ≡ Some c → slice_get es p ≡ Some e → c < length r → of_index c (round_with r ks es) ≡ e.history
round_at p c r [] es e apart at_k at_e l = absurd cc
round_at p c r (k ∷ ks) [] e apart at_k at_e l = absurd cc
round_at zero c r (k ∷ ks) (d ∷ es) e apart at_k at_e l =
    let here : k ≡ c = same_Some k c at_k in
    round_else c (set r k d.history) ks es (λ i j at_j same. absurd (let n = apart 0 (suc i) c at_k (at_j ∙ ap Some same) in omega (arith, n)))
    ∙ ap (λ j. of_index c (set r j d.history)) here ∙ of_index_set r c d.history l ∙ ap (λ (x : Ended Contents Entry). x.history) (same_Some d e at_e)
round_at (suc p) c r (k ∷ ks) (d ∷ es) e apart at_k at_e l =
    round_at p c (set r k d.history) ks es e (λ i j x at_i at_j. let n = apart (suc i) (suc j) x at_i at_j in omega (arith, n)) at_k at_e (let n = length-set r k d.history in omega (arith, n, l))

-- whether it is one of these
pub search_for : (c : ℕ) (ks : List ℕ) → ((p : ℕ) × (slice_get ks p ≡ Some c)) ⊎ IsNoneOf c ks
search_for c [] = inr (λ i j e. absurd cc)
search_for c (k ∷ ks) = by (eqb_tells k c) (search_for c ks)
  where
    by : ((eqb k c ≡ true) × (k ≡ c)) ⊎ ((eqb k c ≡ false) × (k ≢ c)) → ((p : ℕ) × (slice_get ks p ≡ Some c)) ⊎ IsNoneOf c ks → ((p : ℕ) × (slice_get (k ∷ ks) p ≡ Some c)) ⊎ IsNoneOf c (k ∷ ks)
    by (inl e) rest = inl (0, ap Some e.1)
    by (inr e) (inl f) = inl (suc f.0, f.1)
    by (inr e) (inr none) = inr later
      where
        later : IsNoneOf c (k ∷ ks)
        later zero j at = λ same. e.1 (same_Some k j at ∙ same)
        later (suc i) j at = none i j at

abbrev pub Did : Type 0
Did = Done Wanted View Entry

-- How many jobs are on one checkable.

module _ (touched : List ℕ) (deeds : Deeds) where
  -- what is shown to the caller of a job
  abbrev pub shown_to : Did → List (ℕ × View)
  shown_to d = shown_with (ahead_of deeds d.job.want) d.sights

  -- what a caller tells of a job that it did
  abbrev pub trace_of : Did → Trace
  trace_of d = record { asked = asked_by touched d.job; stood = d.before; sights = map sight_of (shown_to d) }

  count_one : (m n : Bool) (d : Did) (ds : List Did) (v : Event) (vs : List Event) → m ≡ n → length (map (λ (x : Did). x.entry) ds) ≡ length vs → length (map (λ (x : Did). x.entry) (cond m (d ∷ ds) ds)) ≡ length (cond n (v ∷ vs) vs)
  count_one true n d ds v vs e h = ap suc h ∙ ap (λ b. length (cond b (v ∷ vs) vs)) e
  count_one false n d ds v vs e h = h ∙ ap (λ b. length (cond b (v ∷ vs) vs)) e

  pub many_here : AreApart touched → (p c : ℕ) → slice_get touched p ≡ Some c → (ds : List Did) → ((i : ℕ) (d : Did) → slice_get ds i ≡ Some d → d.job.post < length touched) → length (made_at p ds) ≡ many_on c (map trace_of ds)
  many_here apart p c at [] h = refl
  many_here apart p c at (d ∷ ds) h =
      let q = d.job.post in
      let is : slice_get touched q ≡ Some (slice_index_or touched q 0) = slice_get-get_or touched q 0 (h 0 d refl) in
      count_one (eqb q p) (eqb (slice_index_or touched q 0) c) d (filter (λ (x : Did). eqb x.job.post p) ds) d.job.want.event (events_on c (events_in (map trace_of ds)))
      (⊎_elim
      (λ e. e.0 ∙ sym (by_true (slice_index_or touched q 0) c (get_or_from_slice_get touched q c 0 (ap (slice_get touched) e.1 ∙ at))))
      (λ e. e.0 ∙ sym (by_false (slice_index_or touched q 0) c (λ same. e.1 (apart q p c (is ∙ ap Some same) at))))
      (eqb_tells q p))
      (many_here apart p c at ds (λ i. h (suc i)))
    where
      by_true : (a b : ℕ) → a ≡ b → eqb a b ≡ true
      by_true a b e = ⊎_elim (λ t. t.0) (λ t. absurd (t.1 e)) (eqb_tells a b)

      by_false : (a b : ℕ) → a ≢ b → eqb a b ≡ false
      by_false a b e = ⊎_elim (λ t. absurd (e t.1)) (λ t. t.0) (eqb_tells a b)

  pub many_none : (c : ℕ) → IsNoneOf c touched → (ds : List Did) → ((i : ℕ) (d : Did) → slice_get ds i ≡ Some d → d.job.post < length touched) → many_on c (map trace_of ds) ≡ 0
  many_none c none [] h = refl
  many_none c none (d ∷ ds) h =
      let q = d.job.post in
      let is : slice_get touched q ≡ Some (slice_index_or touched q 0) = slice_get-get_or touched q 0 (h 0 d refl) in
      ap (λ b. length (cond b (d.job.want.event ∷ events_on c (events_in (map trace_of ds))) (events_on c (events_in (map trace_of ds)))))
      (⊎_elim (λ t. absurd (none q (slice_index_or touched q 0) is t.1)) (λ t. t.0) (eqb_tells (slice_index_or touched q 0) c))
      ∙ many_none c none ds (λ i. h (suc i))
