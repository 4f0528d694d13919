-- A round at posts is a round of the site.
use Rattle.std.proofs.Common.{◌≡◌, ◌≢◌, ◌⊎◌, ℕ, zero, suc, ◌+◌, ◌-◌, ◌<◌, ◌≤◌, List, [], ◌∷◌, ◌++◌, Bool, true, length, map, take, filter, eqb, eq-eqb, slice_get, slice_index_or, Option, Some, None, inl, inr, ⊎_elim, refl, sym, ap, ◌∙◌, subst, arith, append_assoc, length-append, append-nil}
use Rattle.std.specs.Prelude.{All}
use Rattle.std.proofs.lemmas.Bool.{cases_lt}
use Rattle.std.proofs.lemmas.List.{length-map, length-reverse, length-take-le}
use Rattle.std.proofs.lemmas.Option.{same_Some, slice_get_within, slice_get-get_or, get_or_from_slice_get, slice_get-map}
use Rattle.std.specs.Prelude.{option_map}
use Rattle.jiff_tz.specs.declared.tzif.Tzif.{Tzif}
use Rattle.checkable_core.proofs.Behind.{replayed, seen_of_all}
use Rattle.checkable_core.proofs.Listed.{check_is}
use Rattle.checkable_core.proofs.Own.{ancestors_own}
use Rattle.checkable_core.specs.Contents.{Contents, check_at}
use Rattle.checkable_core.specs.Entries.{entry_made, rules_in, sight_of}
use Rattle.checkable_core.specs.Machines.{IsFit, after_entry, entry_by, glance_by}
use Rattle.checkable_core.specs.declared.deed.Deed.{Deed}
use Rattle.checkable_core.specs.declared.machine.SiteMachine.{SiteMachine}
use Rattle.depend_graph.specs.Outlooks.{seen_as}
use Rattle.post_turn.specs.History.{entries_of, replay}
use Rattle.post_rounds.specs.Rounds as posts
use Rattle.post_rounds.specs.Rounds.{Done, HasDone, IsCourse, IsDone, IsSight, Sense, at_post, made_at, sense}
use Rattle.post_rounds.specs.declared.base.Base.{Base}
use Rattle.post_rounds.specs.declared.ended.Ended.{Ended}
use Rattle.post_rounds.specs.declared.job.Job.{Job}
use Rattle.post_rounds.proofs.Places.{all_at}
use Rattle.run_meaning.specs.Reachability.{ancestors}
use Rattle.site_model.specs.Sound.{IsIndex}
use Rattle.site_posts.specs.declared.ahead.Ahead.{Ahead}
use Rattle.run_laws.specs.Traces.{AreTraced, IsSightOf, IsTraced, Trace, entry_told, events_in, many_on}
use Rattle.run_meaning.proofs.Lists.{get_map, get_of_map, get_take, kept_at, get_within, of_index_nothing, of_index_past, one_at, take_map, take_past, take_whole}
use Rattle.run_meaning.specs.Acts.{entry_of}
use Rattle.run_laws.proofs.Tracing.{traces_make}
use Rattle.run_meaning.specs.Rounds.{IsRound, all_seen, behind, entries_by}
use Rattle.run_meaning.specs.Runs.{no_entries}
use Rattle.run_meaning.specs.Turns.{Asked, Histories, of_index}
use Rattle.run_meaning.specs.View.{view_of}
use Rattle.site_model.specs.PlainSite.{PlainCheck, PlainSite, site_view}
use Rattle.site_model.specs.declared.entry.Entry.{Entry}
use Rattle.site_model.specs.declared.sight.Sight.{Sight}
use Rattle.site_model.specs.declared.view.View.{View}
use Rattle.site_posts.proofs.Shown.{IsSighted, IsStill, Look, Shows, each_shown, posts_of, seen_all, shown_names, leads_count}
use Rattle.site_posts.proofs.Tracing.{AreApart, Did, many_here, many_none, round_at, round_else, round_length, search_for, shown_to, trace_of}
use Rattle.site_posts.specs.Lent.{round_with}
use Rattle.site_posts.specs.Outlooks.{AreBases, AreOutlooks, IsBaseOf, IsJobOf, IsNoneOf, IsOutlookOf, Leads, ahead_in, ahead_of, asked_by, deed_of, shown_with}
use Rattle.site_posts.specs.declared.ahead.Outlook.{Outlook}
use Rattle.site_posts.specs.declared.hall.Deeds.{Deeds}
use Rattle.site_posts.specs.declared.hall.Wanted.{Wanted}

take_nothing : {A : Type 0} (n : ℕ) → take {A = A} n [] ≡ []
take_nothing zero = refl
take_nothing (suc n) = refl

minus : (v b t : ℕ) → v ≡ b + t → v - b ≡ t
minus v b t e = omega (arith, e)

map_twice : (xs : List (ℕ × View)) → map (λ (z : Sight). z.checkable) (map sight_of xs) ≡ map (λ (y : ℕ × View). y.0) xs
map_twice [] = refl
map_twice (x ∷ xs) = ap (λ ps. x.0 ∷ ps) (map_twice xs)

abbrev job_of : Did → Job Wanted
job_of d = d.job

at_each : (C : ℕ → List Did → Type 0) (ds : List Did) (dss : List (List Did)) → C 0 ds → ((k : ℕ) (es : List Did) → slice_get dss k ≡ Some es → C (suc k) es) → (k : ℕ) (es : List Did) → slice_get (ds ∷ dss) k ≡ Some es → C k es
at_each C ds dss one rest zero es e = subst (C 0) (same_Some ds es e) one
at_each C ds dss one rest (suc k) es e = rest k es e

-- what is had for each list
collect : (lists : List (List (Job Wanted))) (C : ℕ → List Did → Type 0) → ((k : ℕ) (js : List (Job Wanted)) → slice_get lists k ≡ Some js → (ds : List Did) × (map job_of ds ≡ js) × C k ds)
    → (dss : List (List Did)) × (map (map job_of) dss ≡ lists) × ((k : ℕ) (ds : List Did) → slice_get dss k ≡ Some ds → C k ds)
collect [] C h = ([], refl, λ k ds at. absurd cc)
collect (js ∷ lists) C h =
    let one = h 0 js refl in
    let rest = collect lists (λ k. C (suc k)) (λ k. h (suc k)) in
    (one.0 ∷ rest.0, (λ z. one.1 z ∷ rest.1 z), at_each C one.0 rest.0 one.2 rest.2)

row_at : {A : Type 0} (xss : List (List A)) (k : ℕ) (xs : List A) → slice_get xss k ≡ Some xs → of_index k xss ≡ xs
row_at [] k xs e = absurd cc
row_at (y ∷ yss) zero xs e = same_Some y xs e
row_at (y ∷ yss) (suc k) xs e = row_at yss k xs e

row_of : {A : Type 0} (xss : List (List A)) (k i : ℕ) (y : A) → slice_get (of_index k xss) i ≡ Some y → (xs : List A) × (slice_get xss k ≡ Some xs) × (of_index k xss ≡ xs)
row_of [] k i y e = absurd cc
row_of (xs ∷ xss) zero i y e = (xs, refl, refl)
row_of (xs ∷ xss) (suc k) i y e = row_of xss k i y e

-- what passes a test is kept
not_kept : {A : Type 0} (f : A → Bool) (xs : List A) (i : ℕ) (y : A) → slice_get xs i ≡ Some y → f y ≡ true → filter f xs ≡ [] → ⊥
not_kept f xs i y at kept none = let both : None ≡ Some y = ap (λ es. slice_get es (length (filter f (take i xs)))) (sym none) ∙ kept_at f xs i y at kept in cc

abbrev pub sense_of : Deeds → List (Base SiteMachine Contents) → Sense SiteMachine Contents Deed Entry View Wanted
sense_of deeds bases = sense entry_by (λ (e : Entry). e.caller) after_entry glance_by (deed_of deeds) bases

module _ (s : PlainSite) (zone : Option Tzif) (moment : ℕ) (before : Histories) (touched : List ℕ) (deeds : Deeds) (bases : List (Base SiteMachine Contents)) (ended : List (Ended Contents Entry)) where
  abbrev x : Sense SiteMachine Contents Deed Entry View Wanted
  x = sense_of deeds bases

  abbrev hs : List (List Entry)
  hs = posts.histories_of ended

  abbrev made : Histories
  made = round_with (no_entries s) touched ended

  pub record Stands : Type 0 where
    pub apart : AreApart touched
    pub within : (p c : ℕ) → slice_get touched p ≡ Some c → c < length s.checkables
    pub outlooks : AreOutlooks s before touched deeds.outlooks.items
    pub now : deeds.moment ≡ moment
    pub begun : AreBases s zone moment before touched bases
    pub whole : length ended ≡ length bases

  module _ (st : Stands) where
    -- what the round has of one checkable
    made_is : (p c : ℕ) → slice_get touched p ≡ Some c → of_index c made ≡ at_post hs p
    made_is p c at =
        let l = slice_get_within touched p c at in
        let e = get_within ended p (let n = st.whole in let m = st.begun.whole in omega (arith, l, n, m)) in
        round_at p c (no_entries s) touched ended e.0 st.apart at e.1 (let n = length-map {B = List Entry} s.checkables (λ _. []) in let w = st.within p c at in omega (arith, n, w))
        ∙ sym (get_or_from_slice_get hs p e.0.history [] (slice_get-map (λ (d : Ended Contents Entry). d.history) ended p ∙ ap (option_map (λ (d : Ended Contents Entry). d.history)) e.1))

    made_none : (c : ℕ) → IsNoneOf c touched → of_index c made ≡ []
    made_none c none = round_else c (no_entries s) touched ended none ∙ of_index_nothing s.checkables c

    module _ (k : ℕ) (dones : List Did) (course : IsCourse x hs k dones) (jobs : (i : ℕ) (d : Did) → slice_get dones i ≡ Some d → IsJobOf touched deeds.outlooks.items d.job) where
      abbrev trace : Did → Trace
      trace d = trace_of touched deeds d

      posted : (n i : ℕ) (d : Did) → slice_get (take n dones) i ≡ Some d → d.job.post < length touched
      posted n i d at = (jobs i d (get_take n dones i d at)).post

      module _ (i : ℕ) (d : Did) (at_d : slice_get dones i ≡ Some d) where
        abbrev earlier : List Did
        earlier = take i dones

        done : IsDone x hs k earlier d
        done = course.each i d at_d

        abbrev place : ℕ
        place = slice_index_or touched d.job.post 0

        at_place : slice_get touched d.job.post ≡ Some place
        at_place = slice_get-get_or touched d.job.post 0 (jobs i d at_d).post

        outlook : (o : Outlook) × (slice_get deeds.outlooks.items d.job.post ≡ Some o)
        outlook = get_within deeds.outlooks.items d.job.post (let l = (jobs i d at_d).post in let n = st.outlooks.whole in omega (arith, l, n))

        is_outlook : IsOutlookOf s before touched place outlook.0
        is_outlook = st.outlooks.each d.job.post place outlook.0 at_place outlook.1

        ahead_is : ahead_of deeds d.job.want ≡ outlook.0.ahead
        ahead_is = ap (λ q. ahead_in (slice_get deeds.outlooks.items q)) (jobs i d at_d).want ∙ ap ahead_in outlook.1

        looks_are : posts_of d.sights ≡ outlook.0.posts
        looks_are = done.looked ∙ (jobs i d at_d).looks outlook.0 outlook.1

        leads : Leads s before touched (ahead_of deeds d.job.want) outlook.0.posts
        leads = subst (λ a. Leads s before touched a outlook.0.posts) (sym ahead_is) is_outlook.leads

        -- it has looked at the checkables on which its own depends
        names : map (λ (y : ℕ × View). y.0) (shown_to touched deeds d) ≡ ancestors s place
        names =
            shown_names (ahead_of deeds d.job.want) d.sights (sym (length-map d.sights (λ (t : Look). t.post)) ∙ ap length looks_are ∙ leads_count s before touched (ahead_of deeds d.job.want) outlook.0.posts leads)
            ∙ ap (map (λ (a : Ahead). a.ancestor)) ahead_is ∙ is_outlook.names

        within : (j : ℕ) (y : ℕ × View) → slice_get (shown_to touched deeds d) j ≡ Some y → y.0 < length s.checkables
        within j y at = all_at (IsIndex (length s.checkables)) (ancestors s place) (ancestors_own s place) j y.0
            (ap (λ ps. slice_get ps j) (sym names) ∙ get_of_map (λ (z : ℕ × View). z.0) (shown_to touched deeds d) j y at)

        each : (j : ℕ) (y : ℕ × View) → slice_get (shown_to touched deeds d) j ≡ Some y → IsStill s before touched y.0 y.1 ⊎ IsSighted s before touched d.sights y.0 y.1
        each = each_shown s before touched (ahead_of deeds d.job.want) outlook.0.posts d.sights leads looks_are

        -- a sight of a post counts the entries before the round and those of the history that were seen
        count_of : (j : ℕ) (t : Look) (p : ℕ) → slice_get d.sights j ≡ Some t → slice_get touched t.post ≡ Some p → t.glance.count ≡ length (of_index p before) + t.count
        count_of j t p at at_p =
            let h = done.sights j t at in
            let b = st.begun.each t.post p h.base at_p h.is in
            ap (λ (v : View). v.count) h.glance ∙ seen_of_all h.base.machine h.base.start (take t.count (at_post hs t.post))
            ∙ (λ z. length (b.entries z) + length-take-le t.count (at_post hs t.post) h.within z)

        view_is : (j : ℕ) (t : Look) (p : ℕ) → slice_get d.sights j ≡ Some t → slice_get touched t.post ≡ Some p → t.glance ≡ view_of (check_at s p) (of_index p before ++ take t.count (at_post hs t.post))
        view_is j t p at at_p =
            let h = done.sights j t at in
            let b = st.begun.each t.post p h.base at_p h.is in
            let seen = take t.count (at_post hs t.post) in
            h.glance ∙ ap (glance_by h.base.machine) (replayed h.base.machine h.base.start seen)
            ∙ (λ z. view_of (check_at (b.book_site z) (b.index z)) (b.entries z ++ seen))

      still_count : (p : ℕ) (v : View) → IsStill s before touched p v → v.count ≡ length (of_index p before)
      still_count p v h = ap (λ (w : View). w.count) h.view ∙ length-reverse (of_index p before)

      module _ (i : ℕ) (d : Did) (at_d : slice_get dones i ≡ Some d) where
        abbrev told : List Trace
        told = map trace (take i dones)

        -- what a caller told of earlier sights of a checkable: it saw no more
        before_it : (p n : ℕ) → (IsNoneOf p touched → length (of_index p before) ≤ n)
            → ((h m : ℕ) (e : Did) (t : Look) → slice_get (take i dones) h ≡ Some e → slice_get e.sights m ≡ Some t → slice_get touched t.post ≡ Some p → length (of_index p before) + t.count ≤ n)
            → (h m : ℕ) (u : Trace) (z : Sight) → slice_get told h ≡ Some u → slice_get u.sights m ≡ Some z → z.checkable ≡ p → z.count ≤ n
        before_it p n none some h m u z at_u at_z is =
            let e = get_map trace (take i dones) h u at_u in
            let at_e = get_take i dones h e.0 e.1 in
            let y = get_map sight_of (shown_to touched deeds e.0) m z (ap (λ (w : Trace). slice_get w.sights m) e.2 ∙ at_z) in
            let here : y.0.0 ≡ p = ap (λ (w : Sight). w.checkable) y.2 ∙ is in
            let count : y.0.1.count ≡ z.count = ap (λ (w : Sight). w.count) y.2 in
            ⊎_elim
            (λ l. let c = still_count y.0.0 y.0.1 l in let q = ap (λ k. length (of_index k before)) here in let b = none (subst (λ k. IsNoneOf k touched) here l.none) in omega (arith, c, q, b, count))
            (λ l.
            let at_p = l.post ∙ ap Some here in
            let c = ap (λ (v : View). v.count) l.view ∙ count_of h e.0 at_e l.j l.sight p l.at at_p in
            let b = some h l.j e.0 l.sight e.1 l.at at_p in omega (arith, c, b, count))
            (each h e.0 at_e m y.0 y.1)

        abbrev Ok : ℕ → View → Type 0
        Ok p v = Shows s (behind before made) p v × IsSightOf before made k told (record { checkable = p; count = v.count })

        of_still : (p : ℕ) (v : View) → p < length s.checkables → IsStill s before touched p v → Ok p v
        of_still p v w h =
            let b = of_index p before in
            let c = still_count p v h in
            let none = made_none p h.none in (
              record {
                within = w;
                view = h.view ∙ ap (view_of (check_at s p)) (sym (ap (λ n. take n (b ++ of_index p made)) c ∙ ap (λ m. take (length b) (b ++ m)) none ∙ ap (take (length b)) (append-nil b) ∙ take_whole b));
              },
              record {
                least = omega (arith, c);
                most = (let l = length-append b (of_index p made) in omega (arith, c, l));
                own = ap (λ m. length (entries_by k (take (v.count - length b) m))) none ∙ ap (λ m. length (entries_by k m)) (take_nothing (v.count - length b)) ∙ sym (many_none touched deeds p h.none (take i dones) (posted i));
                rises = before_it p v.count (λ _. omega (arith, c)) (λ a m e t at_e at_t at_p. absurd (h.none t.post p at_p refl));
              },
            )

        of_sighted : (p : ℕ) (v : View) → p < length s.checkables → IsSighted s before touched d.sights p v → Ok p v
        of_sighted p v w h =
            let b = of_index p before in
            let t = h.sight in
            let sight = (done i d at_d).sights h.j t h.at in
            let c : v.count ≡ length b + t.count = ap (λ (u : View). u.count) h.view ∙ count_of i d at_d h.j t p h.at h.post in
            let all = made_is t.post p h.post in
            let seen : take (v.count - length b) (of_index p made) ≡ take t.count (at_post hs t.post) = (λ z. take (minus v.count (length b) t.count c z) (all z)) in (
              record {
                within = w;
                view = h.view ∙ view_is i d at_d h.j t p h.at h.post ∙ ap (view_of (check_at s p)) (sym (ap (λ n. take n (b ++ of_index p made)) c ∙ take_past b (of_index p made) t.count ∙ ap (λ m. b ++ take t.count m) all));
              },
              record {
                least = omega (arith, c);
                most = (let l = length-append b (of_index p made) in let n = ap length all in let m = sight.within in omega (arith, c, l, n, m));
                own = ap (λ m. length (entries_by k m)) seen ∙ ap length sight.own ∙ many_here touched deeds st.apart t.post p h.post (take i dones) (posted i);
                rises = before_it p v.count (λ none. absurd (none t.post p h.post refl))
                    (λ a m e u at_e at_u at_p. let l = sight.rises a m e u at_e at_u (st.apart u.post t.post p at_p h.post) in omega (arith, c, l));
              },
            )

        each_ok : (j : ℕ) (y : ℕ × View) → slice_get (shown_to touched deeds d) j ≡ Some y → Ok y.0 y.1
        each_ok j y at = ⊎_elim (of_still y.0 y.1 (within i d at_d j y at)) (of_sighted y.0 y.1 (within i d at_d j y at)) (each i d at_d j y at)

        -- the caller tells of it as of an event that it took
        is_traced : IsTraced (rules_in s zone) moment before made k told (trace d)
        is_traced =
            let c = place i d at_d in
            let at_c = at_place i d at_d in
            let g = done i d at_d in
            let b = st.begun.each d.job.post c g.base at_c g.is in
            let shown = shown_to touched deeds d in
            let sights = map sight_of shown in
            let history = of_index c before ++ d.before in
            let seen : map seen_as shown ≡ all_seen s (behind before made) sights = seen_all s (behind before made) shown (λ j y at. (each_ok j y at).0) in
            let m = g.base.machine in
            let entry : d.entry ≡ entry_told (rules_in s zone) moment before made k (check_at s c) (trace d) =
            g.made ∙ ap (λ r. entry_by m r k (deed_of deeds d.job.want d.sights)) (replayed m g.base.start d.before)
            ∙ (λ z. entry_made (b.site z) (b.zone z) (b.checkable z) (b.entries z ++ d.before) k (st.now z) d.job.want.event shown)
            ∙ ap (λ ss. entry_of (rules_in s zone) c (check_at s c) history ss (record { caller = k; moment = moment; event = d.job.want.event; sights = sights })) seen in
            record {
              check = check_at s c;
              is = check_is s.checkables c (st.within d.job.post c at_c);
              rest = g.stands.rest;
              stands = made_is d.job.post c at_c ∙ g.stands.whole ∙ append_assoc d.before (d.entry ∷ []) g.stands.rest ∙ ap (λ e. d.before ++ e ∷ g.stands.rest) entry;
              own = ap length g.own ∙ many_here touched deeds st.apart d.job.post c at_c (take i dones) (posted i);
              looked = map_twice shown ∙ names i d at_d;
              sights = λ j y at.
                  let z = get_map sight_of shown j y at in
                  subst (IsSightOf before made k told) z.2 (each_ok j z.0 z.1).1;
            }

    module _ (lists : List (List (Job Wanted))) (fit : SiteMachine → Contents → Type 0) (round : posts.IsRound x fit lists ended)
        (jobs : (k i : ℕ) (js : List (Job Wanted)) (job : Job Wanted) → slice_get lists k ≡ Some js → slice_get js i ≡ Some job → IsJobOf touched deeds.outlooks.items job) where
      -- what each caller did
      did : (dss : List (List Did)) × (map (map job_of) dss ≡ lists) × ((k : ℕ) (ds : List Did) → slice_get dss k ≡ Some ds → IsCourse x hs k ds)
      did = collect lists (λ k ds. IsCourse x hs k ds) (λ k js at. let h = round.courses k js at in (h.dones, h.are, h.course))

      abbrev tell : Did → Trace
      tell d = trace_of touched deeds d

      abbrev traces : List (List Trace)
      traces = map (map tell) did.0

      module _ (k : ℕ) (ds : List Did) (at_ds : slice_get did.0 k ≡ Some ds) where
        did_jobs : (i : ℕ) (d : Did) → slice_get ds i ≡ Some d → IsJobOf touched deeds.outlooks.items d.job
        did_jobs i d at = jobs k i (map job_of ds) d.job (ap (λ l. slice_get l k) (sym did.1) ∙ get_of_map (map job_of) did.0 k ds at_ds) (get_of_map job_of ds i d at)

        told_by : of_index k traces ≡ map tell ds
        told_by = row_at traces k (map tell ds) (get_of_map (map tell) did.0 k ds at_ds)

        told_each : (i : ℕ) (t : Trace) → slice_get (map tell ds) i ≡ Some t → IsTraced (rules_in s zone) moment before made k (take i (of_index k traces)) t
        told_each i t at =
            let d = get_map tell ds i t at in
            let one = is_traced k ds (did.2 k ds at_ds) did_jobs i d.0 d.1 in
            subst (IsTraced (rules_in s zone) moment before made k (take i (of_index k traces))) d.2
            (subst (λ ts. IsTraced (rules_in s zone) moment before made k ts (tell d.0)) (sym (ap (take i) told_by ∙ take_map tell i ds)) one)

        told_mine : (c : ℕ) → length (entries_by k (of_index c made)) ≡ many_on c (of_index k traces)
        told_mine c =
            let posted : (i : ℕ) (d : Did) → slice_get ds i ≡ Some d → d.job.post < length touched = λ i d at. (did_jobs i d at).post in
            ⊎_elim
            (λ f. ap (λ es. length (entries_by k es)) (made_is f.0 c f.1) ∙ ap length ((did.2 k ds at_ds).mine f.0) ∙ many_here touched deeds st.apart f.0 c f.1 ds posted)
            (λ none. ap (λ es. length (entries_by k es)) (made_none c none) ∙ sym (many_none touched deeds c none ds posted))
            (search_for c touched)
            ∙ ap (many_on c) (sym told_by)

      count_traces : length traces ≡ length lists
      count_traces = length-map did.0 (map tell) ∙ sym (length-map did.0 (map job_of)) ∙ ap length did.1

      no_stranger : (c i : ℕ) (e : Entry) → slice_get (of_index c made) i ≡ Some e → e.caller < length traces
      no_stranger c i e at = ⊎_elim
          (λ f.
          let l = slice_get_within touched f.0 c f.1 in
          let b = get_within bases f.0 (let n = st.begun.whole in omega (arith, l, n)) in
          let d = get_within ended f.0 (let n = st.begun.whole in let m = st.whole in omega (arith, l, n, m)) in
          let history : at_post hs f.0 ≡ d.0.history = get_or_from_slice_get hs f.0 d.0.history [] (slice_get-map (λ (y : Ended Contents Entry). y.history) ended f.0 ∙ ap (option_map (λ (y : Ended Contents Entry). y.history)) d.1) in
          let there : slice_get d.0.history i ≡ Some e = ap (λ es. slice_get es i) (sym (made_is f.0 c f.1 ∙ history)) ∙ at in
          let n = count_traces in
          ⊎_elim (λ less. omega (arith, less, n)) (λ more. absurd (not_kept (λ (y : Entry). eqb y.caller e.caller) d.0.history i e there (eq-eqb e.caller e.caller refl) ((round.ends f.0 b.0 d.0 b.1 d.1).others e.caller more))) (cases_lt e.caller (length lists)))
          (λ none. absurd (let n = ap (λ es. slice_get es i) (made_none c none) in let both : None ≡ Some e = sym n ∙ at in cc))
          (search_for c touched)

      are_traced : AreTraced (rules_in s zone) moment before traces made
      are_traced = record {
        whole = round_length (no_entries s) touched ended ∙ length-map {B = List Entry} s.checkables (λ _. []);
        each = λ k i t at.
            let row = row_of traces k i t at in
            let ds = get_map (map tell) did.0 k row.0 row.1 in
            told_each k ds.0 ds.1 i t (ap (λ ts. slice_get ts i) (ds.2 ∙ sym row.2) ∙ at);
        mine = λ k c l. let ds = get_within did.0 k (let n = length-map did.0 (map tell) in omega (arith, l, n)) in told_mine k ds.0 ds.1 c;
        callers = no_stranger;
      }

      -- the round of the callers' events
      pub is_round : IsRound (rules_in s zone) moment before (map (map (asked_by touched)) lists) made
      is_round = subst (λ events. IsRound (rules_in s zone) moment before events made) (events_are did.0 ∙ ap (map (map (asked_by touched))) did.1) (traces_make (rules_in s zone) moment before traces made are_traced)
        where
          events_one : (ds : List Did) → events_in (map tell ds) ≡ map (asked_by touched) (map job_of ds)
          events_one [] = refl
          events_one (d ∷ ds) = ap (λ es. asked_by touched d.job ∷ es) (events_one ds)

          events_are : (dss : List (List Did)) → map events_in (map (map tell) dss) ≡ map (map (asked_by touched)) (map (map job_of) dss)
          events_are [] = refl
          events_are (ds ∷ dss) = (λ z. events_one ds z ∷ events_are dss z)
