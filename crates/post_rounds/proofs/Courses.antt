-- What a caller has done stays so while histories grow, and grows by one job.
use Rattle.std.proofs.Common.{◌≡◌, ◌≢◌, ℕ, ◌<◌, ◌≤◌, List, [], ◌∷◌, ◌++◌, length, map, take, set, filter, slice_get, Bool, Some, eqb, eq-eqb, ne_eqb, refl, sym, ap, ◌∙◌, subst, ⊎_elim, arith, append-nil}
use Rattle.std.proofs.lemmas.List.{take-append-le, take_all, map-append, append_cancel_right}
use Rattle.std.proofs.lemmas.List.Elements.{filter-append}
use Rattle.std.proofs.lemmas.Option.{slice_get_within}
use Rattle.post_turn.specs.History.{IsFront, entries_of, replay}
use Rattle.post_turn.proofs.Lists.{front_refl, front_trans}
use Rattle.post_rounds.specs.declared.base.Base.{Base}
use Rattle.post_rounds.specs.declared.job.Job.{Job}
use Rattle.post_rounds.specs.declared.sight.Sight.{Sight}
use Rattle.post_rounds.specs.Rounds.{Sense, Done, HasDone, IsSight, AreSights, IsDone, IsCourse, at_post, made_at}
use Rattle.post_rounds.proofs.Lists.{Longer, by_place, snoc_get, front_take, front_length, front_more, keep_one, keep_none, at_set, at_other, set_longer}

module _ {W G E : Type 0} where
  made_more : (p : ℕ) (dones : List (Done W G E)) (d : Done W G E) → made_at p (dones ++ d ∷ []) ≡ made_at p dones ++ map (λ (c : Done W G E). c.entry) (filter (λ (c : Done W G E). eqb c.job.post p) (d ∷ []))
  made_more p dones d =
      let f : Done W G E → Bool = λ c. eqb c.job.post p in
      ap (map (λ (c : Done W G E). c.entry)) (filter-append f dones (d ∷ [])) ∙ map-append (λ (c : Done W G E). c.entry) (filter f dones) (filter f (d ∷ []))

  -- one job more adds its entry at its post, and none elsewhere
  pub made_here : (p : ℕ) (dones : List (Done W G E)) (d : Done W G E) → d.job.post ≡ p → made_at p (dones ++ d ∷ []) ≡ made_at p dones ++ d.entry ∷ []
  made_here p dones d e = made_more p dones d ∙ ap (λ ds. made_at p dones ++ map (λ (c : Done W G E). c.entry) ds) (keep_one (λ (c : Done W G E). eqb c.job.post p) d (eq-eqb d.job.post p e))

  pub made_else : (p : ℕ) (dones : List (Done W G E)) (d : Done W G E) → d.job.post ≢ p → made_at p (dones ++ d ∷ []) ≡ made_at p dones
  made_else p dones d e = made_more p dones d ∙ ap (λ ds. made_at p dones ++ map (λ (c : Done W G E). c.entry) ds) (keep_none (λ (c : Done W G E). eqb c.job.post p) d (ne_eqb d.job.post p e)) ∙ append-nil (made_at p dones)

module _ {M S V E G W : Type 0} (x : Sense M S V E G W) (k : ℕ) where
  pub sight_grows : (old new : List (List E)) → Longer old new → (earlier : List (Done W G E)) (s : Sight G) → IsSight x old k earlier s → IsSight x new k earlier s
  sight_grows old new longer earlier s h =
      let f = longer s.post in
      let t : take s.count (at_post new s.post) ≡ take s.count (at_post old s.post) = front_take (at_post old s.post) (at_post new s.post) s.count f h.within in
      record {
        base = h.base;
        is = h.is;
        within = (let a = h.within in let b = front_length (at_post old s.post) (at_post new s.post) f in omega arith);
        glance = h.glance ∙ ap (λ es. x.glance_of h.base.machine (replay (x.after h.base.machine) h.base.start es)) (sym t);
        own = ap (entries_of x.caller_of k) t ∙ h.own;
        rises = h.rises;
      }

  pub done_grows : (old new : List (List E)) → Longer old new → (earlier : List (Done W G E)) (d : Done W G E) → IsDone x old k earlier d → IsDone x new k earlier d
  done_grows old new longer earlier d h = record {
    looked = h.looked;
    sights = λ j s at. sight_grows old new longer earlier s (h.sights j s at);
    base = h.base;
    is = h.is;
    made = h.made;
    stands = front_trans (d.before ++ d.entry ∷ []) (at_post old d.job.post) (at_post new d.job.post) h.stands (longer d.job.post);
    own = h.own;
  }

  -- histories grow by entries of others alone
  pub course_grows : (old new : List (List E)) → Longer old new → ((p : ℕ) → entries_of x.caller_of k (at_post new p) ≡ entries_of x.caller_of k (at_post old p)) → (dones : List (Done W G E)) → IsCourse x old k dones → IsCourse x new k dones
  course_grows old new longer own dones c = record {
    each = λ i d at. done_grows old new longer (take i dones) d (c.each i d at);
    mine = λ p. own p ∙ c.mine p;
  }

  -- the whole history of a post is seen
  pub sees : (hs : List (List E)) (dones : List (Done W G E)) → IsCourse x hs k dones → (base : Base M S) (s : Sight G) → slice_get x.bases s.post ≡ Some base → s.count ≡ length (at_post hs s.post) → s.glance ≡ x.glance_of base.machine (replay (x.after base.machine) base.start (at_post hs s.post)) → IsSight x hs k dones s
  sees hs dones c base s is count glance =
      let whole : take s.count (at_post hs s.post) ≡ at_post hs s.post = take_all s.count (at_post hs s.post) (omega (arith, count)) in
      record {
        base = base;
        is = is;
        within = omega (arith, count);
        glance = glance ∙ ap (λ es. x.glance_of base.machine (replay (x.after base.machine) base.start es)) (sym whole);
        own = ap (entries_of x.caller_of k) whole ∙ c.mine s.post;
        rises = λ i j d t at among same.
            let h : t.count ≤ length (at_post hs t.post) = ((c.each i d at).sights j t among).within in
            let e : length (at_post hs t.post) ≡ length (at_post hs s.post) = ap (λ p. length (at_post hs p)) same in omega (arith, h, e, count);
      }

  -- no job was done, and no entry is the caller's
  pub course_none : (hs : List (List E)) → ((p : ℕ) → entries_of x.caller_of k (at_post hs p) ≡ []) → IsCourse x hs k []
  course_none hs none = record { each = λ i d at. absurd cc; mine = none }

  -- one job more was done
  pub course_more : (old : List (List E)) (dones : List (Done W G E)) → IsCourse x old k dones → (d : Done W G E) (base : Base M S)
      → AreSights x old k dones d.sights → map (λ (s : Sight G). s.post) d.sights ≡ d.job.looks → slice_get x.bases d.job.post ≡ Some base
      → d.entry ≡ x.entry_of base.machine (replay (x.after base.machine) base.start d.before) k (x.event_of d.job.want d.sights)
      → d.job.post < length old → IsFront (at_post old d.job.post) d.before → x.caller_of d.entry ≡ k
      → entries_of x.caller_of k (d.before ++ d.entry ∷ []) ≡ entries_of x.caller_of k (at_post old d.job.post) ++ d.entry ∷ []
      → IsCourse x (set old d.job.post (d.before ++ d.entry ∷ [])) k (dones ++ d ∷ [])
  course_more old dones c d base sights looked is made within front whose grown =
      let p = d.job.post in
      let new = set old p (d.before ++ d.entry ∷ []) in
      let longer : Longer old new = set_longer old p (d.before ++ d.entry ∷ []) within (front_trans (at_post old p) d.before (d.before ++ d.entry ∷ []) front (front_more d.before d.entry)) in
      let here : at_post new p ≡ d.before ++ d.entry ∷ [] = at_set old p (d.before ++ d.entry ∷ []) within in
      let now : entries_of x.caller_of k (d.before ++ d.entry ∷ []) ≡ made_at p dones ++ d.entry ∷ [] = grown ∙ ap (λ es. es ++ d.entry ∷ []) (c.mine p) in
      let f : E → Bool = λ e. eqb (x.caller_of e) k in
      let parts : entries_of x.caller_of k (d.before ++ d.entry ∷ []) ≡ entries_of x.caller_of k d.before ++ d.entry ∷ [] = filter-append f d.before (d.entry ∷ []) ∙ ap (λ es. entries_of x.caller_of k d.before ++ es) (keep_one f d.entry (eq-eqb (x.caller_of d.entry) k whose)) in
      let own : entries_of x.caller_of k d.before ≡ made_at p dones = append_cancel_right (entries_of x.caller_of k d.before) (made_at p dones) (d.entry ∷ []) (sym parts ∙ now) in
      let last : IsDone x new k dones d = record {
        looked = looked;
        sights = λ j s at. sight_grows old new longer dones s (sights j s at);
        base = base;
        is = is;
        made = made;
        stands = subst (IsFront (d.before ++ d.entry ∷ [])) (sym here) (front_refl (d.before ++ d.entry ∷ []));
        own = own;
      } in
      record {
        each = λ i a at. ⊎_elim
            (λ e.
            let l = slice_get_within dones i a e in
            subst (λ earlier. IsDone x new k earlier a) (sym (take-append-le i dones (d ∷ []) (omega (arith, l)))) (done_grows old new longer (take i dones) a (c.each i a e)))
            (λ e.
            let l = e.0 in
            let all : take i (dones ++ d ∷ []) ≡ dones = take-append-le i dones (d ∷ []) (omega (arith, l)) ∙ take_all i dones (omega (arith, l)) in
            subst (IsDone x new k (take i (dones ++ d ∷ []))) e.1 (subst (λ earlier. IsDone x new k earlier d) (sym all) last))
            (snoc_get dones d a i at);
        mine = λ q. by_place p q
            (λ e. subst (λ r. entries_of x.caller_of k (at_post new r) ≡ made_at r (dones ++ d ∷ [])) e (ap (entries_of x.caller_of k) here ∙ now ∙ sym (made_here p dones d refl)))
            (λ e. ap (entries_of x.caller_of k) (at_other old p q (d.before ++ d.entry ∷ []) e) ∙ c.mine q ∙ sym (made_else q dones d e));
      }

  -- what was done by what the caller had seen stands in the histories that the posts end with
  pub settled : (seen final : List (List E)) (jobs : List (Job W)) → Longer seen final → ((p : ℕ) → entries_of x.caller_of k (at_post final p) ≡ entries_of x.caller_of k (at_post seen p)) → HasDone x seen k jobs → HasDone x final k jobs
  settled seen final jobs longer own h = record { dones = h.dones; are = h.are; course = course_grows seen final longer own h.dones h.course }
