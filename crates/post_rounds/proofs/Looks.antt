-- What looks tell.
use Rattle.std.proofs.Common.{◌≡◌, ℕ, ◌<◌, List, [], ◌∷◌, ◌++◌, length, set, slice_get, Some, refl, sym, ap, ◌∙◌, subst, ⊎_elim}
use Rattle.std.proofs.lemmas.List.{map_push}
use Rattle.post_turn.specs.History.{IsFront, entries_of, replay}
use Rattle.post_turn.proofs.Lists.{front_refl, front_trans}
use Rattle.post_rounds.specs.declared.base.Base.{Base}
use Rattle.post_rounds.specs.declared.sight.Sight.{Sight}
use Rattle.post_rounds.specs.Rounds.{Sense, Done, IsSight, IsCourse, at_post}
use Rattle.post_rounds.specs.Hands.{Saw}
use Rattle.post_rounds.proofs.Lists.{Longer, snoc_get, at_set, set_longer, set_same}
use Rattle.post_rounds.proofs.Courses.{sight_grows, course_grows, sees}

module _ {M S V E G W : Type 0} (x : Sense M S V E G W) (k : ℕ) where
  pub saw_none : (hs : List (List E)) → Saw x hs hs k [] []
  saw_none hs = record { longer = λ p. front_refl (at_post hs p); own = λ p. refl; looked = refl; seen = λ dones c j s at. absurd cc }

  pub saw_more : (old mid new : List (List E)) (looks : List ℕ) (sights : List (Sight G)) (q : ℕ) (s : Sight G) → Saw x old mid k looks sights → Saw x mid new k (q ∷ []) (s ∷ []) → Saw x old new k (looks ++ q ∷ []) (sights ++ s ∷ [])
  saw_more old mid new looks sights q s a b = record {
    longer = λ p. front_trans (at_post old p) (at_post mid p) (at_post new p) (a.longer p) (b.longer p);
    own = λ p. b.own p ∙ a.own p;
    looked = map_push (λ (t : Sight G). t.post) sights s ∙ (λ i. a.looked i ++ b.looked i);
    seen = λ dones c j t at. ⊎_elim
        (λ e. sight_grows x k mid new b.longer dones t (a.seen dones c j t e))
        (λ e. b.seen dones (course_grows x k old mid a.longer a.own dones c) 0 t (ap Some e.1))
        (snoc_get sights s t j at);
  }

  -- one post was looked at
  pub saw_one : (old : List (List E)) (base : Base M S) (s : Sight G) (h : List E) → slice_get x.bases s.post ≡ Some base → s.post < length old → IsFront (at_post old s.post) h
      → entries_of x.caller_of k h ≡ entries_of x.caller_of k (at_post old s.post) → s.count ≡ length h → s.glance ≡ x.glance_of base.machine (replay (x.after base.machine) base.start h)
      → Saw x old (set old s.post h) k (s.post ∷ []) (s ∷ [])
  saw_one old base s h is within front own count glance =
      let new = set old s.post h in
      let here : at_post new s.post ≡ h = at_set old s.post h within in
      let longer : Longer old new = set_longer old s.post h within front in
      let same : (p : ℕ) → entries_of x.caller_of k (at_post new p) ≡ entries_of x.caller_of k (at_post old p) = set_same (entries_of x.caller_of k) old s.post h within own in
      let first : (dones : List (Done W G E)) → IsCourse x old k dones → IsSight x new k dones s = λ dones c.
      sees x k new dones (course_grows x k old new longer same dones c) base s is (count ∙ ap length (sym here)) (glance ∙ ap (λ es. x.glance_of base.machine (replay (x.after base.machine) base.start es)) (sym here)) in
      record {
        longer = longer;
        own = same;
        looked = refl;
        seen = λ dones c j t at. ⊎_elim
            (λ e. absurd cc)
            (λ e. subst (IsSight x new k dones) e.1 (first dones c))
            (snoc_get [] s t j at);
      }
