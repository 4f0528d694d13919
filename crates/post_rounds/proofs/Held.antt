-- A caller's passes, of which one changes.
use Rattle.std.proofs.Common.{◌≡◌, ◌≢◌, ℕ, zero, suc, ◌<◌, List, [], ◌∷◌, ◌++◌, length, map, set, get_or, slice_get, Some, refl, sym, ap, ◌∙◌, subst, arith, length-set}
use Rattle.std.specs.Prelude.{option_map}
use Rattle.std.proofs.lemmas.List.{get_or-set_same, get_or-map, map-set, length-map}
use Rattle.std.proofs.lemmas.Option.{same_Some, slice_get-get_or, slice_get_read, slice_get-map}
use Rattle.post_turn.specs.declared.post.Post.{Post}
use Rattle.post_turn.specs.declared.pass.Pass.{Pass}
use Rattle.post_turn.specs.History.{IsFront, entries_of, replay}
use Rattle.post_turn.specs.Passes.{start_of, seen_of, mine_of, IsPassOf, KnowsOwn, Acts}
use Rattle.post_rounds.specs.declared.sight.Sight.{Sight}
use Rattle.post_rounds.specs.declared.job.Job.{Job}
use Rattle.post_rounds.specs.Rounds.{Sense, Done, IsCourse, at_post}
use Rattle.post_rounds.specs.Hands.{AreHeld, Saw, Did, seen_by, base_of}
use Rattle.post_rounds.proofs.Lists.{by_place}
use Rattle.post_rounds.proofs.Courses.{course_grows, course_more}
use Rattle.post_rounds.proofs.Looks.{saw_one}

module _ {A : Type 0} where
  pub get_set_same : (xs : List A) (p : ℕ) (y : A) → p < length xs → slice_get (set xs p y) p ≡ Some y
  get_set_same xs p y l =
      let n = length-set xs p y in
      slice_get-get_or (set xs p y) p y (omega arith) ∙ ap Some (get_or-set_same xs p y y l)

  pub get_set_other : (xs : List A) (p q : ℕ) (y : A) → p ≢ q → slice_get (set xs p y) q ≡ slice_get xs q
  get_set_other [] p q y e = refl
  get_set_other (x ∷ xs) zero zero y e = absurd (e refl)
  get_set_other (x ∷ xs) zero (suc q) y e = refl
  get_set_other (x ∷ xs) (suc p) zero y e = refl
  get_set_other (x ∷ xs) (suc p) (suc q) y e = get_set_other xs p q y (λ s. e (ap suc s))

  pub one_at : (xs : List A) (i : ℕ) (x y : A) → slice_get xs i ≡ Some x → slice_get xs i ≡ Some y → x ≡ y
  one_at xs i x y e f = same_Some x y (sym e ∙ f)

module _ {M S V E G : Type 0} (caller_of : E → ℕ) (posts : List (Post M S V E G)) (k : ℕ) (hand : List (Pass M S V E G)) (held : AreHeld caller_of posts k hand) (p : ℕ) (within : p < length posts) (a : Post M S V E G) (b : Pass M S V E G) (at_a : a ≡ get_or posts p a) (at_b : b ≡ get_or hand p b) where
  post_is : slice_get posts p ≡ Some a
  post_is = slice_get_read posts (length posts) p a refl within at_a

  pass_is : slice_get hand p ≡ Some b
  pass_is = slice_get_read hand (length posts) p b (sym held.whole) within at_b

  pub held_at : IsPassOf a b × (b.caller ≡ k) × KnowsOwn caller_of b
  held_at = held.each p a b post_is pass_is

  pub hand_within : p < length hand
  hand_within = let w = held.whole in omega (arith, w, within)

  -- one pass has changed, and is still the caller's
  pub held_set : (c : Pass M S V E G) → IsPassOf a c × (c.caller ≡ b.caller) → KnowsOwn caller_of c → AreHeld caller_of posts k (set hand p c)
  held_set c is own = record {
    whole = length-set hand p c ∙ held.whole;
    each = λ i d e at_d at_e. by_place p i
        (λ same.
        let there : slice_get posts p ≡ Some d = subst (λ j. slice_get posts j ≡ Some d) (sym same) at_d in
        let here : slice_get (set hand p c) p ≡ Some e = subst (λ j. slice_get (set hand p c) j ≡ Some e) (sym same) at_e in
        let post : a ≡ d = one_at posts p a d post_is there in
        let pass : c ≡ e = one_at (set hand p c) p c e (get_set_same hand p c hand_within) here in
        subst (λ q. IsPassOf d q × (q.caller ≡ k) × KnowsOwn caller_of q) pass (subst (λ o. IsPassOf o c × (c.caller ≡ k) × KnowsOwn caller_of c) post (is.0, is.1 ∙ held_at.1, own)))
        (λ else. held.each i d e at_d (sym (get_set_other hand p i c else) ∙ at_e));
  }

  pub seen_here : at_post (seen_by hand) p ≡ seen_of b
  seen_here = get_or-map seen_of hand p b [] hand_within ∙ ap seen_of (sym at_b)

  pub own_of : (c : Pass M S V E G) → c.caller ≡ k → KnowsOwn caller_of c → entries_of caller_of k (seen_of c) ≡ mine_of c
  own_of c e own = ap (λ j. entries_of caller_of j (seen_of c)) (sym e) ∙ own

  pub base_is : slice_get (map base_of posts) p ≡ Some (base_of a)
  base_is = slice_get-map base_of posts p ∙ ap (option_map base_of) post_is

  pub seen_within : p < length (seen_by hand)
  seen_within = let w = hand_within in let n = length-map hand seen_of in omega arith

  pub looked : {W : Type 0} (x : Sense M S V E G W) → x.caller_of ≡ caller_of → x.bases ≡ map base_of posts → (c : Pass M S V E G) (count : ℕ) (glance : G) → c.caller ≡ b.caller → KnowsOwn caller_of c → IsFront (seen_of b) (seen_of c) × (mine_of c ≡ mine_of b)
      → count ≡ length (seen_of c) → glance ≡ x.glance_of a.machine (replay (x.after a.machine) (start_of a) (seen_of c)) → Saw x (seen_by hand) (seen_by (set hand p c)) k (p ∷ []) (record { post = p; count = count; glance = glance } ∷ [])
  looked x callers bases c count glance caller own seen is_count is_glance =
      let s : Sight G = record { post = p; count = count; glance = glance } in
      let mine : entries_of caller_of k (seen_of c) ≡ entries_of caller_of k (at_post (seen_by hand) p) = own_of c (caller ∙ held_at.1) own ∙ seen.1 ∙ sym (own_of b held_at.1 held_at.2) ∙ ap (entries_of caller_of k) (sym seen_here) in
      subst (λ hs. Saw x (seen_by hand) hs k (p ∷ []) (s ∷ [])) (sym (map-set seen_of hand p c))
      (saw_one x k (seen_by hand) (base_of a) s (seen_of c) (ap (λ bs. slice_get bs p) bases ∙ base_is) seen_within (subst (λ h. IsFront h (seen_of c)) (sym seen_here) seen.0)
      (subst (λ f. entries_of f k (seen_of c) ≡ entries_of f k (at_post (seen_by hand) p)) (sym callers) mine) is_count is_glance)

  -- The job of this post was done.
  pub acted : {W : Type 0} (x : Sense M S V E G W) → x.caller_of ≡ caller_of → x.bases ≡ map base_of posts → (first : List (List E)) (c : Pass M S V E G) (job : Job W) (sights : List (Sight G)) → job.post ≡ p → Saw x first (seen_by hand) k job.looks sights
      → (c.caller ≡ b.caller) → KnowsOwn caller_of c → Acts caller_of (λ before. x.entry_of a.machine (replay (x.after a.machine) (start_of a) before) b.caller (x.event_of job.want sights)) b c → Did x first (seen_by (set hand p c)) k job
  acted {W} x callers bases first c job sights place saw caller own acts = λ dones course.
      let e : E = x.entry_of a.machine (replay (x.after a.machine) (start_of a) acts.before) b.caller (x.event_of job.want sights) in
      let d : Done W G E = record { job = job; sights = sights; before = acts.before; entry = e } in
      let mid = seen_by hand in
      let now = course_grows x k first mid saw.longer saw.own dones course in
      let is : slice_get x.bases job.post ≡ Some (base_of a) = ap (slice_get x.bases) place ∙ ap (λ bs. slice_get bs p) bases ∙ base_is in
      let grown : entries_of caller_of k (acts.before ++ e ∷ []) ≡ entries_of caller_of k (at_post mid p) ++ e ∷ [] =
      ap (entries_of caller_of k) (sym acts.seen) ∙ own_of c (caller ∙ held_at.1) own ∙ acts.mine ∙ ap (λ es. es ++ e ∷ []) (sym (own_of b held_at.1 held_at.2) ∙ ap (entries_of caller_of k) (sym seen_here)) in
      let more = course_more x k mid dones now d (base_of a) (saw.seen dones course) saw.looked is
      (ap (λ j. x.entry_of a.machine (replay (x.after a.machine) (start_of a) acts.before) j (x.event_of job.want sights)) held_at.1)
      (subst (λ q. q < length mid) (sym place) seen_within)
      (subst (λ q. IsFront (at_post mid q) acts.before) (sym place) (subst (λ h. IsFront h acts.before) (sym seen_here) acts.longer))
      (ap (λ f. f e) callers ∙ acts.whose ∙ held_at.1)
      (subst (λ f. entries_of f k (acts.before ++ e ∷ []) ≡ entries_of f k (at_post mid job.post) ++ e ∷ []) (sym callers) (subst (λ q. entries_of caller_of k (acts.before ++ e ∷ []) ≡ entries_of caller_of k (at_post mid q) ++ e ∷ []) (sym place) grown)) in (
        d,
        refl,
        subst (λ hs. IsCourse x hs k (dones ++ d ∷ [])) (ap (λ h. set mid job.post h) (sym acts.seen) ∙ ap (λ q. set mid q (seen_of c)) place ∙ sym (map-set seen_of hand p c)) more,
      )
