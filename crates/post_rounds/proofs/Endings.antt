-- How posts end one after another, from the last on.
use Rattle.std.proofs.Common.{◌≡◌, ℕ, zero, suc, ◌+◌, ◌-◌, ◌<◌, ◌≤◌, List, [], ◌∷◌, ◌++◌, length, set, take, slice_get, reverse, Some, refl, sym, ap, ◌∙◌, subst, arith, ⊎_elim, length-append, length-set}
use Rattle.std.specs.Prelude.{All, Vec, option_map}
use Rattle.std.specs.declared.alloc.Global.{Global}
use Rattle.std.proofs.lemmas.List.{length-map, length-reverse, length-take-le, take_all}
use Rattle.std.proofs.lemmas.Option.{same_Some, slice_get_within, get_or_from_slice_get, slice_get-map}
use Rattle.post_turn.specs.declared.post.Post.{Post}
use Rattle.post_turn.specs.declared.pass.Pass.{Pass}
use Rattle.post_turn.specs.History.{IsFront, entries_of}
use Rattle.post_turn.specs.Passes.{callers_of, seen_of, mine_of, IsPassOf, KnowsOwn}
use Rattle.post_turn.proofs.Lists.{front_refl}
use Rattle.post_rounds.specs.declared.ended.Ended.{Ended}
use Rattle.post_rounds.specs.Rounds.{IsEnd, at_post, histories_of}
use Rattle.post_rounds.specs.Hands.{AreHands, AreHeld, AreLast, AreLastTo, base_of, seen_by}
use Rattle.post_rounds.specs.Ends.{AreEnds, GrewByOthers, IsEndOf}
use Rattle.post_rounds.proofs.Held.{get_set_other, get_set_same}
use Rattle.post_rounds.proofs.Lists.{snoc_get}
use Rattle.post_rounds.proofs.Places.{all_from, all_at, get_within, take_snoc, get_reverse}

past : {E : Type 0} (xs : List (List E)) (p : ℕ) → length xs ≤ p → at_post xs p ≡ []
past [] p l = refl
past (x ∷ xs) zero l = absurd (omega arith)
past (x ∷ xs) (suc p) l = past xs p (omega arith)

-- by whether one number is less than another
by_order : {P : Type 0} (m n : ℕ) → (m < n → P) → (n ≤ m → P) → P
by_order m zero less more = more (omega arith)
by_order zero (suc n) less more = less (omega arith)
by_order (suc m) (suc n) less more = by_order m n (λ l. less (omega arith)) (λ l. more (omega arith))

module _ {M S V E G : Type 0} where
  -- one hand more has given its last pass
  pub last_more : (n : ℕ) (old mid : List (Vec (Pass M S V E G) Global)) (passes : List (Pass M S V E G)) (g h : Vec (Pass M S V E G) Global) (b : Pass M S V E G) → AreLastTo n old passes mid → slice_get mid n ≡ Some g → g.items ≡ h.items ++ b ∷ [] → AreLastTo (n + 1) old (passes ++ b ∷ []) (set mid n h)
  last_more n old mid passes g h b so at_g is = record {
    count = length-append passes (b ∷ []) ∙ ap (λ m. m + 1) so.count;
    same = length-set mid n h ∙ so.same;
    first = λ j x y z at_x at_z at_y. ⊎_elim
        (λ was.
        let l = slice_get_within passes j z was in let m = so.count in
        so.first j x y z at_x was (sym (get_set_other mid n j h (λ e. omega (arith, e, l, m))) ∙ at_y))
        (λ now.
        let here : n ≡ j = sym so.count ∙ sym now.0 in
        let gx : g ≡ x = same_Some g x (sym at_g ∙ so.others n (omega arith) ∙ ap (slice_get old) here ∙ at_x) in
        let hy : h ≡ y = same_Some h y (sym (get_set_same mid n h (slice_get_within mid n g at_g)) ∙ ap (slice_get (set mid n h)) here ∙ at_y) in
        (λ i. (sym gx i).items) ∙ is ∙ (λ i. (hy i).items ++ now.1 i ∷ []))
        (snoc_get passes b z j at_z);
    others = λ j l. get_set_other mid n j h (λ e. omega (arith, e, l)) ∙ so.others j (omega (arith, l));
  }

  pub last_none : (old : List (Vec (Pass M S V E G) Global)) → AreLastTo 0 old [] old
  last_none old = record { count = refl; same = refl; first = λ j g h b at_g at_b at_h. absurd cc; others = λ j l. refl }

  pub last_all : (n : ℕ) (old new : List (Vec (Pass M S V E G) Global)) (passes : List (Pass M S V E G)) → AreLastTo n old passes new → n ≡ length old → AreLast old passes new
  last_all n old new passes so e = record { whole = so.count ∙ e; same = so.same; each = so.first }

module _ {M S V E G : Type 0} (fit : M → S → Type 0) (after : M → S → E → S) (caller_of : E → ℕ) (posts : List (Post M S V E G)) (hands : List (Vec (Pass M S V E G) Global)) where
  -- what a pass knows of a whole history
  abbrev pub Known : Pass M S V E G → List E → Type 0
  Known b history = IsFront (seen_of b) history × (entries_of caller_of b.caller history ≡ mine_of b) × KnowsOwn caller_of b

  -- the post at this place has ended so, and each pass of it knows the history
  pub record EndsAt (p : ℕ) (e : Ended S E) : Type 0 where
    pub is : (post : Post M S V E G) → slice_get posts p ≡ Some post → IsEnd fit after caller_of (length hands) (base_of post) e
    pub known : (j : ℕ) (hand : Vec (Pass M S V E G) Global) (b : Pass M S V E G) → slice_get hands j ≡ Some hand → slice_get hand.items p ≡ Some b → Known b e.history

  -- the last posts have ended, and the first ones are left with their passes
  pub record Ending (left : List (Post M S V E G)) (held : List (Vec (Pass M S V E G) Global)) (ended : List (Ended S E)) : Type 0 where
    pub first : left ≡ take (length left) posts
    pub count : length ended + length left ≡ length posts
    pub whole : length held ≡ length hands
    pub passes : (j : ℕ) (g h : Vec (Pass M S V E G) Global) → slice_get hands j ≡ Some g → slice_get held j ≡ Some h → h.items ≡ take (length left) g.items
    pub ends : (j p : ℕ) (e : Ended S E) → slice_get ended j ≡ Some e → p + j + 1 ≡ length posts → EndsAt p e

  module _ (are : AreHands caller_of posts hands) where
    hand_long : (j : ℕ) (g : Vec (Pass M S V E G) Global) → slice_get hands j ≡ Some g → length g.items ≡ length posts
    hand_long j g at_g = (are j g at_g).1.whole

    pub none_ended : Ending posts hands []
    none_ended = record {
      first = sym (take_all (length posts) posts (omega arith));
      count = omega arith;
      whole = refl;
      passes = λ j g h at_g at_h. ap (λ (v : Vec (Pass M S V E G) Global). v.items) (same_Some h g (sym at_h ∙ at_g)) ∙ sym (take_all (length posts) g.items (let n = hand_long j g at_g in omega (arith, n)));
      ends = λ j p e at is. absurd cc;
    }

    module _ (left : List (Post M S V E G)) (post : Post M S V E G) (held : List (Vec (Pass M S V E G) Global)) (ended : List (Ended S E)) (so : Ending (left ++ post ∷ []) held ended) where
      count_is : length (left ++ post ∷ []) ≡ length left + 1
      count_is = length-append left (post ∷ [])

      within : length left < length posts
      within = let n = so.count in let m = count_is in omega (arith, n, m)

      pub last_is : (left ≡ take (length left) posts) × (slice_get posts (length left) ≡ Some post)
      last_is = take_snoc (length left) posts left post within (sym (so.first ∙ ap (λ n. take n posts) count_is))

      -- each hand has a pass of the last post
      pub none_empty : All (λ (hand : Vec (Pass M S V E G) Global). 0 < length hand.items) held
      none_empty = all_from (λ hand. 0 < length hand.items) held (λ j h at_h.
          let w = slice_get_within held j h at_h in
          let g = get_within hands j (let n = so.whole in omega (arith, w, n)) in
          let e = ap length (so.passes j g.0 h g.1 at_h) ∙ length-take-le (length (left ++ post ∷ [])) g.0.items (let n = hand_long j g.0 g.1 in let m = so.count in omega (arith, n, m)) in
          let c = count_is in omega (arith, e, c))

      module _ (passes : List (Pass M S V E G)) (rest : List (Vec (Pass M S V E G) Global)) (last : AreLast held passes rest) where
        last_at : (j : ℕ) (g h : Vec (Pass M S V E G) Global) (b : Pass M S V E G) → slice_get hands j ≡ Some g → slice_get passes j ≡ Some b → slice_get rest j ≡ Some h → (h.items ≡ take (length left) g.items) × (slice_get g.items (length left) ≡ Some b)
        last_at j g h b at_g at_b at_h =
            let w = slice_get_within passes j b at_b in
            let f = get_within held j (let n = last.whole in omega (arith, w, n)) in
            take_snoc (length left) g.items h.items b (let n = hand_long j g at_g in let m = within in omega (arith, n, m))
            (sym (so.passes j g f.0 at_g f.1 ∙ ap (λ n. take n g.items) count_is) ∙ last.each j f.0 h b f.1 at_b at_h)

        found : (j : ℕ) (b : Pass M S V E G) → slice_get passes j ≡ Some b → (g : Vec (Pass M S V E G) Global) × (slice_get hands j ≡ Some g) × (slice_get g.items (length left) ≡ Some b)
        found j b at_b =
            let w = slice_get_within passes j b at_b in
            let n = last.whole in let m = so.whole in let l = last.same in
            let g = get_within hands j (omega (arith, w, n, m)) in
            let h = get_within rest j (omega (arith, w, n, l)) in
            (g.0, g.1, (last_at j g.0 h.0 b g.1 at_b h.1).1)

        -- they are passes of the post, one of each caller
        pub are_its : All (IsPassOf post) passes
        are_its = all_from (IsPassOf post) passes (λ j b at_b. let f = found j b at_b in ((are j f.0 f.1).1.each (length left) post b last_is.1 f.2).0)

        pub are_many : length passes ≡ length hands
        are_many = last.whole ∙ so.whole

        -- the post has ended with them
        pub one_ended : callers_of post ≡ length hands → (e : Ended S E) → IsEndOf fit after caller_of post passes e → Ending left rest (ended ++ e ∷ [])
        one_ended callers e is = record {
          first = last_is.0;
          count = (let n = so.count in let m = count_is in let l = length-append ended (e ∷ []) in omega (arith, n, m, l));
          whole = last.same ∙ so.whole;
          passes = λ j g h at_g at_h.
              let w = slice_get_within hands j g at_g in
              let n = last.whole in let m = so.whole in
              let b = get_within passes j (omega (arith, w, n, m)) in
              (last_at j g h b.0 at_g b.1 at_h).0;
          ends = λ j p d at place. ⊎_elim
              (λ old. so.ends j p d old place)
              (λ new.
              let c = so.count in let m = count_is in let i = new.0 in
              let here : p ≡ length left = omega (arith, c, m, i, place) in
              subst (EndsAt p) new.1 (record {
                is = λ a at_a. subst (λ x. IsEnd fit after caller_of (length hands) (base_of x) e) (same_Some post a (sym last_is.1 ∙ ap (slice_get posts) (sym here) ∙ at_a)) (subst (λ k. IsEnd fit after caller_of k (base_of post) e) callers is.is);
                known = λ k hand b at_hand at_b.
                    let w = slice_get_within hands k hand at_hand in
                    let n = last.whole in let l = so.whole in
                    let x = get_within passes k (omega (arith, w, n, l)) in
                    let f = found k x.0 x.1 in
                    let same : x.0 ≡ b = same_Some x.0 b (sym f.2 ∙ ap (λ v. slice_get v.items (length left)) (same_Some f.0 hand (sym f.1 ∙ at_hand)) ∙ ap (slice_get hand.items) (sym here) ∙ at_b) in
                    subst (λ y. Known y e.history) same (all_at (λ y. Known y e.history) passes is.known k x.0 x.1);
              }))
              (snoc_get ended e d j at);
        }

  pub emptied : (left : List (Post M S V E G)) (held : List (Vec (Pass M S V E G) Global)) (ended : List (Ended S E)) → Ending left held ended → length left ≡ 0 → Ending [] held ended
  emptied [] held ended so none = so
  emptied (x ∷ xs) held ended so none = absurd (omega (arith, none))

  -- where all have ended
  module _ (held : List (Vec (Pass M S V E G) Global)) (ended : List (Ended S E)) (so : Ending [] held ended) where
    ended_at : (p : ℕ) (e : Ended S E) → slice_get (reverse ended) p ≡ Some e → EndsAt p e
    ended_at p e at =
        let w = slice_get_within (reverse ended) p e at in let l = length-reverse ended in let c = so.count in
        so.ends (length ended - 1 - p) p e (get_reverse ended p e (omega (arith, w, l)) at) (omega (arith, w, l, c))

    count_all : length (reverse ended) ≡ length posts
    count_all = let l = length-reverse ended in let c = so.count in omega (arith, l, c)

    pub all_ended : AreEnds fit after caller_of (length hands) posts (reverse ended)
    all_ended = record { whole = count_all; each = λ p post e at_post' at_e. (ended_at p e at_e).is post at_post' }

    pub all_grown : (j k : ℕ) (hand : Vec (Pass M S V E G) Global) → slice_get hands j ≡ Some hand → AreHeld caller_of posts k hand.items → GrewByOthers caller_of k (seen_by hand.items) (histories_of (reverse ended))
    all_grown j k hand at_hand is =
        let known : (p : ℕ) → p < length posts → (b : Pass M S V E G) × (e : Ended S E) × (slice_get hand.items p ≡ Some b) × (at_post (seen_by hand.items) p ≡ seen_of b) × (at_post (histories_of (reverse ended)) p ≡ e.history) × Known b e.history × (b.caller ≡ k) =
        λ p l.
        let n = is.whole in let c = count_all in
        let b = get_within hand.items p (omega (arith, l, n)) in
        let e = get_within (reverse ended) p (omega (arith, l, c)) in
        let a = get_within posts p l in (
          b.0,
          e.0,
          b.1,
          get_or_from_slice_get (seen_by hand.items) p (seen_of b.0) [] (slice_get-map seen_of hand.items p ∙ ap (option_map seen_of) b.1),
          get_or_from_slice_get (histories_of (reverse ended)) p e.0.history [] (slice_get-map (λ (d : Ended S E). d.history) (reverse ended) p ∙ ap (option_map (λ (d : Ended S E). d.history)) e.1),
          (ended_at p e.0 e.1).known j hand b.0 at_hand b.1,
          (is.each p a.0 b.0 a.1 b.1).1,
        ) in
        let none : (p : ℕ) → length posts ≤ p → (at_post (seen_by hand.items) p ≡ []) × (at_post (histories_of (reverse ended)) p ≡ []) = λ p l.
        let n = is.whole in let c = count_all in let x = length-map hand.items (λ (b : Pass M S V E G). seen_of b) in let y = length-map (reverse ended) (λ (d : Ended S E). d.history) in
        (past (seen_by hand.items) p (omega (arith, n, l, x)), past (histories_of (reverse ended)) p (omega (arith, c, l, y))) in
        record {
          longer = λ p. by_order p (length posts)
              (λ l. let r = known p l in subst (λ h. IsFront h (at_post (histories_of (reverse ended)) p)) (sym r.3) (subst (IsFront (seen_of r.0)) (sym r.4) r.5.0))
              (λ l. let r = none p l in subst (λ h. IsFront h (at_post (histories_of (reverse ended)) p)) (sym r.0) (subst (IsFront []) (sym r.1) (front_refl [])));
          own = λ p. by_order p (length posts)
              (λ l.
              let r = known p l in
              ap (entries_of caller_of k) r.4 ∙ ap (λ i. entries_of caller_of i r.1.history) (sym r.6) ∙ r.5.1 ∙ sym r.5.2 ∙ ap (λ i. entries_of caller_of i (seen_of r.0)) r.6 ∙ ap (entries_of caller_of k) (sym r.3))
              (λ l. let r = none p l in ap (entries_of caller_of k) (r.1 ∙ sym r.0));
        }
