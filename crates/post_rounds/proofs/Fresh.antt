-- Passes that have seen nothing.
use Rattle.std.proofs.Common.{◌≡◌, ℕ, zero, suc, List, [], ◌∷◌, map, slice_get, Some, refl, sym, ap, ◌∙◌, arith}
use Rattle.std.proofs.lemmas.Option.{slice_get_within}
use Rattle.post_turn.specs.declared.post.Post.{Post}
use Rattle.post_turn.specs.declared.pass.Pass.{Pass}
use Rattle.post_turn.specs.History.{entries_of}
use Rattle.post_turn.specs.Passes.{seen_of, mine_of, KnowsOwn}
use Rattle.post_rounds.specs.Rounds.{Sense, IsCourse, at_post}
use Rattle.post_rounds.specs.Hands.{AreHeld, AreFresh, seen_by}
use Rattle.post_rounds.proofs.Courses.{course_none}
use Rattle.post_rounds.proofs.Places.{get_within}

all_empty : {A E : Type 0} (f : A → List E) (xs : List A) → ((i : ℕ) (x : A) → slice_get xs i ≡ Some x → f x ≡ []) → (p : ℕ) → at_post (map f xs) p ≡ []
all_empty f [] h p = refl
all_empty f (x ∷ xs) h zero = h zero x refl
all_empty f (x ∷ xs) h (suc p) = all_empty f xs (λ i. h (suc i)) p

module _ {M S V E G : Type 0} (caller_of : E → ℕ) (posts : List (Post M S V E G)) (k : ℕ) (hand : List (Pass M S V E G)) (fresh : AreFresh posts k hand) where
  own_none : (c : Pass M S V E G) → (seen_of c ≡ []) → (mine_of c ≡ []) → KnowsOwn caller_of c
  own_none c seen mine = ap (entries_of caller_of c.caller) seen ∙ sym mine

  pub fresh_held : AreHeld caller_of posts k hand
  fresh_held = record {
    whole = fresh.whole;
    each = λ i a b at_a at_b. let f = fresh.each i a b at_a at_b in (f.0, f.1, own_none b f.2 f.3);
  }

module _ {M S V E G W : Type 0} (x : Sense M S V E G W) (posts : List (Post M S V E G)) (k : ℕ) (hand : List (Pass M S V E G)) (fresh : AreFresh posts k hand) where
  nothing : (p : ℕ) → at_post (seen_by hand) p ≡ []
  nothing = all_empty seen_of hand (λ i b at_b.
      let w = slice_get_within hand i b at_b in
      let a = get_within posts i (let n = fresh.whole in omega (arith, w, n)) in
      (fresh.each i a.0 b a.1 at_b).2)

  pub fresh_course : IsCourse x (seen_by hand) k []
  fresh_course = course_none x k (seen_by hand) (λ p. ap (entries_of x.caller_of k) (nothing p))
