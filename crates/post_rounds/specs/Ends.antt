-- How posts end.
use Rattle.std.specs.Prelude.{◌≡◌, ℕ, List, length, slice_get, Some, All}
use Rattle.post_turn.specs.declared.post.Post.{Post}
use Rattle.post_turn.specs.declared.pass.Pass.{Pass}
use Rattle.post_turn.specs.History.{IsFront, entries_of}
use Rattle.post_turn.specs.Passes.{callers_of, seen_of, mine_of, KnowsOwn}
use Rattle.post_rounds.specs.declared.ended.Ended.{Ended}
use Rattle.post_rounds.specs.Rounds.{IsEnd, at_post}
use Rattle.post_rounds.specs.Hands.{base_of}

-- what a caller had seen of each post stands at its begin, and none of the entries behind is the caller's
pub record GrewByOthers {E : Type 0} (caller_of : E → ℕ) (k : ℕ) (seen final : List (List E)) : Type 0 where
  pub longer : (p : ℕ) → IsFront (at_post seen p) (at_post final p)
  pub own : (p : ℕ) → entries_of caller_of k (at_post final p) ≡ entries_of caller_of k (at_post seen p)

module _ {M S V E G : Type 0} (fit : M → S → Type 0) (after : M → S → E → S) (caller_of : E → ℕ) where
  -- how a post ends with these passes
  pub record IsEndOf (post : Post M S V E G) (passes : List (Pass M S V E G)) (e : Ended S E) : Type 0 where
    pub is : IsEnd fit after caller_of (callers_of post) (base_of post) e
    pub known : All (λ b. IsFront (seen_of b) e.history × (entries_of caller_of b.caller e.history ≡ mine_of b) × KnowsOwn caller_of b) passes

  -- how posts end that have so many callers
  pub record AreEnds (callers : ℕ) (posts : List (Post M S V E G)) (ended : List (Ended S E)) : Type 0 where
    pub whole : length ended ≡ length posts
    pub each : (p : ℕ) (post : Post M S V E G) (e : Ended S E) → slice_get posts p ≡ Some post → slice_get ended p ≡ Some e → IsEnd fit after caller_of callers (base_of post) e
