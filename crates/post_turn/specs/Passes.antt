-- What clauses read of a post and of its passes.
use Rattle.std.specs.Prelude.{◌≡◌, ℕ, ◌<◌, List, [], ◌∷◌, ◌++◌, length, slice_index_or, None}
use Rattle.post_turn.specs.declared.post.Post.{Post}
use Rattle.post_turn.specs.declared.pass.Pass.{Pass}
use Rattle.post_turn.specs.declared.body.Body.{Body}
use Rattle.post_turn.specs.declared.pass.Caller.{Caller}
use Rattle.atomic_table.specs.Seated.{TableId}
use Rattle.post_turn.specs.History.{IsFront, entries_of, replay}
use Rattle.post_turn.specs.Turns.{caller, resting, serving, seen_in, mine_in}

module _ {M S V E G : Type 0} where
  -- the state that the post was made with, and the number of its callers
  abbrev pub start_of : Post M S V E G → S
  start_of post = post.lock.shared.key.value.start

  abbrev pub callers_of : Post M S V E G → ℕ
  callers_of post = post.lock.shared.key.value.callers

  -- the history that the pass has seen, and the caller's own entries in it
  abbrev pub seen_of : Pass M S V E G → List E
  seen_of pass = seen_in pass.place.me.0.callers

  abbrev pub mine_of : Pass M S V E G → List E
  mine_of pass = mine_in pass.place.me.0.callers

  -- the pass is one of this post's, and its caller has no turn
  abbrev pub IsPassOf : Post M S V E G → Pass M S V E G → Type 0
  IsPassOf post pass = (pass.place.table_id ≡ post.lock.shared.table_id) × (pass.place.me ≡ (resting (caller post.machine (start_of post) pass.caller (seen_of pass) (mine_of pass) ∷ []), []))

  -- the pass is one of this post's, and its caller has the turn, with the slot in hand
  abbrev pub HasTurn : Post M S V E G → Pass M S V E G → Type 0
  HasTurn post pass = (pass.place.table_id ≡ post.lock.shared.table_id) × (n : ℕ) × (pass.place.me ≡ (serving n (caller post.machine (start_of post) pass.caller (seen_of pass) (mine_of pass)), (0, None) ∷ []))

  -- the body has this history, the state after it, and is fit
  abbrev pub Stands : (M → S → Type 0) → (M → S → E → S) → Post M S V E G → Body S E → Type 0
  Stands fit after post body = (body.state ≡ replay (after post.machine) (start_of post) body.history.items) × fit post.machine body.state

  -- a pass of the caller k that has seen nothing
  abbrev pub IsFresh : Post M S V E G → ℕ → Pass M S V E G → Type 0
  IsFresh post k pass = IsPassOf post pass × (pass.caller ≡ k) × (seen_of pass ≡ []) × (mine_of pass ≡ [])

  -- the passes are those of the callers from 0 on, in order
  abbrev pub AreDealt : Post M S V E G → List (Pass M S V E G) → Type 0
  AreDealt post passes = (k : ℕ) (d : Pass M S V E G) → k < length passes → IsFresh post k (slice_index_or passes k d)

  -- the callers of all these passes
  abbrev pub callers_on : List (Pass M S V E G) → List (Caller M S E)
  callers_on [] = []
  callers_on (p ∷ ps) = p.place.me.0.callers ++ callers_on ps

  -- the pass is one of this table's, and no caller on it has the turn
  abbrev pub IsOn : TableId → Pass M S V E G → Type 0
  IsOn id pass = (pass.place.table_id ≡ id) × (pass.place.me ≡ (resting pass.place.me.0.callers, []))

  -- the caller's own are the entries of its number in what it has seen
  abbrev pub KnowsOwn : (E → ℕ) → Pass M S V E G → Type 0
  KnowsOwn caller_of pass = entries_of caller_of pass.caller (seen_of pass) ≡ mine_of pass

  -- what the pass has seen made a fit state of the post's start
  abbrev pub SeesFit : (M → S → Type 0) → (M → S → E → S) → Post M S V E G → Pass M S V E G → Type 0
  SeesFit fit after post pass = fit post.machine (replay (after post.machine) (start_of post) (seen_of pass))

  -- What the caller has seen begins as before and ends with the entry that its event gives there, which is of this caller. Its own entries
  -- are one more, this one
  pub record Acts (caller_of : E → ℕ) (entry : List E → E) (old new : Pass M S V E G) : Type 0 where
    pub before : List E
    pub longer : IsFront (seen_of old) before
    pub seen : seen_of new ≡ before ++ entry before ∷ []
    pub whose : caller_of (entry before) ≡ old.caller
    pub mine : mine_of new ≡ mine_of old ++ entry before ∷ []
