-- A caller's passes, one of each post.
use Rattle.std.specs.Prelude.{◌≡◌, ℕ, ◌<◌, ◌≤◌, List, [], ◌∷◌, ◌++◌, length, map, slice_get, Some, All, Vec}
use Rattle.post_turn.specs.declared.post.Post.{Post}
use Rattle.post_turn.specs.declared.pass.Pass.{Pass}
use Rattle.post_turn.specs.History.{IsFront, entries_of}
use Rattle.post_turn.specs.Passes.{start_of, seen_of, IsPassOf, IsFresh, KnowsOwn}
use Rattle.std.specs.declared.alloc.Global.{Global}
use Rattle.post_rounds.specs.declared.base.Base.{Base}
use Rattle.post_rounds.specs.declared.caller.Caller.{Caller}
use Rattle.post_rounds.specs.declared.job.Job.{Job}
use Rattle.post_rounds.specs.declared.sight.Sight.{Sight}
use Rattle.post_rounds.specs.Rounds.{Sense, Done, HasDone, AreSights, IsCourse, at_post}

module _ {M S V E G : Type 0} where
  abbrev pub base_of : Post M S V E G → Base M S
  base_of post = record { machine = post.machine; start = start_of post; number = post.number }

  -- what a caller has seen of each post
  abbrev pub seen_by : List (Pass M S V E G) → List (List E)
  seen_by hand = map seen_of hand

  -- one pass of each post, which is the caller's
  pub record AreHeld (caller_of : E → ℕ) (posts : List (Post M S V E G)) (k : ℕ) (hand : List (Pass M S V E G)) : Type 0 where
    pub whole : length hand ≡ length posts
    pub each : (i : ℕ) (a : Post M S V E G) (b : Pass M S V E G) → slice_get posts i ≡ Some a → slice_get hand i ≡ Some b → IsPassOf a b × (b.caller ≡ k) × KnowsOwn caller_of b

  -- one pass of each post, with which the caller has seen nothing yet
  pub record AreFresh (posts : List (Post M S V E G)) (k : ℕ) (hand : List (Pass M S V E G)) : Type 0 where
    pub whole : length hand ≡ length posts
    pub each : (i : ℕ) (a : Post M S V E G) (b : Pass M S V E G) → slice_get posts i ≡ Some a → slice_get hand i ≡ Some b → IsFresh a k b

-- a job at one of these posts, with looks at some of them, which asks for what is apt there
pub record IsJob {M S W : Type 0} (apt : M → W → List ℕ → Type 0) (bases : List (Base M S)) (job : Job W) : Type 0 where
  pub post : job.post < length bases
  pub looks : All (λ q. q < length bases) job.looks
  pub is_apt : (base : Base M S) → slice_get bases job.post ≡ Some base → apt base.machine job.want job.looks

module _ {M S V E G W : Type 0} (x : Sense M S V E G W) (old new : List (List E)) (k : ℕ) where
  -- the caller k looked at these posts, and what it has seen has grown by entries of others alone
  pub record Saw (looks : List ℕ) (sights : List (Sight G)) : Type 0 where
    pub longer : (p : ℕ) → IsFront (at_post old p) (at_post new p)
    pub own : (p : ℕ) → entries_of x.caller_of k (at_post new p) ≡ entries_of x.caller_of k (at_post old p)
    pub looked : map (λ (s : Sight G). s.post) sights ≡ looks
    pub seen : (dones : List (Done W G E)) → IsCourse x old k dones → AreSights x new k dones sights

  -- the caller k did this job, behind all that it had done
  abbrev pub Did : Job W → Type 0
  Did job = (dones : List (Done W G E)) → IsCourse x old k dones → (d : Done W G E) × (d.job ≡ job) × IsCourse x new k (dones ++ d ∷ [])

-- the caller has a pass of each post, has seen nothing, and its jobs are jobs at these posts
pub record IsReady {M S V E G W : Type 0} (apt : M → W → List ℕ → Type 0) (posts : List (Post M S V E G)) (c : Caller M W S V E G) : Type 0 where
  pub hand : AreFresh posts c.number c.hand.items
  pub jobs : All (IsJob apt (map base_of posts)) c.jobs.items

-- the caller has done its jobs, and its passes know it
pub record HasWalked {M S V E G W : Type 0} (x : Sense M S V E G W) (posts : List (Post M S V E G)) (c : Caller M W S V E G) (hand : List (Pass M S V E G)) : Type 0 where
  pub held : AreHeld x.caller_of posts c.number hand
  pub done : HasDone x (seen_by hand) c.number c.jobs.items

-- a caller of each list of jobs, in order, with a pass of each of these posts
pub record AreCallers {M S V E G W : Type 0} (posts : List (Post M S V E G)) (lists : List (Vec (Job W) Global)) (callers : List (Caller M W S V E G)) : Type 0 where
  pub whole : length callers ≡ length lists
  pub each : (i : ℕ) (jobs : Vec (Job W) Global) (c : Caller M W S V E G) → slice_get lists i ≡ Some jobs → slice_get callers i ≡ Some c → (c.number ≡ i) × (c.jobs ≡ jobs) × AreFresh posts i c.hand.items

-- the caller has this pass behind those that it had
pub record GotPass {M S V E G W : Type 0} (old : Caller M W S V E G) (pass : Pass M S V E G) (new : Caller M W S V E G) : Type 0 where
  pub number : new.number ≡ old.number
  pub jobs : new.jobs ≡ old.jobs
  pub hand : new.hand.items ≡ old.hand.items ++ pass ∷ []

-- so many callers, the first ones, have got their passes, and the others are as before
pub record DealtTo {M S V E G W : Type 0} (n : ℕ) (old : List (Caller M W S V E G)) (passes : List (Pass M S V E G)) (new : List (Caller M W S V E G)) : Type 0 where
  pub whole : length new ≡ length old
  pub first : (i : ℕ) (b : Pass M S V E G) (c d : Caller M W S V E G) → i < n → slice_get passes i ≡ Some b → slice_get old i ≡ Some c → slice_get new i ≡ Some d → GotPass c b d
  pub others : (i : ℕ) → n ≤ i → slice_get new i ≡ slice_get old i

-- each caller has got its pass
pub record Dealt {M S V E G W : Type 0} (old : List (Caller M W S V E G)) (passes : List (Pass M S V E G)) (new : List (Caller M W S V E G)) : Type 0 where
  pub whole : length new ≡ length old
  pub each : (i : ℕ) (b : Pass M S V E G) (c d : Caller M W S V E G) → slice_get passes i ≡ Some b → slice_get old i ≡ Some c → slice_get new i ≡ Some d → GotPass c b d

module _ {M S V E G : Type 0} where
  -- each hand is that of a caller
  abbrev pub AreHands : (E → ℕ) → List (Post M S V E G) → List (Vec (Pass M S V E G) Global) → Type 0
  AreHands caller_of posts hands = (j : ℕ) (hand : Vec (Pass M S V E G) Global) → slice_get hands j ≡ Some hand → (k : ℕ) × AreHeld caller_of posts k hand.items

  -- these are the last passes of so many hands, the first ones, without which those are left, and the others are as before
  pub record AreLastTo (n : ℕ) (old : List (Vec (Pass M S V E G) Global)) (passes : List (Pass M S V E G)) (new : List (Vec (Pass M S V E G) Global)) : Type 0 where
    pub count : length passes ≡ n
    pub same : length new ≡ length old
    pub first : (j : ℕ) (g h : Vec (Pass M S V E G) Global) (b : Pass M S V E G) → slice_get old j ≡ Some g → slice_get passes j ≡ Some b → slice_get new j ≡ Some h → g.items ≡ h.items ++ b ∷ []
    pub others : (j : ℕ) → n ≤ j → slice_get new j ≡ slice_get old j

  -- these are the last passes of each hand, and those the hands without them
  pub record AreLast (old : List (Vec (Pass M S V E G) Global)) (passes : List (Pass M S V E G)) (new : List (Vec (Pass M S V E G) Global)) : Type 0 where
    pub whole : length passes ≡ length old
    pub same : length new ≡ length old
    pub each : (j : ℕ) (g h : Vec (Pass M S V E G) Global) (b : Pass M S V E G) → slice_get old j ≡ Some g → slice_get passes j ≡ Some b → slice_get new j ≡ Some h → g.items ≡ h.items ++ b ∷ []
