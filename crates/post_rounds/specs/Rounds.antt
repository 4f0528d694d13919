-- A round of callers that do their jobs at posts.
use Rattle.std.specs.Prelude.{◌≡◌, ◌==◌, ℕ, ◌≤◌, List, [], ◌∷◌, ◌++◌, length, map, filter, take, slice_get, slice_index_or, Some}
use Rattle.post_turn.specs.History.{IsFront, entries_of, replay}
use Rattle.post_rounds.specs.declared.base.Base.{Base}
use Rattle.post_rounds.specs.declared.ended.Ended.{Ended}
use Rattle.post_rounds.specs.declared.job.Job.{Job}
use Rattle.post_rounds.specs.declared.sight.Sight.{Sight}

-- what machines and events mean, and what each post begins with
pub record Sense (M S V E G W : Type 0) : Type 0 where
  pub entry_of : M → S → ℕ → V → E
  pub caller_of : E → ℕ
  pub after : M → S → E → S
  pub glance_of : M → S → G
  pub event_of : W → List (Sight G) → V
  pub bases : List (Base M S)

abbrev pub sense : {M S V E G W : Type 0} → (M → S → ℕ → V → E) → (E → ℕ) → (M → S → E → S) → (M → S → G) → (W → List (Sight G) → V) → List (Base M S) → Sense M S V E G W
sense entry_of caller_of after glance_of event_of bases = record { entry_of = entry_of; caller_of = caller_of; after = after; glance_of = glance_of; event_of = event_of; bases = bases }

-- A job that was done: what its caller saw, what stood at the job's post before, and the entry that was made
pub record Done (W G E : Type 0) : Type 0 where
  pub job : Job W
  pub sights : List (Sight G)
  pub before : List E
  pub entry : E

-- the history of a post
abbrev pub at_post : {E : Type 0} → List (List E) → ℕ → List E
at_post histories p = slice_index_or histories p []

-- the entries that these made at a post, in order
abbrev pub made_at : {W G E : Type 0} → ℕ → List (Done W G E) → List E
made_at p dones = map (λ d. d.entry) (filter (λ d. d.job.post == p) dones)

module _ {M S V E G W : Type 0} (x : Sense M S V E G W) (histories : List (List E)) (k : ℕ) where
  -- What the caller k saw of a post, behind the jobs that it had done: the glance of a beginning of the post's history. Of the caller's own
  -- entries there just those of the jobs done stand in it, and it is no shorter than any that these jobs saw
  pub record IsSight (earlier : List (Done W G E)) (s : Sight G) : Type 0 where
    pub base : Base M S
    pub is : slice_get x.bases s.post ≡ Some base
    pub within : s.count ≤ length (at_post histories s.post)
    pub glance : s.glance ≡ x.glance_of base.machine (replay (x.after base.machine) base.start (take s.count (at_post histories s.post)))
    pub own : entries_of x.caller_of k (take s.count (at_post histories s.post)) ≡ made_at s.post earlier
    pub rises : (i j : ℕ) (d : Done W G E) (t : Sight G) → slice_get earlier i ≡ Some d → slice_get d.sights j ≡ Some t → t.post ≡ s.post → t.count ≤ s.count

  abbrev pub AreSights : List (Done W G E) → List (Sight G) → Type 0
  AreSights earlier sights = (j : ℕ) (s : Sight G) → slice_get sights j ≡ Some s → IsSight earlier s

  -- The caller k did a job, behind others: it looked at the job's posts, and its event of these sights made an entry of the state before
  pub record IsDone (earlier : List (Done W G E)) (d : Done W G E) : Type 0 where
    pub looked : map (λ (s : Sight G). s.post) d.sights ≡ d.job.looks
    pub sights : AreSights earlier d.sights
    pub base : Base M S
    pub is : slice_get x.bases d.job.post ≡ Some base
    pub made : d.entry ≡ x.entry_of base.machine (replay (x.after base.machine) base.start d.before) k (x.event_of d.job.want d.sights)
    pub stands : IsFront (d.before ++ d.entry ∷ []) (at_post histories d.job.post)
    pub own : entries_of x.caller_of k d.before ≡ made_at d.job.post earlier

  -- the caller k did these jobs in order, and has no other entries
  pub record IsCourse (dones : List (Done W G E)) : Type 0 where
    pub each : (i : ℕ) (d : Done W G E) → slice_get dones i ≡ Some d → IsDone (take i dones) d
    pub mine : (p : ℕ) → entries_of x.caller_of k (at_post histories p) ≡ made_at p dones

-- a caller's jobs, done in order
pub record HasDone {M S V E G W : Type 0} (x : Sense M S V E G W) (histories : List (List E)) (k : ℕ) (jobs : List (Job W)) : Type 0 where
  pub dones : List (Done W G E)
  pub are : map (λ (d : Done W G E). d.job) dones ≡ jobs
  pub course : IsCourse x histories k dones

abbrev pub histories_of : {S E : Type 0} → List (Ended S E) → List (List E)
histories_of ended = map (λ e. e.history) ended

-- how a post ends: with the last state of its history, which is fit, and in which no entry is of another than so many callers
pub record IsEnd {M S E : Type 0} (fit : M → S → Type 0) (after : M → S → E → S) (caller_of : E → ℕ) (callers : ℕ) (base : Base M S) (e : Ended S E) : Type 0 where
  pub state : e.state ≡ replay (after base.machine) base.start e.history
  pub is_fit : fit base.machine e.state
  pub others : (k : ℕ) → callers ≤ k → entries_of caller_of k e.history ≡ []

-- a round: each caller has done its jobs, and each post has ended
pub record IsRound {M S V E G W : Type 0} (x : Sense M S V E G W) (fit : M → S → Type 0) (lists : List (List (Job W))) (ended : List (Ended S E)) : Type 0 where
  pub whole : length ended ≡ length x.bases
  pub ends : (p : ℕ) (base : Base M S) (e : Ended S E) → slice_get x.bases p ≡ Some base → slice_get ended p ≡ Some e → IsEnd fit x.after x.caller_of (length lists) base e
  pub courses : (k : ℕ) (jobs : List (Job W)) → slice_get lists k ≡ Some jobs → HasDone x (histories_of ended) k jobs
