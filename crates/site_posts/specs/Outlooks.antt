-- What the callers of a round see of ancestors, and what they bring by it.
use Rattle.std.specs.Prelude.{◌≡◌, ◌≢◌, ℕ, ◌<◌, ◌≤◌, ◌+◌, List, [], ◌∷◌, ◌++◌, length, map, slice_get, slice_index_or, Option, Some, None, All, Vec}
use Rattle.std.specs.declared.alloc.Global.{Global}
use Rattle.jiff_tz.specs.declared.tzif.Tzif.{Tzif}
use Rattle.checkable_core.specs.Contents.{Contents, check_at}
use Rattle.checkable_core.specs.declared.deed.Deed.{Deed}
use Rattle.checkable_core.specs.declared.machine.SiteMachine.{SiteMachine}
use Rattle.depend_graph.specs.Graph.{IsGraphOf}
use Rattle.post_rounds.specs.declared.base.Base.{Base}
use Rattle.post_rounds.specs.declared.job.Job.{Job}
use Rattle.post_rounds.specs.declared.sight.Sight.{Sight}
use Rattle.run_meaning.specs.Dealing.{last_moment}
use Rattle.run_meaning.specs.Reachability.{ancestors}
use Rattle.run_meaning.specs.Turns.{Asked, Histories, of_index}
use Rattle.run_meaning.specs.View.{view_of}
use Rattle.site_model.specs.PlainSite.{PlainSite, site_view}
use Rattle.site_model.specs.declared.view.View.{View}
use Rattle.site_posts.specs.declared.ahead.Ahead.{Ahead}
use Rattle.site_posts.specs.declared.ahead.Outlook.{Outlook}
use Rattle.site_posts.specs.declared.hall.Deeds.{Deeds}
use Rattle.site_posts.specs.declared.hall.Wanted.{Wanted}

-- The checkables on which callers act.

-- each comes after those that are less
abbrev pub Ascends : List ℕ → Type 0
Ascends ks = (i j : ℕ) → i < j → j < length ks → slice_index_or ks i 0 < slice_index_or ks j 0

-- this one isn't among them
abbrev pub IsNoneOf : ℕ → List ℕ → Type 0
IsNoneOf k ks = (i : ℕ) (j : ℕ) → slice_get ks i ≡ Some j → j ≢ k

-- What is seen.

-- what an ancestor shows, all along or by the next sight, and then what the others show
abbrev pub showing : ℕ → Option View → (List (Sight View) → List (ℕ × View)) → List (Sight View) → List (ℕ × View)
showing p (Some view) others sights = (p, view) ∷ others sights
showing p None others [] = others []
showing p None others (s ∷ sights) = (p, s.glance) ∷ others sights

abbrev pub shown_with : List Ahead → List (Sight View) → List (ℕ × View)
shown_with [] sights = []
shown_with (a ∷ ahead) sights = showing a.ancestor a.still (shown_with ahead) sights

abbrev pub waits_for : Option View → ℕ
waits_for (Some view) = 0
waits_for None = 1

-- how many sights are needed for all of them
abbrev pub sights_for : List Ahead → ℕ
sights_for [] = 0
sights_for (a ∷ ahead) = waits_for a.still + sights_for ahead

-- an ancestor on which nobody acts shows all along what it showed before, and one on which callers act has a post, whose place is the next
abbrev pub LeadsTo : PlainSite → Histories → List ℕ → ℕ → Option View → (List ℕ → Type 0) → List ℕ → Type 0
LeadsTo s before touched p (Some view) Others posts = (view ≡ view_of (check_at s p) (of_index p before)) × IsNoneOf p touched × Others posts
LeadsTo s before touched p None Others [] = ⊥
LeadsTo s before touched p None Others (q ∷ posts) = (slice_get touched q ≡ Some p) × Others posts

-- these are the posts of those on which callers act
abbrev pub Leads : PlainSite → Histories → List ℕ → List Ahead → List ℕ → Type 0
Leads s before touched [] posts = posts ≡ []
Leads s before touched (a ∷ ahead) posts = LeadsTo s before touched a.ancestor a.still (Leads s before touched ahead) posts

-- what one ancestor more shows all along, or its post after those so far
abbrev pub LeadsOn : PlainSite → Histories → List ℕ → ℕ → Option View → List ℕ → List ℕ → Type 0
LeadsOn s before touched p (Some view) old new = (view ≡ view_of (check_at s p) (of_index p before)) × IsNoneOf p touched × (new ≡ old)
LeadsOn s before touched p None old new = (q : ℕ) × (slice_get touched q ≡ Some p) × (new ≡ old ++ q ∷ [])

-- the outlook of a checkable in a round that begins with these entries
pub record IsOutlookOf (s : PlainSite) (before : Histories) (touched : List ℕ) (c : ℕ) (o : Outlook) : Type 0 where
  pub names : map (λ (a : Ahead). a.ancestor) o.ahead ≡ ancestors s c
  pub leads : Leads s before touched o.ahead o.posts

-- one of each of these checkables
pub record AreOutlooks (s : PlainSite) (before : Histories) (touched : List ℕ) (outlooks : List Outlook) : Type 0 where
  pub whole : length outlooks ≡ length touched
  pub each : (p c : ℕ) (o : Outlook) → slice_get touched p ≡ Some c → slice_get outlooks p ≡ Some o → IsOutlookOf s before touched c o

-- What is brought.

abbrev pub ahead_in : Option Outlook → List Ahead
ahead_in None = []
ahead_in (Some o) = o.ahead

-- what lies ahead at the post of a want
abbrev pub ahead_of : Deeds → Wanted → List Ahead
ahead_of deeds want = ahead_in (slice_get deeds.outlooks.items want.post)

-- the deed of a want, by these sights
abbrev pub deed_of : Deeds → Wanted → List (Sight View) → Deed
deed_of deeds want sights = record { moment = deeds.moment; event = want.event; sights = shown_with (ahead_of deeds want) sights }

-- it may be asked for at this machine, by sights of these posts
pub record IsWanted (deeds : Deeds) (m : SiteMachine) (want : Wanted) (looks : List ℕ) : Type 0 where
  pub moment : deeds.moment ≡ m.moment
  pub names : map (λ (a : Ahead). a.ancestor) (ahead_of deeds want) ≡ ancestors (site_view m.site.now) m.checkable
  pub sights : length looks ≡ sights_for (ahead_of deeds want)

-- What posts begin with.

-- the checkable's machine and its book
pub record IsBaseOf (s : PlainSite) (table : Option Tzif) (now : ℕ) (before : Histories) (c : ℕ) (base : Base SiteMachine Contents) : Type 0 where
  pub site : site_view base.machine.site.now ≡ s
  pub graph : IsGraphOf s base.machine.graph.now
  pub zone : base.machine.zone.now ≡ table
  pub checkable : base.machine.checkable ≡ c
  pub moment : base.machine.moment ≡ now
  pub number : base.number ≡ c
  pub book_site : site_view base.start.site ≡ s
  pub index : base.start.index ≡ c
  pub entries : base.start.entries ≡ of_index c before
  pub last : last_moment base.start.entries ≤ now

pub record AreBases (s : PlainSite) (zone : Option Tzif) (moment : ℕ) (before : Histories) (touched : List ℕ) (bases : List (Base SiteMachine Contents)) : Type 0 where
  pub whole : length bases ≡ length touched
  pub each : (p c : ℕ) (base : Base SiteMachine Contents) → slice_get touched p ≡ Some c → slice_get bases p ≡ Some base → IsBaseOf s zone moment before c base

-- What callers do.

-- the event for which a job stands
abbrev pub asked_by : List ℕ → Job Wanted → Asked
asked_by touched job = record { checkable = slice_index_or touched job.post 0; event = job.want.event }

-- it looks at the posts ahead of its own
pub record IsJobOf (touched : List ℕ) (outlooks : List Outlook) (job : Job Wanted) : Type 0 where
  pub post : job.post < length touched
  pub want : job.want.post ≡ job.post
  pub looks : (o : Outlook) → slice_get outlooks job.post ≡ Some o → job.looks ≡ o.posts

-- the jobs of each caller, in its order
pub record AreJobs (touched : List ℕ) (outlooks : List Outlook) (events : List (List Asked)) (lists : List (Vec (Job Wanted) Global)) : Type 0 where
  pub asked : map (λ (jobs : Vec (Job Wanted) Global). map (asked_by touched) jobs.items) lists ≡ events
  pub each : All (λ (jobs : Vec (Job Wanted) Global). All (IsJobOf touched outlooks) jobs.items) lists
