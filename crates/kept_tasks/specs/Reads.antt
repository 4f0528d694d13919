-- What a task reads of a world, and the view that shows this alone.
use Rattle.std.specs.Prelude.{◌≡◌, List, [], ◌∷◌, ◌++◌, Bool, true, false}
use Rattle.std.specs.List.{AllByRecursion, filter, flat_map}
use Rattle.site_model.specs.PlainSite.{PlainObject}
use Rattle.eval_meaning.specs.Load.{Loaded}
use Rattle.eval_meaning.specs.Views.{View, Shown, Sight, shown, absent, sight}
use Rattle.eval_meaning.specs.declared.read.Read.{Read}
use Rattle.commit_meaning.specs.Answers.{Answer, made, diagnosed, blocked}
use Rattle.commit_meaning.specs.Worlds.{world_view}

-- the object that a read finds
abbrev pub found : Read → Sight → List Shown
found r (shown d) = record { kind = r.kind; name = r.name; tree = d } ∷ []
found r s = []

abbrev pub is_absent : Sight → Bool
is_absent absent = true
is_absent s = false

-- The view of a load in which these reads are decided as in a world, and no others. An evaluation looks rules up nowhere.
abbrev pub view_of_reads : Loaded → View → List Read → View
view_of_reads load world rs = record {
  store = load.store;
  templates = load.templates;
  rules = [];
  objects = flat_map (λ r. found r (sight world r)) rs;
  absent = filter (λ r. is_absent (sight world r)) rs;
  whole = [];
  files = [];
}

abbrev pub IsAnswered : {A : Type 0} → Answer A → Type 0
IsAnswered (made a) = Unit {0}
IsAnswered (diagnosed ds) = Unit {0}
IsAnswered (blocked r) = ⊥

-- after earlier reads these are the others: over the view of the earlier ones the task is blocked on the first of these, and so on, until
-- the view of all of them answers it
abbrev pub AreReadsBehind : {A : Type 0} → (List Read → Answer A) → List Read → List Read → Type 0
AreReadsBehind answer before [] = IsAnswered (answer before)
AreReadsBehind answer before (r ∷ rs) = (answer before ≡ blocked r) × AreReadsBehind answer (before ++ r ∷ []) rs

-- the reads of a task of which this is the answer over a view, among these objects of a load
abbrev pub AreReadsOf : {A : Type 0} → (View → Answer A) → Loaded → List PlainObject → List Read → Type 0
AreReadsOf answer load os rs = AreReadsBehind (λ qs. answer (view_of_reads load (world_view load os) qs)) [] rs

-- each of these reads finds an object of the same tree in both worlds, or none in both
abbrev pub SeenAlike : View → View → List Read → Type 0
SeenAlike world other rs = AllByRecursion (λ r. sight world r ≡ sight other r) rs
