-- What is made of an item, of a rule for one target, or of the groups for one object.
use Rattle.std.specs.Prelude.{ℕ, List, [], ◌∷◌, Bool, true, false}
use Rattle.site_base.specs.declared.diag.Diag.{Diag}
use Rattle.site_base.specs.declared.diag_kind.DiagKind.{DiagKind}
use Rattle.site_base.specs.declared.item_no.ItemNo.{ItemNo}
use Rattle.site_base.specs.declared.place.Place.{Place}
use Rattle.eval_meaning.specs.States as outcome
use Rattle.eval_meaning.specs.States.{Outcome}
use Rattle.eval_meaning.specs.declared.read.Read.{Read}

-- what is made, or what is wrong, or the read that isn't decided yet and without which nothing can be said
pub data Answer (A : Type 0) : Type 0 where
  made : A → Answer A
  diagnosed : List Diag → Answer A
  blocked : Read → Answer A

abbrev pub is_made : {A : Type 0} → Answer A → Bool
is_made (made a) = true
is_made (diagnosed ds) = false
is_made (blocked r) = false

-- what an answer has made, as a list of one or none
abbrev pub made_in : {A : Type 0} → Answer A → List A
made_in (made a) = a ∷ []
made_in (diagnosed ds) = []
made_in (blocked r) = []

-- the things of a list that an answer has made
abbrev pub all_made : {A : Type 0} → Answer (List A) → List A
all_made (made more) = more
all_made (diagnosed ds) = []
all_made (blocked r) = []

-- what is wrong by an answer
abbrev pub diags_in : {A : Type 0} → Answer A → List Diag
diags_in (made a) = []
diags_in (diagnosed ds) = ds
diags_in (blocked r) = []

-- a fault of an evaluation is one diagnostic, under the number of that for which it was made
abbrev pub diag : ItemNo → Place → DiagKind → List ℕ → Diag
diag n l k t = record { number = n; place = l; kind = k; text = t }

abbrev pub answered : {A : Type 0} → ItemNo → Outcome A → Answer A
answered n (outcome.gives a s) = made a
answered n (outcome.faults l k t rs) = diagnosed (diag n l k t ∷ [])
answered n (outcome.blocked r rs) = blocked r
