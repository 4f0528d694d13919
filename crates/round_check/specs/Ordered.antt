-- What is told, in an order in which entries can be made.
use Rattle.std.specs.Prelude.{◌≡◌, ◌<◌, ◌≤◌, ℕ, List, length, slice_get, Some}
use Rattle.run_meaning.specs.Reachability.{ancestors}
use Rattle.site_model.specs.PlainSite.{PlainSite}
use Rattle.round_check.specs.declared.ordering.Ranked.{Ranked}
use Rattle.round_check.specs.declared.told.Told.{Told}
use Rattle.round_check.specs.Making.{AreParentsFirst, TellAlike}

abbrev pub told_by_rank : Ranked → Told
told_by_rank r = r.told

-- each has the number of the ancestors of its checkable
pub record AreRanked (s : PlainSite) (list : List Ranked) : Type 0 where
  pub within : (i : ℕ) (x : Ranked) → slice_get list i ≡ Some x → x.told.checkable < length s.checkables
  pub rank : (i : ℕ) (x : Ranked) → slice_get list i ≡ Some x → x.rank ≡ length (ancestors s x.told.checkable)

-- something is told of no checkable of the site
pub record IsOutside (s : PlainSite) (told : List Told) : Type 0 where
  pub index : ℕ
  pub one : Told
  pub at : slice_get told index ≡ Some one
  pub outside : length s.checkables ≤ one.checkable

-- the same is told, of ancestors first
pub record IsOrderOf (s : PlainSite) (told order : List Told) : Type 0 where
  pub within : (i : ℕ) (t : Told) → slice_get order i ≡ Some t → t.checkable < length s.checkables
  pub first : AreParentsFirst (ancestors s) order
  pub alike : TellAlike order told
