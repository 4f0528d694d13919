-- What committed order is, in words of its own.
use Rattle.std.specs.Prelude.{◌≡◌, ◌<◌, ◌⊎◌, ℕ, false, AllPairs}
use Rattle.site_model.specs.PlainSite.{PlainObject}
use Rattle.eval_meaning.specs.Load.{Loaded}
use Rattle.commit_meaning.specs.Orders.{is_behind}
use Rattle.commit_meaning.specs.Waves.{wave_of_kind}
use Rattle.commit_meaning.specs.Commits.{committed}

abbrev pub object_wave : PlainObject → ℕ
object_wave o = wave_of_kind o.kind

-- an object may stand before another: its wave is an earlier one, or theirs is one wave and its number isn't behind the other's
abbrev pub Precedes : PlainObject → PlainObject → Type 0
Precedes a b = (object_wave a < object_wave b) ⊎ ((object_wave a ≡ object_wave b) × (is_behind a.number b.number ≡ false))

-- Whatever is loaded, of each two objects the earlier one may stand before the later one.
abbrev pub CommittedInOrder : Type 0
CommittedInOrder = (load : Loaded) → AllPairs Precedes (committed load)
