-- What is made of a load, wave after wave.
use Rattle.std.specs.Prelude.{◌≡◌, ℕ, suc}
use Rattle.std.specs.List.{filter}
use Rattle.eval_meaning.specs.Load.{Loaded}
use Rattle.commit_meaning.specs.Waves.{is_in_wave, world_after}
use Rattle.commit_meaning.specs.Worlds.{World}

-- A wave is the one that follows so many others of a load: what it is made of is the load, but for items of other waves, and it is made over
-- what stands after the others.
pub record IsWaveOf (load : Loaded) (before : ℕ) (given : Loaded) (world : World) (wave : ℕ) : Type 0 where
  pub number : wave ≡ suc before
  pub rest : record given { items = load.items } ≡ load
  pub items : filter (λ i. is_in_wave wave i.kind) given.items ≡ filter (λ i. is_in_wave wave i.kind) load.items
  pub over : world ≡ world_after load before
