-- What workers do.
use Rattle.std.specs.Prelude.{ℕ, List, Vec, All}
use Rattle.std.specs.List.{AllZip, flat_map}
use Rattle.std.specs.declared.alloc.Global.{Global}

-- a course whose tasks are batches: what is in them may be given, and the answers that it gets are right for the batch
pub record Serves {T A : Type 0} (asks : ℕ → ℕ → Vec T Global → Type 0) (gives : ℕ → ℕ → Vec A Global → Type 0) (fits : T → Type 0) (answers : T → A → Type 0) : Type 0 where
  pub fitting : (w k : ℕ) (ts : Vec T Global) → asks w k ts → All fits ts.items
  pub right : (w k : ℕ) (ts : Vec T Global) (xs : Vec A Global) → asks w k ts → AllZip answers ts.items xs.items → gives w k xs

-- all that batches hold, one behind another
abbrev pub all_in : {X : Type 0} → List (Vec X Global) → List X
all_in batches = flat_map (λ b. b.items) batches
