-- Callers that have no events.
use Rattle.std.specs.Prelude.{◌≡◌, List, [], ◌∷◌}

abbrev pub AreIdle : {A : Type 0} → List (List A) → Type 0
AreIdle [] = Unit {0}
AreIdle (xs ∷ more) = (xs ≡ []) × AreIdle more
