-- Parts of a script.
use Rattle.std.specs.Prelude.{ℕ, ◌≡◌, List, [], ◌∷◌, map, Result}
use Rattle.std.specs.Borrow.{Bor}
use Rattle.std.specs.List.{concat}
use Rattle.site_edge.specs.declared.turn.Turn.{Turn}
use Rattle.site_text.specs.Scripts.{Has}
use Rattle.site_text.specs.ScriptReading.{Tells}
use Rattle.site_text.specs.declared.script_error.ScriptError.{ScriptError}

-- the bytes of each part
abbrev pub texts_of : List (Bor (List ℕ)) → List (List ℕ)
texts_of parts = map (λ p. p.now) parts

-- each part was read by itself, as a whole script
abbrev pub AreRead : List (List ℕ) → List (Result (List Turn) ScriptError) → Type 0
AreRead [] [] = Unit {0}
AreRead [] (r ∷ rs) = ⊥
AreRead (p ∷ ps) [] = ⊥
AreRead (p ∷ ps) (r ∷ rs) = Tells (Has p) r × AreRead ps rs

-- the bytes were cut into parts, each of which was read so
pub record IsReadInParts (bytes : List ℕ) (read : List (Result (List Turn) ScriptError)) : Type 0 where
  pub parts : List (List ℕ)
  pub whole : concat parts ≡ bytes
  pub each : AreRead parts read
