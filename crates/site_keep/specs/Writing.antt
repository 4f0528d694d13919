-- What is written of a state file.
use Rattle.std.specs.Prelude.{◌≡◌, ℕ, List, [], ◌∷◌, ◌++◌, OnOk, Result}
use Rattle.json.specs.Token.{Token}
use Rattle.json.specs.Tree.{json_tokens}
use Rattle.json.specs.Written.{Written}
use Rattle.serde_json.specs.Data.{Data, Items}
use Rattle.serde_json.specs.Written.{items_outline, outline}
use Rattle.json.specs.Tree.{items_tokens}
use Rattle.site_model.specs.PlainSite.{PlainCheck}
use Rattle.site_keep.specs.Shape.{Saved}

-- these tokens were added behind what stood
abbrev pub Adds : {E : Type 0} → Result (Unit {0}) E → Written → Written → List Token → Type 0
Adds r old new ts = OnOk r ((new.tokens ≡ old.tokens ++ ts) × (new.before ≡ old.before))

abbrev pub tokens_of : Data → List Token
tokens_of d = json_tokens (outline d)

-- with the closing bracket
abbrev pub item_tokens : Items → List Token
item_tokens ds = items_tokens (items_outline ds)

-- a checkable whose entries have these lines
abbrev pub saved_as : PlainCheck → List (List ℕ) → Saved
saved_as c lines = record { name = c.name; lines = lines }

-- each checkable with the lines of its entries
abbrev pub saved_among : List PlainCheck → List (List (List ℕ)) → List Saved
saved_among [] all = []
saved_among (c ∷ cs) [] = []
saved_among (c ∷ cs) (lines ∷ all) = saved_as c lines ∷ saved_among cs all
