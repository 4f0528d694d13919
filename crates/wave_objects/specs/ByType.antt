-- The rules of a wave by the types that they go to.
use Rattle.std.specs.Prelude.{ℕ, suc, ◌+◌, List, [], ◌∷◌, if◌then◌else◌}
use Rattle.std.specs.Borrow.{Bor}
use Rattle.std.specs.Str.{bytes_eq}
use Rattle.eval_work.specs.declared.rule.Rule.{Rule}
use Rattle.wave_objects.specs.declared.applying.Applied.{Applied}
use Rattle.wave_objects.specs.declared.by_type.PlacedRule.{PlacedRule}
use Rattle.wave_objects.specs.declared.by_type.RulesOfType.{RulesOfType}

abbrev pub placed_rule : ℕ → Bor Rule → PlacedRule
placed_rule place r = record { place = place; rule = r }

-- the rules that go to a type, each with its place, if the first of these rules has this place
abbrev pub rules_going_to : List ℕ → ℕ → List Applied → List PlacedRule
rules_going_to kind at [] = []
rules_going_to kind at (x ∷ xs) =
    if bytes_eq kind x.rule.now.target then placed_rule at x.rule ∷ rules_going_to kind (at + 1) xs else rules_going_to kind (at + 1) xs

-- the rules that stand for a type
abbrev pub type_rules : List ℕ → List RulesOfType → List PlacedRule
type_rules kind [] = []
type_rules kind (t ∷ ts) = if bytes_eq kind t.kind.now then t.rules.items else type_rules kind ts

-- how many types stand before one, up to the first that is it
abbrev pub types_before : List ℕ → List RulesOfType → ℕ
types_before kind [] = 0
types_before kind (t ∷ ts) = if bytes_eq t.kind.now kind then 0 else suc (types_before kind ts)
