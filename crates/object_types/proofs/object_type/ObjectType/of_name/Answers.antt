use Rattle.std.proofs.Common.{◌≡◌, ℕ, List, Option, Some, None, IfSome, sym, ap, subst, ◌∙◌}
use Rattle.object_types.specs.Names.{type_name, type_among, type_named, all_types}
use Rattle.object_types.specs.declared.object_type.ObjectType.{ObjectType}
use Rattle.object_types.proofs.TypeLaws.{type_sound, type_again}
use Rattle.object_types.proofs.object_type.ObjectType.of_name.Goals as goal

named : (name : List ℕ) (found : Option ObjectType) → type_named name ≡ found → IfSome found (λ t. name ≡ type_name t)
named name None e = tt
named name (Some t) e = type_sound name t e

as_named : (name : List ℕ) (found : Option ObjectType) → found ≡ type_among all_types name → found ≡ type_named name
unfolding type_named
as_named name found e = e

pub returns-clause-named : goal.returns-clause-named
returns-clause-named c = named c.args.name.now c.type_among.result (sym (as_named c.args.name.now c.type_among.result c.type_among.ensures))

pub returns-clause-found : goal.returns-clause-found
returns-clause-found c = λ t e. as_named c.args.name.now c.type_among.result c.type_among.ensures ∙ type_again c.args.name.now t e
