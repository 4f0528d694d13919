-- Members and elements of values.
use Rattle.std.specs.Prelude.{ℕ, List, Option, Some, None}
use Rattle.site_base.specs.declared.place.Place.{Place}
use Rattle.site_base.specs.declared.diag_kind.DiagKind.TheVariants.{WrongType}
use Rattle.dsl_syntax.specs.Syntax.{Expression}
use Rattle.dsl_value.specs.declared.value.Value.{Value}
use Rattle.dsl_value.specs.declared.value.Value.TheVariants as value
use Rattle.dsl_ops.specs.Members.{member_of}
use Rattle.eval_meaning.specs.States.{State, Outcome, gives, ◌>>=◌, fault}
use Rattle.eval_meaning.specs.Parts.{Parts}

abbrev pub or_wrong : {A : Type 0} → Place → Option A → State → Outcome A
or_wrong l None s = fault l WrongType s
or_wrong l (Some a) s = gives a s

-- what a value has at a key, which costs nothing
unfoldable pub part_value : Place → Value → Value → State → Outcome Value
part_value l v k s = or_wrong l (member_of s.cells v k) s

abbrev pub member_with : Parts → Place → Expression → List ℕ → State → Outcome Value
member_with ev l e n s = ev.value e s >>= λ v s1. part_value l v (value.Str n) s1

abbrev pub index_with : Parts → Place → Expression → Expression → State → Outcome Value
index_with ev l e k s = ev.value e s >>= λ v s1. (ev.value k s1 >>= λ i s2. part_value l v i s2)
