-- The bytes of a text, which may lie in it, or which several texts may share.
use Rattle.std.specs.Prelude.{ℕ, List, string_bytes}
use Rattle.std.specs.Arc.{arc_value}
use Rattle.site_base.specs.declared.text.Kept.{Kept}
use Rattle.site_base.specs.declared.text.Kept.TheVariants as kept

abbrev pub kept_bytes : Kept → List ℕ
kept_bytes (kept.Short s) = s
kept_bytes (kept.Shared s) = string_bytes (arc_value s)
