-- Objects and templates by their types and names.
use Rattle.std.specs.Prelude.{ℕ, List, [], ◌∷◌, ◌&&◌, Option, Some, None, if◌then◌else◌}
use Rattle.std.specs.Str.{bytes_eq}
use Rattle.site_model.specs.declared.object.Object.{Object}
use Rattle.eval_meaning.specs.declared.read.Read.{Read}
use Rattle.eval_work.specs.declared.template.Template.{Template}

abbrev pub object_key : Object → Read
object_key o = record { kind = o.kind; name = o.name }

abbrev pub template_key : Template → Read
template_key t = record { kind = t.kind; name = t.name }

-- the first object of a type and a full name
abbrev pub object_at : List ℕ → List ℕ → List Object → Option Object
object_at kind name [] = None
object_at kind name (o ∷ os) = if bytes_eq kind o.kind && bytes_eq name o.name then Some o else object_at kind name os
