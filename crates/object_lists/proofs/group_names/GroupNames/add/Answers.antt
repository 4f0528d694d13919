use Rattle.std.proofs.Common.{sym, ap, ◌∙◌, map, string_bytes, Some, position}
use Rattle.std.specs.Str.{bytes_eq}
use Rattle.std.specs.String.{string_eq}
use Rattle.site_model.specs.Names.{with_name}
use Rattle.site_model.proofs.Places.{keys_with, placed_name, position-map}
use Rattle.object_lists.proofs.group_names.GroupNames.add.Goals as goal

pub returns-clause-names : goal.returns-clause-names
returns-clause-names c =
    ap (map string_bytes) c.in_ok-place.ensures.keys
    ∙ keys_with c.args.name c.self.inside.set.keys
    ∙ ap (with_name (string_bytes c.args.name)) c.self.view_is

pub returns-clause-place : goal.returns-clause-place
returns-clause-place c =
    position-map string_bytes (bytes_eq (string_bytes c.args.name)) c.insert_full.new.self.keys
    ∙ ap (position (string_eq c.args.name)) c.in_ok-place.ensures.keys
    ∙ placed_name c.args.name c.self.inside.set.keys
    ∙ ap Some (sym c.in_ok-place.ensures.index)
