use Rattle.std.proofs.Common.{sym, ap, ◌∙◌, string_bytes}
use Rattle.std.specs.Str.{bytes_eq}
use Rattle.site_model.specs.Names.{place_of}
use Rattle.site_model.proofs.Places.{position-map}
use Rattle.object_lists.proofs.group_names.GroupNames.find.Goals as goal

pub returns : goal.returns
returns c = c.get_index_of.ensures.index ∙ sym (position-map string_bytes (bytes_eq c.args.name.now) c.self.inside.set.keys) ∙ ap (place_of c.args.name.now) c.self.view_is
