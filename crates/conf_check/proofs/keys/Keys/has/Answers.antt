use Rattle.std.proofs.Common.{sym, ap, ◌∙◌, string_bytes}
use Rattle.std.specs.List.{list_any}
use Rattle.std.specs.Str.{bytes_eq}
use Rattle.conf_check.proofs.KeyLaws.{list_any-map}
use Rattle.conf_check.proofs.keys.Keys.has.Goals as goal

pub returns : goal.returns
returns c =
    c.is_some.ensures ∙ c.get_index_of.ensures.found ∙ sym (list_any-map string_bytes (bytes_eq c.args.key.now) c.self.inside.set.keys) ∙ ap (list_any (bytes_eq c.args.key.now)) c.self.view_is
