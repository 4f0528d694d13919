use Rattle.std.proofs.Common.{◌≡◌, map, slice_get, Some, string_bytes, rules, sym, ap, subst, ◌∙◌}
use Rattle.std.proofs.lemmas.Option.{slice_get-map}
use Rattle.std.specs.Option.{option_map}
use Rattle.conf_sources.specs.Known.{answer_of, AreKnown}
use Rattle.conf_sources.proofs.known.Known.of.Goals as goal

pub returns-in-Some : goal.returns-in-Some
returns-in-Some c = λ what known.
    let es = c.self.inside.lists.entries in
    let at : slice_get (map answer_of es) c.in-Some.field-0-0 ≡ Some (answer_of (c.in-Some.key.now, c.in-Some.names.now)) = slice_get-map answer_of es c.in-Some.field-0-0 ∙ ap (option_map answer_of) (c.in-Some.ensures {u = tt}).entry in
    let same : string_bytes c.in-Some.key.now ≡ c.args.name.now = search rules in
    subst (λ l. AreKnown what l) (sym c.self.view_is) known c.in-Some.field-0-0 (answer_of (c.in-Some.key.now, c.in-Some.names.now)) at ∙ ap what same
