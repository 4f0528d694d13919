use Rattle.std.proofs.Common.{sym, ap, ◌∙◌, Some}
use Rattle.site_model.specs.Names.{place_of, with_name}
use Rattle.site_model.proofs.Places.{place_kept}
use Rattle.site_model.proofs.names.Names.add.Goals as goal

pub returns-clause-names : goal.returns-clause-names
returns-clause-names c = c.in_ok-place.ensures.keys ∙ ap (with_name c.args.name) c.self.view_is

pub returns-clause-place : goal.returns-clause-place
returns-clause-place c =
    ap (place_of c.args.name) c.in_ok-place.ensures.keys
    ∙ place_kept c.args.name c.self.inside.set.keys
    ∙ ap Some (sym c.in_ok-place.ensures.index)
