use Rattle.std.proofs.Common.{◌≡◌, ℕ, Option, Some, None, sym, ap, ◌∙◌, subst}
use Rattle.site_model.specs.Names.{place_of, IsPlaceOf}
use Rattle.site_model.proofs.Places.{place_is}
use Rattle.site_model.proofs.names.Names.find.Goals as goal

pub returns-in-Some-clause-value : goal.returns-in-Some-clause-value
returns-in-Some-clause-value c =
    sym c.in-Some.is ∙ c.get_index_of.ensures.index ∙ ap (place_of c.args.name.now) c.self.view_is

pub returns-in-Some-clause-place : goal.returns-in-Some-clause-place
returns-in-Some-clause-place c =
    let P : Option ℕ → Type 0 = IsPlaceOf c.args.name.now c.args.self.now in
    let e : place_of c.args.name.now c.args.self.now ≡ Some c.in-Some.place = sym (returns-in-Some-clause-value c) in
    subst P e (place_is c.args.name.now c.args.self.now)

pub returns-in-None-clause-value : goal.returns-in-None-clause-value
returns-in-None-clause-value c =
    sym c.in-None.is ∙ c.get_index_of.ensures.index ∙ ap (place_of c.args.name.now) c.self.view_is

pub returns-in-None-clause-place : goal.returns-in-None-clause-place
returns-in-None-clause-place c =
    let P : Option ℕ → Type 0 = IsPlaceOf c.args.name.now c.args.self.now in
    let e : place_of c.args.name.now c.args.self.now ≡ None = sym (returns-in-None-clause-value c) in
    subst P e (place_is c.args.name.now c.args.self.now)
