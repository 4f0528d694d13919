-- The object at the place of its key is the first that has it.
use Rattle.std.proofs.Common.{◌≡◌, Some, None, map, sym, ap, ◌∙◌}
use Rattle.std.specs.Prelude.{slice_get, option_copied}
use Rattle.eval_work.specs.Lists.{object_at, object_key}
use Rattle.eval_work.specs.Placing.{first_place}
use Rattle.eval_work.proofs.Found.{object_found, object_lost, lent_at, some_is, none_is}
use Rattle.eval_work.proofs.committed.Committed.find.Goals as goal

pub returns-in-Some-clause-found : goal.returns-in-Some-clause-found
returns-in-Some-clause-found c =
    let kind = c.args.kind.now in
    let name = c.args.name.now in
    let os = c.self.inside.objects.items in
    let first : first_place kind name (map object_key os) ≡ Some c.in-Some.place = sym (c.self.invariant kind name) ∙ sym c.find.ensures ∙ c.in-Some.is in
    let got : option_copied c.get.result ≡ slice_get c.deref.result.now c.in-Some.place = lent_at c.deref.result.now c.in-Some.place c.get.result c.get.ensures.lookup in
    some_is c.get.result _ (got ∙ ap (λ xs. slice_get xs c.in-Some.place) c.deref.ensures.value ∙ sym (object_found kind name os c.in-Some.place first) ∙ ap (object_at kind name) c.self.view_is)

pub returns-in-Some-clause-absent : goal.returns-in-Some-clause-absent
returns-in-Some-clause-absent c =
    let kind = c.args.kind.now in
    let name = c.args.name.now in
    let os = c.self.inside.objects.items in
    let first : first_place kind name (map object_key os) ≡ Some c.in-Some.place = sym (c.self.invariant kind name) ∙ sym c.find.ensures ∙ c.in-Some.is in
    let got : option_copied c.get.result ≡ slice_get c.deref.result.now c.in-Some.place = lent_at c.deref.result.now c.in-Some.place c.get.result c.get.ensures.lookup in
    none_is c.get.result _ (got ∙ ap (λ xs. slice_get xs c.in-Some.place) c.deref.ensures.value ∙ sym (object_found kind name os c.in-Some.place first) ∙ ap (object_at kind name) c.self.view_is)

pub returns-in-None-clause-absent : goal.returns-in-None-clause-absent
returns-in-None-clause-absent c =
    let kind = c.args.kind.now in
    let name = c.args.name.now in
    let os = c.self.inside.objects.items in
    sym (ap (object_at kind name) c.self.view_is) ∙ object_lost kind name os (sym (c.self.invariant kind name) ∙ sym c.find.ensures ∙ c.in-None.is)
