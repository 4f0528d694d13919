-- The template at the place of its key is the first that has it.
use Rattle.std.proofs.Common.{◌≡◌, Some, None, map, sym, ap, ◌∙◌}
use Rattle.std.specs.Prelude.{slice_get, option_copied, option_map}
use Rattle.eval_meaning.specs.Views.{template_in}
use Rattle.eval_work.specs.Lists.{template_key}
use Rattle.eval_work.specs.Placing.{first_place}
use Rattle.eval_work.specs.Works.{plain_template}
use Rattle.eval_work.proofs.Found.{template_found, template_lost, lent_at, some_of, none_of}
use Rattle.eval_work.proofs.templates.Templates.find.Goals as goal

pub returns-in-Some-clause-found : goal.returns-in-Some-clause-found
returns-in-Some-clause-found c =
    let kind = c.args.kind.now in
    let name = c.args.name.now in
    let ts = c.self.inside.templates.items in
    let first : first_place kind name (map template_key ts) ≡ Some c.in-Some.place = sym (c.self.invariant kind name) ∙ sym c.find.ensures ∙ c.in-Some.is in
    let got : option_copied c.get.result ≡ slice_get c.deref.result.now c.in-Some.place = lent_at c.deref.result.now c.in-Some.place c.get.result c.get.ensures.lookup in
    some_of plain_template c.get.result _
    (ap (option_map plain_template) (got ∙ ap (λ xs. slice_get xs c.in-Some.place) c.deref.ensures.value) ∙ sym (template_found kind name ts c.in-Some.place first) ∙ ap (λ xs. template_in kind name (map plain_template xs)) c.self.view_is)

pub returns-in-Some-clause-absent : goal.returns-in-Some-clause-absent
returns-in-Some-clause-absent c =
    let kind = c.args.kind.now in
    let name = c.args.name.now in
    let ts = c.self.inside.templates.items in
    let first : first_place kind name (map template_key ts) ≡ Some c.in-Some.place = sym (c.self.invariant kind name) ∙ sym c.find.ensures ∙ c.in-Some.is in
    let got : option_copied c.get.result ≡ slice_get c.deref.result.now c.in-Some.place = lent_at c.deref.result.now c.in-Some.place c.get.result c.get.ensures.lookup in
    none_of plain_template c.get.result _
    (ap (option_map plain_template) (got ∙ ap (λ xs. slice_get xs c.in-Some.place) c.deref.ensures.value) ∙ sym (template_found kind name ts c.in-Some.place first) ∙ ap (λ xs. template_in kind name (map plain_template xs)) c.self.view_is)

pub returns-in-None-clause-absent : goal.returns-in-None-clause-absent
returns-in-None-clause-absent c =
    let kind = c.args.kind.now in
    let name = c.args.name.now in
    let ts = c.self.inside.templates.items in
    sym (ap (λ xs. template_in kind name (map plain_template xs)) c.self.view_is) ∙ template_lost kind name ts (sym (c.self.invariant kind name) ∙ sym c.find.ensures ∙ c.in-None.is)
