-- The name has a list with the one place.
use Rattle.std.proofs.Common.{◌≡◌, Some, [], ◌∷◌, ◌++◌, cond, sym, ap, ◌∙◌}
use Rattle.std.specs.Str.{bytes_eq}
use Rattle.eval_work.specs.Placing.{place_in, place_listed, placed_in}
use Rattle.eval_work.proofs.Placed.{under, inserted, one_place_more}
use Rattle.eval_work.proofs.places.Places.add_name.Goals as goal

pub returns-clause-added : goal.returns-clause-added
returns-clause-added c = λ k n.
    let kind = c.args.kind.now in
    let name = c.args.name.now in
    let place = c.args.place in
    let old = c.args.self.now.lists.entries in
    let list = c.push.new.self in
    let alone : list.items ≡ (kind, place) ∷ [] = c.in_ok-push.ensures.items ∙ ap (λ es. es ++ (c.in_ok-clone.field-0, place) ∷ []) c.in_ok-list.ensures.items ∙ ap (λ t. (t, place) ∷ []) c.in_ok-clone.ensures.cases in
    one_place_more k n kind name place old c.insert.new.self.entries list
    (ap (place_in k) alone ∙ sym (ap (λ o. placed_in k kind place (place_listed k o)) c.requires))
    (ap (under n) c.in_ok-insert.ensures.entries ∙ inserted n c.in_ok-key.key list old ∙ ap (λ m. cond (bytes_eq n m) (Some list) (under n old)) (c.in_ok-key.ensures.ok ∙ c.as_str.ensures))
