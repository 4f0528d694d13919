-- The place of one more is the number of those before it.
use Rattle.std.proofs.Common.{◌≡◌, [], ◌∷◌, ◌++◌, length, map, rules, sym, ap, ◌∙◌}
use Rattle.std.proofs.lemmas.List.{length-map, map-append}
use Rattle.eval_work.specs.Lists.{template_key}
use Rattle.eval_work.specs.Placing.{first_place, place_at, placed}
use Rattle.eval_work.proofs.Found.{one_more}
use Rattle.eval_work.proofs.templates.Templates.add.Goals as goal

pub invariant_of-self-2 : goal.invariant_of-self-2
invariant_of-self-2 c = λ kind name.
    let was = c.self.inside.templates.items in
    let one = c.args.template in
    let all : c.push.new.self.items ≡ was ++ one ∷ [] = c.in_ok-push.ensures.items ∙ ap (λ xs. xs ++ one ∷ []) c.in_ok-reserve.ensures.items in
    let here : c.len-place.result ≡ length c.reserve.new.self.items = search rules in
    let place : c.len-place.result ≡ length (map template_key was) = here ∙ ap length c.in_ok-reserve.ensures.items ∙ sym (length-map was template_key) in
    c.in_ok-add.ensures.added kind name
    ∙ ap (λ m. placed kind name one.kind one.name m (place_at c.self.inside.places kind name)) place
    ∙ ap (λ x. placed kind name one.kind one.name (length (map template_key was)) x) (c.self.invariant kind name)
    ∙ one_more kind name (template_key one) (map template_key was)
    ∙ ap (first_place kind name) (sym (map-append template_key was (one ∷ [])))
    ∙ sym (ap (λ xs. first_place kind name (map template_key xs)) all)
