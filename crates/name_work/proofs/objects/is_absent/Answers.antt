use Rattle.std.proofs.Common.{rules, tests, ap, sym, ◌∙◌}
use Rattle.std.specs.Prelude.{◌||◌}
use Rattle.std.specs.List.{list_any}
use Rattle.std.specs.Str.{bytes_eq}
use Rattle.std.proofs.lemmas.Iterator.{YieldsList-from_slice}
use Rattle.std.proofs.lemmas.Iterator.Search.{any_from_yields_List}
use Rattle.eval_meaning.specs.Views.{is_read}
use Rattle.name_work.proofs.objects.is_absent.Goals as goal

pub returns-then-any : goal.returns-then-any
returns-then-any c =
    let known = c.args.view.now.known.now in
    let r = c.args.read.now in
    let each = any_from_yields_List (is_read r) _ _ c.any.result c.any.ensures.ran (YieldsList-from_slice known.absent.items (search rules)) (λ x b q k. search (rules, tests)) in
    c.if-any.true ∙ sym (ap (λ b. b || list_any (bytes_eq r.kind) known.whole.items) (sym each ∙ c.if-any.true))

pub returns-else-any : goal.returns-else-any
returns-else-any c =
    let known = c.args.view.now.known.now in
    let r = c.args.read.now in
    let each = any_from_yields_List (is_read r) _ _ c.any.result c.any.ensures.ran (YieldsList-from_slice known.absent.items (search rules)) (λ x b q k. search (rules, tests)) in
    let all = any_from_yields_List (bytes_eq r.kind) _ _ c.any-else-any.result c.any-else-any.ensures.ran (YieldsList-from_slice known.whole.items (search rules)) (λ x b q k. search (rules, tests)) in
    all ∙ sym (ap (λ b. b || list_any (bytes_eq r.kind) known.whole.items) (sym each ∙ c.if-any.false))
