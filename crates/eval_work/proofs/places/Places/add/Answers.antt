-- The list of the name is written.
use Rattle.std.proofs.Common.{◌≡◌, Some, None, cond, sym, ap, ◌∙◌}
use Rattle.std.specs.Str.{bytes_eq}
use Rattle.indexmap.specs.IndexMap.{get_by_text}
use Rattle.eval_work.specs.Placing.{place_in, place_listed, placed_in}
use Rattle.eval_work.proofs.Placed.{under, written, one_place_more, no_place_more, then_ok, then_err}
use Rattle.eval_work.proofs.places.Places.add.Goals as goal

pub returns-in-Some-clause-added : goal.returns-in-Some-clause-added
returns-in-Some-clause-added c = λ k n.
    let kind = c.args.kind.now in
    let name = c.args.name.now in
    let place = c.args.place in
    let old = c.args.self.now.lists.entries in
    let list = c.add_to.new.list in
    let was = c.in-Some.list.now in
    let there : under c.as_str.result.now old ≡ Some was = sym c.in-Some.ensures.value in
    let named : under name old ≡ Some was = sym (ap (λ m. under m old) c.as_str.ensures) ∙ there in
    let changed : under n (c.get_mut.follows.lender list).entries ≡ cond (bytes_eq n name) (Some list) (under n old) =
    ap (under n) (c.get_mut.follows.holds list).0 ∙ written n c.as_str.result.now list was old there ∙ ap (λ m. cond (bytes_eq n m) (Some list) (under n old)) c.as_str.ensures in
    then_ok c.add_to.result
    (λ grown. one_place_more k n kind name place old (c.get_mut.follows.lender list).entries list (grown ∙ sym (ap (λ o. placed_in k kind place (place_listed k o)) named)) changed)
    (c.add_to.ensures.added k)

pub returns-in-Some-clause-kept : goal.returns-in-Some-clause-kept
returns-in-Some-clause-kept c = λ k n.
    let name = c.args.name.now in
    let old = c.args.self.now.lists.entries in
    let list = c.add_to.new.list in
    let was = c.in-Some.list.now in
    let there : under c.as_str.result.now old ≡ Some was = sym c.in-Some.ensures.value in
    let named : under name old ≡ Some was = sym (ap (λ m. under m old) c.as_str.ensures) ∙ there in
    let changed : under n (c.get_mut.follows.lender list).entries ≡ cond (bytes_eq n name) (Some list) (under n old) =
    ap (under n) (c.get_mut.follows.holds list).0 ∙ written n c.as_str.result.now list was old there ∙ ap (λ m. cond (bytes_eq n m) (Some list) (under n old)) c.as_str.ensures in
    then_err c.add_to.result
    (λ kept. no_place_more k n name old (c.get_mut.follows.lender list).entries list (ap (place_in k) kept ∙ sym (ap (place_listed k) named)) changed)
    c.add_to.ensures.kept

pub add_name-requires : goal.add_name-requires
add_name-requires c =
    ap (λ m. get_by_text m c.args.name.now) c.get_mut.follows.holds-at-none
    ∙ sym (ap (λ n. get_by_text c.args.self.now.lists n) c.as_str.ensures)
    ∙ sym c.in-None.ensures.value
