use Rattle.std.proofs.Common.{◌≡◌, ◌+◌, ◌++◌, get_or, set, take, drop, sym, ap, ◌∙◌, arith}
use Rattle.std.proofs.lemmas.List.{get_or_default, take-append-drop, take_rest}
use Rattle.std.proofs.lemmas.List.Edits.{get_or-insert_below}
use Rattle.dsl_value.specs.Rows.{joined}
use Rattle.dsl_value.proofs.Rowed.{split_joined}
use Rattle.dsl_value.proofs.pair_rows.split.Goals as goal

pub returns-clause-same : goal.returns-clause-same
returns-clause-same c =
    let rows = c.args.rows.now.items in
    let at = c.args.at in
    let front = c.truncate.new.self in
    let behind = c.in_ok-behind.behind in
    let old = c.index-2.result.now in
    let there = c.index_mut.result.now in
    let same : there ≡ old =
    c.index_mut.ensures.value ∙ ap (λ rs. get_or rs at there) c.in_ok-insert.ensures.items
    ∙ get_or-insert_below rows (at + 1) behind there at (omega arith) (omega (arith, c.requires.inside))
    ∙ get_or_default rows at there old c.requires.inside ∙ sym c.index-2.ensures in
    let first : front.items ≡ take 256 old.items = c.truncate.ensures.items ∙ ap (λ x. take 256 x.items) same in
    let second : behind.items ≡ drop 256 old.items = c.in_ok-behind.ensures ∙ take_rest c.deref.result.now 256 ∙ ap (drop 256) c.deref.ensures.value in
    ap (λ rs. joined (set rs at front)) c.in_ok-insert.ensures.items
    ∙ split_joined rows at old front behind c.requires.inside ((λ j. first j ++ second j) ∙ take-append-drop 256 old.items ∙ ap (λ x. x.items) c.index-2.ensures)
