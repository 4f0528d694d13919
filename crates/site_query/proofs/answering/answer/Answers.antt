use Rattle.std.proofs.Common.{◌≡◌, ◌<◌, ◌≤◌, List, ◌∷◌, length, map, suc, drop, arith, ap₂, ◌∙◌, subst, IfOk}
use Rattle.std.specs.List.{flat_map}
use Rattle.site_model.specs.PlainSite.{check_view, site_view}
use Rattle.site_model.specs.declared.check_spec.CheckSpec.{CheckSpec}
use Rattle.site_posts.specs.Books.{histories_of}
use Rattle.site_query.specs.Answers.{all_shown, answer_text, asked_of, first_of, row_text}
use Rattle.site_query.specs.Shown.{shown, shown_view}
use Rattle.site_query.specs.declared.column.Column.{Column}
use Rattle.site_query.proofs.AnswerLaws.{all_at, as_many, begin_all, book_moment, book_spec, end_all, shown_within, told_so}
use Rattle.site_query.proofs.answering.answer.Goals as goal

pub loop-i-init : goal.loop-i-init
loop-i-init c =
    begin_all c.args.query.now c.columns_told-columns.result.now (all_shown (map check_view c.as_slice-specs.result.now) (histories_of c.args.books.now) c.args.moment) (length c.args.books.now) c.most_lines-left.result c.in_ok-out.out c.in_ok-out.ensures c.most_lines-left.ensures
    (shown_within (map check_view c.as_slice-specs.result.now) c.args.books.now c.args.moment)

pub of-shown-requires-clause-spec : goal.of-shown-requires-clause-spec
of-shown-requires-clause-spec c =
    book_spec c.args.site.now c.as_slice-specs.result.now c.args.books.now c.args.moment c.loop-i.i c.index-specs-i.result c.index-books-i.result c.requires c.as_slice-specs.ensures c.loop-i-test.true c.index-specs-i.is c.index-books-i.is

pub of-shown-requires-clause-moment : goal.of-shown-requires-clause-moment
of-shown-requires-clause-moment c = book_moment (site_view c.args.site.now) c.args.books.now c.args.moment c.loop-i.i c.index-books-i.result c.requires c.loop-i-test.true c.index-books-i.is

pub loop-i-preserved : goal.loop-i-preserved
loop-i-preserved c =
    let query = c.args.query.now in
    let columns = c.columns_told-columns.result.now in
    let all = all_shown (map check_view c.as_slice-specs.result.now) (histories_of c.args.books.now) c.args.moment in
    let whole = flat_map (row_text columns) (first_of query.limit (asked_of query all)) in
    let many : length c.as_slice-specs.result.now ≡ length c.args.books.now = as_many c.args.site.now c.as_slice-specs.result.now c.args.books.now c.args.moment c.requires c.as_slice-specs.ensures in
    let within : c.loop-i.i < length c.args.books.now = c.loop-i-test.true in
    let first : c.loop-i.i < length c.as_slice-specs.result.now = omega (arith, many, within) in
    let one = shown (check_view c.index-specs-i.result) c.index-books-i.result.entries c.args.moment in
    let at : drop c.loop-i.i all ≡ one ∷ drop (suc c.loop-i.i) all = all_at c.as_slice-specs.result.now c.args.books.now c.loop-i.i c.args.moment c.index-specs-i.result c.index-books-i.result first within c.index-specs-i.is c.index-books-i.is in
    told_so query columns all whole c.loop-i.i one at (shown_view c.of-shown.result) c.of-shown.ensures c.loop-i.left c.tell.new.left c.loop-i.out c.tell.new.out c.in_ok-tell.ensures.out c.in_ok-tell.ensures.left c.loop-i.invariant

pub returns : goal.returns
returns c =
    let query = c.args.query.now in
    let columns = c.columns_told-columns.result.now in
    let all = all_shown (map check_view c.as_slice-specs.result.now) (histories_of c.args.books.now) c.args.moment in
    let whole = flat_map (row_text columns) (first_of query.limit (asked_of query all)) in
    let few : length all ≤ c.loop-i.i = omega (arith, shown_within (map check_view c.as_slice-specs.result.now) c.args.books.now c.args.moment, c.loop-i-test.false) in
    let done : c.loop-i.out ≡ whole = end_all query columns c.loop-i.left c.loop-i.i all c.loop-i.out whole few c.loop-i.invariant in
    let same : whole ≡ answer_text (site_view c.args.site.now) (histories_of c.args.books.now) c.args.moment query = (ap₂
    (λ (cs : List Column) (xs : List CheckSpec). flat_map (row_text cs) (first_of query.limit (asked_of query (all_shown (map check_view xs) (histories_of c.args.books.now) c.args.moment))))
    c.columns_told-columns.ensures
    c.as_slice-specs.ensures) in
    subst (λ x. IfOk c.into_text.result (λ t. t ≡ x)) (done ∙ same) c.into_text.ensures
