-- Before the first turn all is ready.
use Rattle.std.proofs.Common.{◌≡◌, List, length, map, refl, sym, ap, ◌∙◌, subst, arith}
use Rattle.checkable_core.specs.Contents.{Contents}
use Rattle.checkable_core.proofs.Listed.{length_map}
use Rattle.lasting_problems.specs.Lasting.{lasting}
use Rattle.lasting_problems.specs.Noted.{noted}
use Rattle.run_meaning.specs.Runs.{greatest_moment}
use Rattle.site_model.specs.PlainSite.{check_view, site_view}
use Rattle.site_posts.specs.Books.{AreBooks, histories_of}
use Rattle.run_text.specs.TurnReading.{report_read}
use Rattle.turn_engine.proofs.Beginning.{none_later, ready_first, starts}
use Rattle.turn_engine.proofs.engine.Engine.resume.Goals as goal

pub of-requires : goal.of-requires
of-requires c =
    let one = ap length c.as_slice.ensures.value in
    let whole = c.requires.books.whole in
    let few = c.requires.few in
    record { few = omega (arith, one, whole, few) }

pub invariant_of-result : goal.invariant_of-result
invariant_of-result c = λ fresh.
    let s = site_view c.args.site in
    let books = c.args.books.items in
    let n : c.len.result ≡ length s.checkables = c.len.ensures ∙ sym (length_map check_view c.args.site.checkables) in
    let are : AreBooks s (greatest_moment (histories_of books)) books = none_later s books c.requires.books in
    let problems = c.in_ok-problems.ensures s (greatest_moment (histories_of books)) (subst (AreBooks s (greatest_moment (histories_of books))) (sym c.as_slice.ensures.value) are) ∙ ap (λ (xs : List Contents). noted (lasting s (histories_of xs))) c.as_slice.ensures.value in
    let moment = c.greatest_moment_of-moment.ensures ∙ ap (λ (xs : List Contents). greatest_moment (histories_of xs)) c.as_slice-2.ensures.value in
    ready_first _ c.len.result c.in-Ok.ensures.graph c.requires.books c.in_ok-plan.ensures n problems moment refl c.requires.sound.most_orders

pub returns-clause-start : goal.returns-clause-start
returns-clause-start c =
    let s = site_view c.args.site in
    let n : c.len.result ≡ length s.checkables = c.len.ensures ∙ sym (length_map check_view c.args.site.checkables) in
    let moment = c.greatest_moment_of-moment.ensures ∙ ap (λ (xs : List Contents). greatest_moment (histories_of xs)) c.as_slice-2.ensures.value in
    starts s c.len.result c.greatest_moment_of-moment.result c.in_ok-plan.plan (histories_of c.args.books.items) (map report_read c.new-2.result.items) c.in_ok-plan.ensures n moment (ap (map report_read) c.new-2.ensures.items)
