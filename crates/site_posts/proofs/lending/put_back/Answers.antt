-- One book more is back, and at the end all are.
use Rattle.std.proofs.Common.{rules, ◌≡◌, ◌+◌, ◌<◌, ◌∷◌, ◌++◌, length, drop, get_or, sym, ap, ◌∙◌, subst, arith}
use Rattle.std.specs.Vec.Iter.{into_iter_items}
use Rattle.std.proofs.lemmas.List.{drop_more, length-drop}
use Rattle.site_posts.proofs.Booked.{segments_with}
use Rattle.site_posts.proofs.GivenBack.{IsBack, all_back, one_back, the_segments, told_all, told_more}
use Rattle.site_posts.proofs.Rising.{Rise, rise_drop, rises}
use Rattle.site_posts.specs.Lent.{with_books}
use Rattle.site_posts.proofs.lending.put_back.Goals as goal

pub loop-state-preserved : goal.loop-state-preserved
loop-state-preserved c =
    let touched = c.args.touched.now in
    let at = c.loop-state.at in
    let k = get_or touched at 0 in
    let e = c.in-Some.field-0 in
    let ks = drop (at + 1) touched in
    let es = into_iter_items c.next.new.self in
    let before = c.loop-state.invariant in
    let step = c.in-Some.ensures.steps.0 in
    let count = ap length step in
    let within : at < length touched = (let n = before.count in let w = c.requires.whole in omega (arith, n, w, count)) in
    let more = drop_more touched at 0 within in
    let rise = rise_drop 0 at touched (rises touched c.requires.ascends) in
    record {
      count = (let n = before.count in omega (arith, n, count));
      books = λ all taken t.
          let final = with_books all touched c.args.ended.items in
          one_back k ks e es rise.0 c.loop-state.books.items c.put.new.books.items final (subst (Rise rise.0) more rise.1)
          (subst (λ xs. IsBack (k ∷ ks) xs c.loop-state.books.items final) step (subst (λ js. IsBack js (into_iter_items c.loop-state.state-iterator) c.loop-state.books.items final) more (before.books all taken t)))
          c.in_ok-put.ensures;
      told = told_more k e.history c.loop-state.segments.items (segments_with ks es) c.add_segment.new.segments.items (segments_with touched c.args.ended.items)
          (ap (λ xs. c.loop-state.segments.items ++ segments_with (k ∷ ks) xs) (sym step) ∙ ap (λ js. c.loop-state.segments.items ++ segments_with js (into_iter_items c.loop-state.state-iterator)) (sym more) ∙ before.told)
          c.in_ok-add_segment.ensures;
    }

pub returns-clause-books : goal.returns-clause-books
returns-clause-books c = λ all taken t.
    let touched = c.args.touched.now in
    let before = c.loop-state.invariant in
    let none : length (into_iter_items c.loop-state.state-iterator) ≡ 0 = search (rules, c.in-None.ensures.steps) in
    let left = length-drop c.loop-state.at touched in
    all_back (drop c.loop-state.at touched) (into_iter_items c.loop-state.state-iterator) c.loop-state.books.items (with_books all touched c.args.ended.items) none
    (let n = before.count in let w = c.requires.whole in omega (arith, n, w, none, left)) (before.books all taken t)

pub returns-clause-segments : goal.returns-clause-segments
returns-clause-segments c = λ all taken t.
    let touched = c.args.touched.now in
    let ended = c.args.ended.items in
    let before = c.loop-state.invariant in
    let none : length (into_iter_items c.loop-state.state-iterator) ≡ 0 = search (rules, c.in-None.ensures.steps) in
    let left = length-drop c.loop-state.at touched in
    c.from.ensures
    ∙ told_all (drop c.loop-state.at touched) (into_iter_items c.loop-state.state-iterator) c.loop-state.segments.items (segments_with touched ended) (let n = before.count in let w = c.requires.whole in omega (arith, n, w, none, left)) before.told
    ∙ the_segments all taken c.args.books.now.items touched ended c.requires.ascends t
