-- One segment more is told, and at the end all are.
use Rattle.std.proofs.Common.{rules, ◌≡◌, ◌+◌, ◌<◌, ◌∷◌, ◌++◌, length, drop, sym, ap, ◌∙◌, arith}
use Rattle.std.specs.Vec.Iter.{into_iter_items}
use Rattle.std.proofs.lemmas.List.{drop_more, length-drop}
use Rattle.site_posts.proofs.GivenBack.{told_more}
use Rattle.site_posts.proofs.Keeping.{all_told, kept_are, kept_with}
use Rattle.site_posts.proofs.gathering.Gathered.segments.Goals as goal

pub loop-entries-preserved : goal.loop-entries-preserved
loop-entries-preserved c =
    let touched = c.args.self.touched.items in
    let at = c.loop-entries.at in
    let k = c.index.result.now in
    let ks = drop (at + 1) touched in
    let rest = into_iter_items c.next.new.self in
    let old = c.loop-entries.segments.items in
    let before = c.loop-entries.invariant in
    let step = c.in-Some.ensures.steps.0 in
    let count = ap length step in
    let within : at < length touched = (let n = before.count in let w = c.requires.whole in omega (arith, n, w, count)) in
    let more : drop at touched ≡ k ∷ ks = drop_more touched at k within ∙ ap (λ n. n ∷ ks) (sym c.index.ensures) in
    record {
      count = (let n = before.count in omega (arith, n, count));
      told = told_more k c.in-Some.entries old (kept_with ks rest) c.add_segment.new.segments.items (kept_with touched c.args.self.rows.items)
          (ap (λ xs. old ++ kept_with (k ∷ ks) xs) (sym step) ∙ ap (λ js. old ++ kept_with js (into_iter_items c.loop-entries.entries-iterator)) (sym more) ∙ before.told)
          c.in_ok-add_segment.ensures;
    }

pub returns : goal.returns
returns c = λ round kept.
    let touched = c.args.self.touched.items in
    let rows = c.args.self.rows.items in
    let at = c.loop-entries.at in
    let before = c.loop-entries.invariant in
    let left = into_iter_items c.loop-entries.entries-iterator in
    let none : length left ≡ 0 = search (rules, c.in-None.ensures.steps) in
    let dropped = length-drop at touched in
    c.from.ensures
    ∙ all_told (drop at touched) left c.loop-entries.segments.items (kept_with touched rows) (let n = before.count in let w = c.requires.whole in omega (arith, n, w, none, dropped)) before.told
    ∙ kept_are touched rows round c.requires.ascends kept
