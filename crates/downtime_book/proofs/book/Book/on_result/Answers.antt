-- Each run meets the result, and what is past is dropped.
use Rattle.std.proofs.Common.{◌≡◌, List, length, drop, map, filter, IsPermutation, sym, ap, ◌∙◌, subst, rules, arith, take_at}
use Rattle.std.proofs.lemmas.List.{length-map}
use Rattle.std.proofs.lemmas.List.Sorted.{length_permutation}
use Rattle.downtime_book.specs.declared.downtime.Downtime.{Downtime}
use Rattle.downtime_book.specs.Downtime.{is_live, after_result}
use Rattle.downtime_book.specs.Contents.{Contents, together}
use Rattle.downtime_book.proofs.Together.{fewer}
use Rattle.downtime_book.proofs.Steps.{StandsFor-resulted}
use Rattle.downtime_book.proofs.book.Book.on_result.Goals as goal

pub count-self-inside-requires : goal.count-self-inside-requires
count-self-inside-requires c =
    let f = after_result c.args.moment c.args.problem in
    let old = together c.deref_mut.result.now in
    let was : old ≡ c.args.self.now.downtimes = search (rules, c.self.view_is) in
    let long : length c.meet_result.new.runs ≡ c.self.inside.runs.len = search (rules, c.meet_result.ensures.length) in
    let whole = ap together (take_at c.meet_result.new.runs (drop (length c.meet_result.new.runs) c.self.inside.runs.items) c.self.inside.runs.len long) in
    let all : together c.deref.result.now ≡ together c.meet_result.new.runs = search (rules, c.drop_empty.ensures, whole) in
    let met = length_permutation _ _ c.meet_result.ensures.met in
    let few = fewer (is_live c.args.moment) (map f old) in
    let same = length-map old f in
    let here = ap length all in
    let held = c.self.invariant ∙ ap (λ (b : Contents). length b.downtimes) c.self.view_is in
    let before = ap length was in
    omega (arith, met, few, same, here, held, before)

pub returns-clause-stands : goal.returns-clause-stands
returns-clause-stands c = λ calls s.
    let m = c.args.moment in
    let met = map (after_result m c.args.problem) c.args.self.now.downtimes in
    let was : together c.deref_mut.result.now ≡ c.args.self.now.downtimes = search (rules, c.self.view_is) in
    let moved : IsPermutation (filter (is_live m) met) (together c.meet_result.new.runs) =
    subst (λ (l : List Downtime). IsPermutation (filter (is_live m) (map (after_result m c.args.problem) l)) (together c.meet_result.new.runs)) was c.meet_result.ensures.met in
    let long : length c.meet_result.new.runs ≡ c.self.inside.runs.len = search (rules, c.meet_result.ensures.length) in
    let whole = ap together (take_at c.meet_result.new.runs (drop (length c.meet_result.new.runs) c.self.inside.runs.items) c.self.inside.runs.len long) in
    let same : together c.drop_empty.new.runs.items ≡ together c.meet_result.new.runs = search (rules, c.drop_empty.ensures, whole) in
    StandsFor-resulted c.args.self.now calls m c.args.problem _ s c.requires (subst (λ (l : List Downtime). IsPermutation (filter (is_live m) met) l) (sym same) moved)
