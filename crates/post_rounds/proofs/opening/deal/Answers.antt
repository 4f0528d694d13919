-- One caller more has got its pass.
use Rattle.std.proofs.Common.{rules, ◌≡◌, ◌+◌, ◌<◌, ◌++◌, [], ◌∷◌, length, slice_get, Some, refl, sym, ap, ◌∙◌, arith, append_assoc, length-append}
use Rattle.std.specs.Vec.Iter.{into_iter_items}
use Rattle.std.proofs.lemmas.Option.{slice_get-get_or}
use Rattle.post_rounds.proofs.Dealing.{dealt_all, dealt_more}
use Rattle.post_rounds.proofs.Places.{get_seam}
use Rattle.post_rounds.proofs.opening.deal.Goals as goal

pub loop-pass-preserved : goal.loop-pass-preserved
loop-pass-preserved g c =
    let before = c.loop-pass.invariant in
    let rest = into_iter_items c.next.new.self in
    let all : c.loop-pass.yielded ++ c.in-Some.pass ∷ rest ≡ c.args.passes = ap (λ ps. c.loop-pass.yielded ++ ps) (sym c.in-Some.ensures.steps.0) ∙ before.whole in
    let within : c.loop-pass.at < length c.loop-pass.callers.items = (let n = ap length all in let l = length-append c.loop-pass.yielded (c.in-Some.pass ∷ rest) in let w = before.dealt.whole in let a = before.at in let r = c.requires in omega (arith, n, l, w, a, r)) in
    record {
      whole = append_assoc c.loop-pass.yielded (c.in-Some.pass ∷ []) rest ∙ all;
      at = ap (λ n. n + 1) before.at ∙ sym (length-append c.loop-pass.yielded (c.in-Some.pass ∷ []));
      dealt = dealt_more c.loop-pass.at c.args.callers.now.items c.loop-pass.callers.items c.args.passes c.in-Some.pass c.index_mut.result.now _ before.dealt
          (ap (λ ps. slice_get ps c.loop-pass.at) (sym all) ∙ ap (slice_get (c.loop-pass.yielded ++ c.in-Some.pass ∷ rest)) before.at ∙ get_seam c.loop-pass.yielded rest c.in-Some.pass)
          (slice_get-get_or c.loop-pass.callers.items c.loop-pass.at c.index_mut.result.now within ∙ ap Some (sym c.index_mut.ensures.value))
          (record { number = refl; jobs = refl; hand = c.in_ok-push.ensures.items });
    }

pub returns : goal.returns
returns g c =
    let before = c.loop-pass.invariant in
    let left : length (into_iter_items c.loop-pass.pass-iterator) ≡ 0 = search (rules, c.in-None.ensures.steps) in
    let all = ap length before.whole in
    let parts = length-append c.loop-pass.yielded (into_iter_items c.loop-pass.pass-iterator) in
    let at = before.at in
    dealt_all c.loop-pass.at c.args.callers.now.items c.loop-pass.callers.items c.args.passes before.dealt (omega (arith, left, all, parts, at))
