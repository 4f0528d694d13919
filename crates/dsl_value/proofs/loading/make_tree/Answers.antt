use Rattle.std.proofs.Common.{◌≡◌, ◌+◌, ◌*◌, map, sym, ap, ◌∙◌, arith}
use Rattle.site_base.specs.Weight.{weight}
use Rattle.dsl_value.specs.Contents.{plain}
use Rattle.dsl_value.specs.Loading.{among, filled, wrapped, value_of, work_in, work_of, work_outside}
use Rattle.dsl_value.proofs.Parted.{wrapped_end, work_end}
use Rattle.dsl_value.proofs.loading.make_tree.Goals as goal

pub loop-step-smaller-in-Inside : goal.loop-step-smaller-in-Inside
loop-step-smaller-in-Inside c =
    let more : work_outside c.push.new.self.items ≡ work_outside c.loop-step.open.items + work_in c.in-Inside.around = ap work_outside c.in_ok-push-in-Inside.ensures.items ∙ work_end c.loop-step.open.items c.in-Inside.around in
    let before : work_of c.loop-step.step ≡ work_in c.in-Inside.around + 2 * weight c.in-Inside.next.now = ap work_of c.in-Inside.is in
    omega (arith, more, before, c.in_ok-step-in-Inside.ensures.less)

pub loop-step-preserved-in-Inside : goal.loop-step-preserved-in-Inside
loop-step-preserved-in-Inside c =
    ap (λ os. wrapped c.args.before os (value_of c.args.before (map plain c.enter-in-Inside.new.made.items) c.in_ok-step-in-Inside.step)) c.in_ok-push-in-Inside.ensures.items
    ∙ wrapped_end c.args.before c.loop-step.open.items c.in-Inside.around (value_of c.args.before (map plain c.enter-in-Inside.new.made.items) c.in_ok-step-in-Inside.step)
    ∙ ap (λ m. wrapped c.args.before c.loop-step.open.items (filled c.args.before c.in-Inside.around m)) c.in_ok-step-in-Inside.ensures.value
    ∙ sym (ap (λ s. wrapped c.args.before c.loop-step.open.items (value_of c.args.before (map plain c.loop-step.made.items) s)) c.in-Inside.is) ∙ c.loop-step.invariant

pub loop-step-smaller : goal.loop-step-smaller
loop-step-smaller c =
    let less : work_outside c.loop-step.open.items ≡ work_outside c.pop.new.self.items + work_in c.in-Some.around = ap work_outside c.in-Some.ensures.items ∙ work_end c.pop.new.self.items c.in-Some.around in
    let before : work_of c.loop-step.step ≡ 1 = ap work_of c.in-Made.is in
    omega (arith, less, before, c.in_ok-step-in-Some.ensures.less)

pub loop-step-preserved : goal.loop-step-preserved
loop-step-preserved c =
    ap (wrapped c.args.before c.pop.new.self.items) c.in_ok-step-in-Some.ensures.value
    ∙ sym (wrapped_end c.args.before c.pop.new.self.items c.in-Some.around (among c.in-Made.value (map plain c.loop-step.made.items)))
    ∙ ap (λ os. wrapped c.args.before os (among c.in-Made.value (map plain c.loop-step.made.items))) (sym c.in-Some.ensures.items)
    ∙ sym (ap (λ s. wrapped c.args.before c.loop-step.open.items (value_of c.args.before (map plain c.loop-step.made.items) s)) c.in-Made.is) ∙ c.loop-step.invariant
