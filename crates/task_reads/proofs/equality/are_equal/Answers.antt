use Rattle.std.proofs.Common.{◌≡◌, List, [], ◌∷◌, ◌++◌, sym, ap, ◌∙◌, subst}
use Rattle.site_base.specs.View.{view}
use Rattle.task_reads.specs.Lefts.{AreSame, Tells}
use Rattle.task_reads.specs.declared.equality.Left.{Left}
use Rattle.task_reads.proofs.Ends.{split_end}
use Rattle.task_reads.proofs.equality.are_equal.Goals as goal

-- the last parts are told of by what is inside of the first two and by the others
pub loop-left-preserved : goal.loop-left-preserved
loop-left-preserved c =
    let popped : c.loop-left.open.items ≡ c.pop.new.self.items ++ c.in-Some-pop.left ∷ [] = c.in-Some-pop.ensures.items in
    let pushed = c.in_ok-push-in-On-2.ensures.items ∙ ap (λ ls. ls ++ c.in-On.inside ∷ []) c.in_ok-push-in-On.ensures.items in
    subst (λ (ls : List Left). Tells (AreSame ls) (view c.args.one.now ≡ view c.args.other.now)) (sym pushed)
    (split_end c.pop.new.self.items c.in-Some-pop.left c.in-On.inside c.in-On.rest c.in-On.ensures.0
    (subst (λ (ls : List Left). Tells (AreSame ls) (view c.args.one.now ≡ view c.args.other.now)) popped c.loop-left.invariant))
