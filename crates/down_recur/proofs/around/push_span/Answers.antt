-- So far the segments of the days before this one were added.
use Rattle.std.proofs.Common.{◌≡◌, ◌+◌, ◌-◌, ◌++◌, pos, ◌-ℤ◌, sym, ap, ◌∙◌, append_assoc, rules, FitsSigned, w32}
use Rattle.std.proofs.lemmas.Int.{to_z-of_z}
use Rattle.std.specs.Option.{option_to_list}
use Rattle.down_recur.proofs.Finding.{days_next}
use Rattle.down_recur.specs.Segments.{on_days, segment_on}
use Rattle.down_recur.proofs.around.push_span.Goals as goal

pub loop-step-preserved : goal.loop-step-preserved
loop-step-preserved c =
    let fits : FitsSigned w32 c.date_at.result = search rules in
    let found = simp to_z-of_z at c.segment_on.ensures in
    let rest = on_days c.args.zone.now c.args.span (c.args.day + (c.loop-step.step + 1)) (7 - (c.loop-step.step + 1)) in
    let added : c.push_some.new.out.items ≡ c.loop-step.out.items ++ option_to_list (segment_on c.args.zone.now c.args.span (pos (c.args.day + c.loop-step.step) -ℤ pos 2)) =
    c.in_ok-push_some.ensures ∙ ap (λ o. c.loop-step.out.items ++ option_to_list o) (found ∙ ap (segment_on c.args.zone.now c.args.span) c.date_at.ensures.value) in
    ap (λ l. l ++ rest) added ∙ append_assoc c.loop-step.out.items (option_to_list (segment_on c.args.zone.now c.args.span (pos (c.args.day + c.loop-step.step) -ℤ pos 2))) rest ∙ ap (λ l. c.loop-step.out.items ++ l) (sym (days_next c.args.zone.now c.args.span c.args.day c.loop-step.step 7 c.loop-step-test.true)) ∙ c.loop-step.invariant
