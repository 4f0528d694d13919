-- The lines so far, followed by those of the rest, are all.
use Rattle.std.proofs.Common.{◌≡◌, ◌++◌, map, drop}
use Rattle.run_text.specs.LogText.{refusal_line}
use Rattle.turn_deal.specs.Dealt.{refusal_of}
use Rattle.engine_log.proofs.turn_text.add_refusals.Given as goal

abbrev pub invariant-loop-refusal : goal.invariant-loop-refusal
invariant-loop-refusal l =
    l.lines ++ map refusal_line (map refusal_of (drop l.refusal-index l.refusals)) ≡ l.initial.lines ++ map refusal_line (map refusal_of l.fn.refusals)
