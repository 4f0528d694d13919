-- What stands, followed by the spans of what is left, is all.
use Rattle.std.proofs.Common.{◌≡◌, option_map, ◌++◌}
use Rattle.std.specs.Option.{option_copied}
use Rattle.time_range.specs.Spans.{pieces_spans}
use Rattle.time_range.proofs.PieceLemmas.{rest_spans, rest_length}
use Rattle.time_range.proofs.span_text.push_pieces.Given as goal

abbrev pub invariant-loop-rest : goal.invariant-loop-rest
invariant-loop-rest l =
    option_map (λ spans. l.out ++ spans) (rest_spans l.day (option_copied l.rest)) ≡ option_map (λ spans. l.fn.out ++ spans) (pieces_spans l.day l.fn.text)

abbrev pub decreases-loop-rest : goal.decreases-loop-rest
decreases-loop-rest l = rest_length (option_copied l.rest)
