-- A part that is a span adds it, and one that is none ends the loop.
use Rattle.std.proofs.Common.{◌∙◌, ap, sym, option_map, ◌++◌}
use Rattle.std.specs.Option.{option_copied}
use Rattle.time_range.specs.Spans.{span_of}
use Rattle.time_range.proofs.PieceLemmas.{rest_spans, none_left, one_more}
use Rattle.time_range.proofs.span_text.push_pieces.Goals as goal

pub returns-in-None : goal.returns-in-None
returns-in-None c =
    none_left c.args.day c.loop-rest.out c.args.out.now c.in-Some.pieces.now c.args.text.now
    (ap (λ rest. option_map (λ spans. c.loop-rest.out ++ spans) (rest_spans c.args.day (option_copied rest))) (sym c.in-Some.is) ∙ c.loop-rest.invariant)
    (c.in-None.ensures ∙ ap (span_of c.args.day) c.first_piece.ensures)

pub loop-rest-preserved : goal.loop-rest-preserved
loop-rest-preserved c =
    ap (λ rest. option_map (λ spans. c.push.new.self ++ spans) (rest_spans c.args.day rest)) c.more_pieces-rest.ensures
    ∙ one_more c.args.day c.loop-rest.out c.push.new.self c.in-Some.pieces.now c.in-Some-span_of.span _
    (ap (λ rest. option_map (λ spans. c.loop-rest.out ++ spans) (rest_spans c.args.day (option_copied rest))) (sym c.in-Some.is) ∙ c.loop-rest.invariant)
    (c.in-Some-span_of.ensures ∙ ap (span_of c.args.day) c.first_piece.ensures)
    (c.in_ok-push-in-Some-span_of.ensures {u = tt}).ok
