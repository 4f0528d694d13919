-- The lines of all that a turn gives are those of the log that it tells.
use Rattle.std.proofs.Common.{◌≡◌, ℕ, List, ◌∷◌, ◌++◌, map, ap, ◌∙◌}
use Rattle.std.specs.List.{flat_map}
use Rattle.log_text.specs.LogLines.{turn_line}
use Rattle.run_meaning.specs.Dealing.{Refusal}
use Rattle.run_meaning.specs.Runs.{TurnLog}
use Rattle.run_meaning.specs.Turns.{Ordered}
use Rattle.site_model.specs.PlainSite.{PlainSite}
use Rattle.run_text.specs.LogText.{ordered_line, refusal_line, turn_lines}
use Rattle.run_text.specs.declared.style.Style.{Style}
use Rattle.turn_deal.specs.Dealt.{refusal_of}
use Rattle.turn_engine.specs.Orders.{order_as}
use Rattle.turn_engine.specs.Stages.{Tells}
use Rattle.turn_engine.specs.declared.turn_out.TurnOut.{TurnOut}
use Rattle.engine_log.specs.TurnLines.{segment_lines}
use Rattle.engine_log.proofs.Segments.{lines_from}

abbrev lines_with : Style → PlainSite → ℕ → ℕ → List Refusal → List (List ℕ) → List Ordered → List (List ℕ)
lines_with style s number moment refusals entries orders =
    turn_line number moment ∷ ((map refusal_line refusals ++ entries) ++ map (ordered_line style s) orders)

-- the lines of all that a turn gives
abbrev pub lines_given : Style → PlainSite → TurnOut → List (List ℕ)
lines_given style s out =
    lines_with style s out.number out.moment (map refusal_of out.refusals.items) (flat_map (segment_lines style s) out.segments) (map order_as out.orders.items)

pub told : (style : Style) (s : PlainSite) (out : TurnOut) (l : TurnLog) → Tells out l → lines_given style s out ≡ turn_lines style s l
told style s out l t =
    let refusals = map refusal_of out.refusals.items in
    let entries = flat_map (segment_lines style s) out.segments in
    let orders = map order_as out.orders.items in
    ap (λ n. lines_with style s n out.moment refusals entries orders) t.number
    ∙ ap (λ n. lines_with style s l.number n refusals entries orders) t.moment
    ∙ ap (λ rs. lines_with style s l.number l.moment rs entries orders) t.refused
    ∙ ap (λ xs. lines_with style s l.number l.moment l.refusals (flat_map (segment_lines style s) xs) orders) t.entries
    ∙ ap (λ ls. lines_with style s l.number l.moment l.refusals ls orders) (lines_from style s 0 l.round)
    ∙ ap (lines_with style s l.number l.moment l.refusals _) t.ordered
