-- One part more is joined, and all parts are the whole.
use Rattle.std.proofs.Common.{◌≡◌, ◌∷◌, ◌++◌, List, [], length, sym, ap, ◌∙◌, subst, arith}
use Rattle.std.specs.Prelude.{Result}
use Rattle.std.specs.Vec.Iter.{into_iter_items}
use Rattle.site_edge.specs.declared.turn.Turn.{Turn}
use Rattle.site_text.specs.Scripts.{IsScript}
use Rattle.site_text.specs.declared.script_error.ScriptError.{ScriptError}
use Rattle.script_parts.proofs.Joining.{IsJoined, all_joined, none_joined, one_joined}
use Rattle.script_parts.proofs.reading.joined.Goals as goal

pub loop-part-init : goal.loop-part-init
loop-part-init c =
    let bytes = c.args._bytes.now in
    let read = c.args.read.items in
    subst (λ ts. IsJoined bytes ts (into_iter_items c.into_iter-part-iterator.result)) (sym c.new-turns.ensures.items)
    (subst (λ rs. IsJoined bytes [] rs) (sym c.into_iter-part-iterator.ensures.into_iter_gives.0) (none_joined bytes read c.requires))

pub loop-part-preserved : goal.loop-part-preserved
loop-part-preserved c =
    let bytes = c.args._bytes.now in
    let l = c.loop-part in
    let rest = into_iter_items c.next.new.self in
    let more = c.in-Ok.more in
    let next = c.in-Some.ensures.steps.0 ∙ ap (λ (r : Result (List Turn) ScriptError). r ∷ rest) c.in-Ok.is in
    let grown = c.in_ok-append-in-Ok.ensures.items ∙ ap (λ (us : List Turn). l.turns.items ++ us) c.into_vec.ensures in
    subst (λ ts. IsJoined bytes ts rest) (sym grown) (one_joined bytes l.turns.items more rest (subst (IsJoined bytes l.turns.items) next l.invariant))

pub returns : goal.returns
returns c =
    let bytes = c.args._bytes.now in
    let l = c.loop-part in
    let left = into_iter_items l.part-iterator in
    let none : length left ≡ 0 = omega (arith, c.in-None.ensures.steps.0, l.part-iterator.rest.ok.0) in
    subst (IsScript bytes) (sym c.from.ensures) (all_joined bytes l.turns.items left none l.invariant)
