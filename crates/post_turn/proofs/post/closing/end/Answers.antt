use Rattle.std.proofs.Common.{rules, ◌≡◌, ◌<◌, sym, ◌∙◌, arith, Some}
use mathlib.Core.Option.{some-injective}
use Rattle.post_turn.proofs.Ends.{ends, ends_with}
use Rattle.post_turn.proofs.post.closing.end.Goals as goal

pub take-slot-requires : goal.take-slot-requires
take-slot-requires g c =
    let counts = c.close_with-closed.ensures.counts in
    let slots = c.requires.place.1 in
    let one : 0 < Rattle.std.specs.Slots.slots_len c.close_with-closed.result.slots = omega arith in
    (one, c.close_with-closed.ensures.values.1 0 (omega arith) one)

pub unwrap-requires : goal.unwrap-requires
unwrap-requires g c =
    let lies = ends g.M.Machine.fit g.M.Machine.after g.M.Machine.caller_of _ _ _ _ _ _ _ _ c.requires.all.0 c.requires.all.1 c.close_with-closed.ensures.values.2 in
    let is : c.take-slot.result ≡ Some lies.0 = some-injective _ _ (sym c.take-slot.ensures.value ∙ lies.1) in
    search rules

pub returns-clause-body : goal.returns-clause-body
returns-clause-body g c = let ended = ends_with g.M.Machine.fit g.M.Machine.after g.M.Machine.caller_of _ _ _ _ _ _ _ _ _ _ c.requires.all.0 c.requires.all.1 c.close_with-closed.ensures.values.2 c.take-slot.ensures.value c.unwrap.ensures in ended.is_body

pub returns-clause-known : goal.returns-clause-known
returns-clause-known g c = let ended = ends_with g.M.Machine.fit g.M.Machine.after g.M.Machine.caller_of _ _ _ _ _ _ _ _ _ _ c.requires.all.0 c.requires.all.1 c.close_with-closed.ensures.values.2 c.take-slot.ensures.value c.unwrap.ensures in ended.known

pub returns-clause-own : goal.returns-clause-own
returns-clause-own g c = let ended = ends_with g.M.Machine.fit g.M.Machine.after g.M.Machine.caller_of _ _ _ _ _ _ _ _ _ _ c.requires.all.0 c.requires.all.1 c.close_with-closed.ensures.values.2 c.take-slot.ensures.value c.unwrap.ensures in ended.own
