use Rattle.std.proofs.Common.{◌∷◌}
use Rattle.dsl_lib.proofs.Joins.{first_and_rest, joined_first}
use Rattle.dsl_lib.proofs.joining.joined.Goals as goal

pub returns : goal.returns
returns c =
    let t = c.in_ok-push_scalar.ensures.0 in
    let ts = c.in_ok-push_separated.ensures.0 in
    (t ∷ ts, first_and_rest c.args.items.now c.first-item.result t ts c.in-len1-up.len_at_least c.first-item.is c.in_ok-push_scalar.ensures.1 c.in_ok-push_separated.ensures.1, joined_first _ _ _ c.args.separator.now t ts c.new-joined.ensures c.in_ok-push_scalar.ensures.2 c.in_ok-push_separated.ensures.2)
