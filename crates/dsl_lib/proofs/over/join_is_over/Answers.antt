use Rattle.std.proofs.Common.{sym}
use Rattle.dsl_lib.proofs.Limits.{over_joined}
use Rattle.dsl_lib.proofs.over.join_is_over.Goals as goal

pub returns : goal.returns
returns c = λ yes.
    over_joined c.args.store.now c.args.args.now c.in-Ok.of.now c.in-Ok.separator.now c.in-Ok-items.items.now c.in-Ok-text.separator.now c.args.most
    c.in-Ok.ensures c.in-Ok-items.ensures.items c.in-Ok-text.ensures (sym c.if-not-are_scalars.ensures) (c.joined_is_over.ensures yes)
