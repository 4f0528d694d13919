-- The caller's shelf has one more.
use Rattle.std.proofs.Common.{◌∷◌, [], get_or, nat_eq, cond}
use Rattle.std.proofs.lemmas.Option.{slice_get-get_or}
use Rattle.std.proofs.lemmas.Result.{on_ok_weaker}
use Rattle.round_check.proofs.Putting.{shelf_put}
use Rattle.round_check.proofs.making.push_at.Goals as goal

pub returns-clause-own : goal.returns-clause-own
returns-clause-own c = λ k q.
    let shelf = get_or c.args.own.now c.args.caller c.index-own-caller.result in
    on_ok_weaker c.push.result
    (λ put. shelf_put c.args.own.now c.args.caller k q shelf c.push.new.self (cond (nat_eq c.args.checkable q) (c.args.place ∷ []) []) (slice_get-get_or c.args.own.now c.args.caller c.index-own-caller.result c.requires) put)
    (c.push.ensures q)
