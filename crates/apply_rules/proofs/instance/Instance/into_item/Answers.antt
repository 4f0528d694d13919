use Rattle.std.proofs.Common.{◌≡◌, subst}
use Rattle.std.specs.Prelude.{IfOk}
use Rattle.eval_meaning.specs.Registered.{PlainItem}
use Rattle.eval_work.specs.Works.{plain_item}
use Rattle.apply_rules.proofs.instance.Instance.into_item.Goals as goal

pub returns : goal.returns
returns c = subst (λ (x : PlainItem). IfOk c.with_names.result (λ i. plain_item i ≡ x)) c.in_ok-item.ensures c.with_names.ensures
