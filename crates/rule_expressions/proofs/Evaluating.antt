-- The evaluation of expressions in a store that was prepared.
use Rattle.std.proofs.Common.{◌≡◌, List, Result, Ok, Err, refl, ◌∙◌}
use Rattle.std.specs.Prelude.{IfOk, OnOk}
use Rattle.dsl_value.specs.Pairs.{Pairs}
use Rattle.dsl_value.specs.Contents.{Contents}
use Rattle.dsl_value.specs.PlainStores.{plain_store}
use Rattle.dsl_value.specs.declared.value.Value.{Value}
use Rattle.eval_meaning.specs.States.{rule}
use Rattle.eval_meaning.specs.declared.read.Read.{Read}
use Rattle.eval_work.specs.Kept.{IsKept}
use Rattle.eval_work.specs.declared.stop.Stop.{Stop}
use Rattle.eval_work.specs.declared.view.WorldView.{WorldView}
use Rattle.eval_work.specs.declared.work.Work.{Work}
use Rattle.eval_work.proofs.Later.{told_later}
use Rattle.commit_meaning.specs.Rules.{in_rule}
use Rattle.commit_meaning.specs.Starts.{Trees, fresh}
use Rattle.item_start.specs.Ready.{IsReady}
use Rattle.rule_expressions.specs.Framed.{in_rule_with}
use Rattle.rule_expressions.specs.Preparations.{IsPrepared}
use Rattle.rule_expressions.specs.Seen.{names_of}
use Rattle.rule_expressions.specs.declared.prepared.Prepared.{Prepared}

-- the frame of expressions in a prepared store
pub prepared_is : (s : Contents) (p : Prepared) (names : Trees) (captured : Pairs) (reads : List Read) → IsPrepared s p → names_of p.subject ≡ names → in_rule captured p.bound.items (fresh (plain_store p.store) rule reads) ≡ in_rule_with captured names (fresh (plain_store s) rule reads)
prepared_is s p names captured reads h e = rw (h.bound, h.store, e) refl

-- a work after a value was evaluated
pub ready_kept : (r : Result Value Stop) (v : WorldView) (w new : Work) → IsReady v w → IfOk r (IsKept w new) → new.depth ≡ w.depth → OnOk r (IsReady v new)
ready_kept (Ok x) v w new h k d = record { fit = k.fit; told = told_later v w.store new.store k.later h.told; depth = d ∙ h.depth }
ready_kept (Err x) v w new h k d = tt
