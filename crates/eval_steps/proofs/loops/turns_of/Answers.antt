use Rattle.std.proofs.Common.{◌≡◌, length, map, List, Vec, Global, Result, Ok, Err, sym, subst, ap}
use Rattle.std.specs.Prelude.{IfOk}
use Rattle.dsl_value.specs.Contents.{Contents, plain}
use Rattle.dsl_value.specs.Whole.{Stands}
use Rattle.eval_work.specs.Kept.{NamedAll}
use Rattle.eval_work.specs.declared.stop.Stop.{Stop}
use Rattle.eval_steps.specs.Loops.{element_turn, pair_turn}
use Rattle.eval_steps.specs.Named.{TurnsNamed}
use Rattle.eval_steps.specs.declared.loops.Turn.{Turn}
use Rattle.eval_steps.proofs.Held.{elements_named, pairs_named}
use Rattle.eval_steps.proofs.loops.turns_of.Goals as goal

turns_named : (r : Result (Vec Turn Global) Stop) (c : Contents) (ts : List Turn) → IfOk r (λ v. v.items ≡ ts) → TurnsNamed c ts → IfOk r (λ v. TurnsNamed c v.items)
turns_named (Ok v) c ts e h = subst (TurnsNamed c) (sym e) h
turns_named (Err e) c ts h i = tt

pub returns-in-None-Array-clause-named : goal.returns-in-None-Array-clause-named
returns-in-None-Array-clause-named c =
    let s = c.args.work.now.store in
    let named : NamedAll s c.in-None-Array.items.items = subst (Stands (length s.cells) (length s.functions)) (ap plain c.in-None-Array.is-1) c.cell.ensures.stands in
    turns_named c.element_turns.result s (map element_turn c.deref.result.now) c.element_turns.ensures.turns (elements_named s c.deref.result.now (subst (NamedAll s) (sym c.deref.ensures.value) named))

pub returns-in-Some-Dict-clause-named : goal.returns-in-Some-Dict-clause-named
returns-in-Some-Dict-clause-named c =
    let s = c.args.work.now.store in
    turns_named c.pair_turns.result s (map pair_turn _) c.pair_turns.ensures.turns
    (pairs_named s _ (subst (Stands (length s.cells) (length s.functions)) (ap plain c.in-Some-Dict.is-1) c.cell.ensures.stands).0)
