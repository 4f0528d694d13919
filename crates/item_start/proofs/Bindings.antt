-- Binding in a store is what the definition says of a state, and values stay named.
use Rattle.std.proofs.Common.{◌≡◌, ℕ, List, [], ◌∷◌, ◌++◌, length, refl, sym, subst}
use Rattle.dsl_value.specs.Pairs.{Pairs}
use Rattle.dsl_value.specs.Contents.{Contents}
use Rattle.dsl_value.specs.Loads.{load, grown, given}
use Rattle.dsl_value.specs.Whole.{Names}
use Rattle.dsl_value.specs.declared.value.Value.{Value}
use Rattle.dsl_value.proofs.Kept.{all_append}
use Rattle.eval_meaning.specs.States.{State, gives}
use Rattle.eval_work.specs.Kept.{IsLater, Named, PairsNamed}
use Rattle.eval_work.proofs.Later.{pairs_later}
use Rattle.commit_meaning.specs.Starts.{Trees, values_of}
use Rattle.item_start.specs.Bound.{bound_in}

pub values_are_bound : (ts : Trees) (ps : Pairs) (s : State) → values_of ts ps s ≡ gives (bound_in ts ps s.cells).pairs (record s { cells = (bound_in ts ps s.cells).cells })
values_are_bound [] ps s = refl
values_are_bound (t ∷ ts) ps s = values_are_bound ts (ps ++ (t.0, given 0 s.cells (load t.1)) ∷ []) (record s { cells = grown 0 s.cells (load t.1) })

-- a name more
pub one_more : (old new : Contents) (ps qs : Pairs) (n : List ℕ) (v : Value) → IsLater old new → PairsNamed old ps → Named new v → qs ≡ ps ++ (n, v) ∷ [] → PairsNamed new qs
one_more old new ps qs n v l h k e = subst (PairsNamed new) (sym e) (all_append (λ p. Names (length new.cells) (length new.functions) p.1) ps ((n, v) ∷ []) (pairs_later old new ps l h) (k, tt))
