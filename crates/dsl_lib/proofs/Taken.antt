-- Distinct values, one more of them.
use Rattle.std.proofs.Common.{◌≡◌, ℕ, List, [], ◌∷◌, ◌++◌, length, sym, subst}
use Rattle.std.specs.List.{AllByRecursion}
use Rattle.dsl_value.specs.Contents.{Contents, PlainCell}
use Rattle.dsl_value.specs.Whole.{Names}
use Rattle.dsl_value.specs.declared.value.Value.{Value}
use Rattle.dsl_ops.specs.Seen.{IsSeen, Adds, found_in}
use Rattle.dsl_ops.proofs.Among.{adds_seen}
use Rattle.dsl_lib.specs.Arrays.{has_equal}
use Rattle.dsl_lib.specs.Distinct.{Finds}
use Rattle.dsl_lib.specs.declared.distinct.Distinct.{Distinct}
use Rattle.dsl_lib.proofs.Apart.{all_push}

pub none_taken : (s : Contents) (d : Distinct) → d.items ≡ [] → ((count functions : ℕ) (content : List PlainCell) → IsSeen count functions content [] d.seen) → Finds s d
none_taken s d none seen = record {
  seen = subst (λ vs. IsSeen (length s.cells) (length s.functions) s.cells vs d.seen) (sym none) (seen (length s.cells) (length s.functions) s.cells);
  stand = subst (AllByRecursion (Names (length s.cells) (length s.functions))) (sym none) tt;
}

pub one_taken : (s : Contents) (old new : Distinct) (v : Value) → Finds s old → Names (length s.cells) (length s.functions) v → Adds old.seen v new.seen → new.items ≡ old.items ++ v ∷ [] → Finds s new
one_taken s old new v h named adds items = record {
  seen = subst (λ vs. IsSeen (length s.cells) (length s.functions) s.cells vs new.seen) (sym items) (adds_seen (length s.cells) (length s.functions) s.cells old.items old.seen new.seen v h.seen named adds);
  stand = subst (AllByRecursion (Names (length s.cells) (length s.functions))) (sym items) (all_push (Names (length s.cells) (length s.functions)) old.items v h.stand named);
}

-- an equal one is found exactly where there is one
pub finds_equal : (s : Contents) (d : Distinct) (v : Value) → Finds s d → found_in s.cells d.seen v ≡ has_equal s.cells d.items v
finds_equal s d v h = h.seen.found v

pub cells_stand : (s : Contents) (d : Distinct) → Finds s d → AllByRecursion (Names (length s.cells) (length s.functions)) d.seen.cells
cells_stand s d h = h.seen.cells
