use Rattle.std.proofs.Common.{◌≡◌, ◌&&◌, ◌==◌, ℕ, List, drop, length, not}
use Rattle.std.specs.List.{list_all}
use Rattle.wildcards.specs.Wildcards.{matches}
use Rattle.dsl_lib.specs.Matching.{matched_text}
use Rattle.dsl_lib.specs.Arrays.{all_in}
use Rattle.dsl_lib.proofs.AllIn.{with_front}
use Rattle.dsl_lib.proofs.matching.all_match_pattern.Given as goal

abbrev pub invariant-loop-item : goal.invariant-loop-item
invariant-loop-item l = (made : List (List ℕ)) × (l.all ≡ (not (length l.items == 0) && list_all (matches l.pattern) made)) × (with_front made (all_in matched_text (drop l.item-index l.items)) ≡ all_in matched_text l.items)
