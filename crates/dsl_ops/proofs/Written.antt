-- What is written at a key.
use Rattle.std.proofs.Common.{◌≡◌, ℕ, ◌<◌, ◌≤◌, Bool, true, false, cond, nat_lt, Option, Some, None, refl, ap, subst, ◌∙◌, arith}
use Rattle.std.proofs.lemmas.Bool.Decides.{nat_tests}
use Rattle.dsl_value.specs.Contents.{PlainCell, Contents, cell_at}
use Rattle.dsl_value.specs.Outcomes.{writes, refuses}
use Rattle.dsl_value.specs.declared.value.Value.{Value}
use Rattle.dsl_value.specs.declared.value.Value.TheVariants.{Ref}
use Rattle.dsl_ops.specs.Members.{with_member, written_or_wrong, set_outcome}
use Rattle.dsl_ops.specs.declared.member_fault.MemberFault.TheVariants.{WrongType, Frozen}

module _ (s : Contents) (value key new : Value) (k : ℕ) (is : value ≡ Ref k) where
  at_cell : (o : Option PlainCell) → with_member (cell_at s.cells k) key new ≡ o → set_outcome s value key new ≡ written_or_wrong s k o
  at_cell o e = ap (λ v. set_outcome s v key new) is ∙ ap (written_or_wrong s k) e

  pub is_written : (c : PlainCell) → with_member (cell_at s.cells k) key new ≡ Some c → s.base ≤ k → set_outcome s value key new ≡ writes k c
  is_written c e le = at_cell (Some c) e ∙ ap (λ b. cond b (refuses Frozen) (writes k c)) (let no : nat_lt k s.base ≡ false = grind (arith, nat_tests) in no)

  pub is_frozen : (c : PlainCell) → with_member (cell_at s.cells k) key new ≡ Some c → k < s.base → set_outcome s value key new ≡ refuses Frozen
  is_frozen c e lt = at_cell (Some c) e ∙ ap (λ b. cond b (refuses Frozen) (writes k c)) (let yes : nat_lt k s.base ≡ true = grind (arith, nat_tests) in yes)

  pub is_wrong : with_member (cell_at s.cells k) key new ≡ None → set_outcome s value key new ≡ refuses WrongType
  is_wrong e = at_cell None e
