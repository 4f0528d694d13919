-- What a call answers once something is made.
use Rattle.std.proofs.Common.{◌≡◌, ℕ, Ok, ap, ◌∙◌}
use Rattle.dsl_value.specs.Contents.{Contents}
use Rattle.dsl_value.specs.Outcomes.{outcome_of, value_of, store_of, answer, after}
use Rattle.dsl_value.specs.declared.making.Made.{Made}
use Rattle.dsl_value.proofs.Settled.{answer_made, after_made}
use Rattle.dsl_ops.specs.Outcomes.{Outcome}
use Rattle.dsl_ops.specs.declared.op_fault.OpFault.{OpFault}

pub answer_gives : (count : ℕ) (o : Outcome) (m : Made) → o ≡ outcome_of m → answer count o ≡ Ok (value_of count m)
answer_gives count o m e = ap (answer count) e ∙ answer_made OpFault count m

pub after_gives : (s : Contents) (o : Outcome) (m : Made) → o ≡ outcome_of m → after s o ≡ store_of s m
after_gives s o m e = ap (after s) e ∙ after_made OpFault s m
