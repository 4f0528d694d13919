-- Targets whose names have values that were made once in a store.
use Rattle.std.specs.Prelude.{◌≡◌}
use Rattle.dsl_value.specs.Contents.{Contents}
use Rattle.commit_meaning.specs.Names.{target_names}
use Rattle.rule_expressions.specs.Preparations.{IsPrepared}
use Rattle.rule_expressions.specs.Seen.{names_of}
use Rattle.apply_rules.specs.Plain.{plain_target}
use Rattle.apply_rules.specs.declared.target.PreparedTarget.{PreparedTarget}

pub record IsPreparedTarget (s : Contents) (t : PreparedTarget) : Type 0 where
  pub names : IsPrepared s t.prepared
  pub subject : names_of t.prepared.subject ≡ target_names (plain_target t.target)
