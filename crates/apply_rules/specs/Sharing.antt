-- What instances share of their target.
use Rattle.std.specs.Prelude.{◌≡◌, List, All, IfSome, Option, option_map}
use Rattle.std.specs.Arc.{arc_value}
use Rattle.std.specs.declared.alloc.Global.{Global}
use Rattle.std.specs.declared.sync.Arc.{Arc}
use Rattle.dsl_value.specs.Contents.{Contents}
use Rattle.commit_meaning.specs.Names.{target_names}
use Rattle.rule_expressions.specs.Preparations.{IsPrepared}
use Rattle.rule_expressions.specs.Seen.{names_of}
use Rattle.rule_expressions.specs.declared.prepared.Prepared.{Prepared}
use Rattle.apply_rules.specs.Plain.{plain_target}
use Rattle.apply_rules.specs.declared.instance.Instance.{Instance}
use Rattle.apply_rules.specs.declared.rule_answer.RuleAnswer.{RuleAnswer}
use Rattle.apply_rules.specs.declared.rule_answer.RuleAnswer.TheVariants as rule_answers
use Rattle.apply_rules.specs.declared.sharing.Share.{Share}
use Rattle.apply_rules.specs.declared.target.Target.{Target}

-- the names of a target, made once in a store
pub record IsPreparedFor (s : Contents) (t : Target) (p : Prepared) : Type 0 where
  pub names : IsPrepared s p
  pub subject : names_of p.subject ≡ target_names (plain_target t)

-- what is shared, if anything is, are the names of a target, made once in a store
abbrev pub IsSharing : Contents → Target → Option (Arc Prepared Global) → Type 0
IsSharing s t o = IfSome (option_map arc_value o) (IsPreparedFor s t)

-- an instance is at a target, and shares what others at this target do
pub record IsLike (h : Share) (i : Instance) : Type 0 where
  pub target : i.target ≡ h.target
  pub shared : option_map arc_value i.shared ≡ option_map arc_value h.values

abbrev pub AreLike : Share → List Instance → Type 0
AreLike h is = All (IsLike h) is

-- what an instance shares was made in a store
abbrev pub IsSharedIn : Contents → Instance → Type 0
IsSharedIn s i = IsSharing s i.target i.shared

abbrev pub AreSharedIn : Contents → List Instance → Type 0
AreSharedIn s is = All (IsSharedIn s) is

abbrev pub IsAnswerShared : Contents → RuleAnswer → Type 0
IsAnswerShared s (rule_answers.Instances is) = AreSharedIn s is.items
IsAnswerShared s (rule_answers.Diag d) = Unit {0}
IsAnswerShared s (rule_answers.Blocked r) = Unit {0}
