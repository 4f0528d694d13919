-- Tasks that are given to a baker.
use Rattle.std.specs.Prelude.{◌≡◌, List, ◌++◌}
use Rattle.std.specs.List.{AllByRecursion}
use Rattle.site_base.specs.declared.item_no.ItemNo.{ItemNo}
use Rattle.task_reads.specs.declared.task_no.TaskKind.TheVariants as kinds
use Rattle.task_reads.specs.declared.task_no.TaskNo.{TaskNo}

abbrev pub item_no : ItemNo → TaskNo
item_no n = record { kind = kinds.Item; number = n }

abbrev pub pair_no : ItemNo → TaskNo
pair_no n = record { kind = kinds.Pair; number = n }

abbrev pub member_no : ItemNo → TaskNo
member_no n = record { kind = kinds.Member; number = n }

-- some more were given, of which each is this one
pub record GivesOnly (t : TaskNo) (before after : List TaskNo) : Type 0 where
  pub more : List TaskNo
  pub behind : after ≡ before ++ more
  pub only : AllByRecursion (λ u. u ≡ t) more
