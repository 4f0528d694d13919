-- The groups that take an object, in the parts in which they are evaluated.
use Rattle.std.specs.Prelude.{List, Option}
use Rattle.site_base.specs.Data.{Data}
use Rattle.site_base.specs.declared.item_no.ItemNo.{ItemNo}
use Rattle.object_types.specs.declared.object_type.ObjectType.{ObjectType}
use Rattle.eval_meaning.specs.Registered.{PlainItem}
use Rattle.eval_meaning.specs.States.{State, Outcome, ◌>>=◌}
use Rattle.eval_meaning.specs.Views.{View}
use Rattle.commit_meaning.specs.Groups.{Taken, member_names, groups_by}

-- what groups come to for an object of this number and type, with this tree
abbrev pub seen_taken : View → ItemNo → Option ObjectType → Data → List PlainItem → State → Outcome Taken
seen_taken view n kind d gs s = member_names view kind d s >>= λ names s1. groups_by view n gs names s1
