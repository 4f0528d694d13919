-- The faults of operators, of the library and of members at a place, unless memory ran out.
use Rattle.std.specs.Prelude.{◌≡◌, []}
use Rattle.site_base.specs.declared.place.Place.{Place}
use Rattle.dsl_ops.specs.declared.op_fault.OpFault.{OpFault}
use Rattle.dsl_ops.specs.declared.op_fault.OpFault.TheVariants as op_fault
use Rattle.dsl_ops.specs.declared.member_fault.MemberFault.{MemberFault}
use Rattle.dsl_ops.specs.declared.member_fault.MemberFault.TheVariants as member_fault
use Rattle.dsl_lib.specs.declared.lib_fault.LibFault.{LibFault}
use Rattle.dsl_lib.specs.declared.lib_fault.LibFault.TheVariants as lib_fault
use Rattle.eval_meaning.specs.Operators.{op_kind}
use Rattle.eval_meaning.specs.Library.{lib_kind}
use Rattle.eval_meaning.specs.Targets.{member_kind}
use Rattle.eval_work.specs.Works.{IsFault}
use Rattle.eval_work.specs.declared.stop.Stop.{Stop}
use Rattle.eval_work.specs.declared.stop.Stop.TheVariants as stops

abbrev pub IsOpStop : Stop → Place → OpFault → Type 0
IsOpStop s l op_fault.OutOfMemory = s ≡ stops.Memory
IsOpStop s l e = IsFault s l (op_kind e) []

abbrev pub IsLibStop : Stop → Place → LibFault → Type 0
IsLibStop s l lib_fault.OutOfMemory = s ≡ stops.Memory
IsLibStop s l e = IsFault s l (lib_kind e) []

abbrev pub IsMemberStop : Stop → Place → MemberFault → Type 0
IsMemberStop s l member_fault.OutOfMemory = s ≡ stops.Memory
IsMemberStop s l e = IsFault s l (member_kind e) []
