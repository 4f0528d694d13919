-- The numbers and names of statuses.
use Rattle.std.specs.Prelude.{ℕ, List, codes}
use Rattle.site_run.specs.declared.status.Status.{Status}
use Rattle.site_run.specs.declared.status.Status.TheVariants.{Done, Diagnosed, Usage, ReadFault, WriteFault, WorldFault, OutOfMemory, TurnsSpent, NotLegal}

-- the number with which the process ends
abbrev pub number_of : Status → ℕ
number_of Done = 0
number_of Diagnosed = 1
number_of Usage = 2
number_of ReadFault = 3
number_of WriteFault = 4
number_of WorldFault = 5
number_of OutOfMemory = 6
number_of TurnsSpent = 7
number_of NotLegal = 8

-- the name by which standard error tells it
abbrev pub name_of : Status → List ℕ
name_of Done = codes "Done"
name_of Diagnosed = codes "Diagnosed"
name_of Usage = codes "Usage"
name_of ReadFault = codes "ReadFault"
name_of WriteFault = codes "WriteFault"
name_of WorldFault = codes "WorldFault"
name_of OutOfMemory = codes "OutOfMemory"
name_of TurnsSpent = codes "TurnsSpent"
name_of NotLegal = codes "NotLegal"
