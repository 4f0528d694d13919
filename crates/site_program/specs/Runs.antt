-- With what a run ends whose files can't be read.
use Rattle.conf_sources.specs.declared.load_fault.LoadFault.{LoadFault}
use Rattle.conf_sources.specs.declared.load_fault.LoadFault.TheVariants as load
use Rattle.site_run.specs.declared.status.Status.{Status}
use Rattle.site_run.specs.declared.status.Status.TheVariants.{ReadFault, OutOfMemory}

abbrev pub status_by : LoadFault → Status
status_by load.Failed = ReadFault
status_by load.OutOfMemory = OutOfMemory
