-- Faults of the files as faults of a load.
use Rattle.site_edge.specs.declared.file_fault.FileFault.{FileFault}
use Rattle.site_edge.specs.declared.file_fault.FileFault.TheVariants as file
use Rattle.conf_sources.specs.declared.load_fault.LoadFault.{LoadFault}
use Rattle.conf_sources.specs.declared.load_fault.LoadFault.TheVariants.{Failed, OutOfMemory}

abbrev pub load_fault_of : FileFault → LoadFault
load_fault_of file.Failed = Failed
load_fault_of file.OutOfMemory = OutOfMemory
