-- What an error of a line or of a history is for a state file.
use Rattle.checkable_core.specs.declared.restore_fault.RestoreFault.{RestoreFault}
use Rattle.checkable_core.specs.declared.restore_fault.RestoreFault.TheVariants as history
use Rattle.log_text.specs.declared.entry_error.EntryError.{EntryError}
use Rattle.log_text.specs.declared.entry_error.EntryError.TheVariants as entry
use Rattle.site_keep.specs.declared.keep_error.KeepError.{KeepError}
use Rattle.site_keep.specs.declared.keep_error.KeepError.TheVariants as error

abbrev pub of_entry : EntryError → KeepError
of_entry entry.BadLine = error.BadState
of_entry entry.OutOfMemory = error.OutOfMemory

abbrev pub of_history : RestoreFault → KeepError
of_history history.BadHistory = error.BadState
of_history history.OutOfMemory = error.OutOfMemory
