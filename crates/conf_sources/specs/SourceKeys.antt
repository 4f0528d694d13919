-- What files are kept under.
use Rattle.std.specs.Prelude.{Bool, true, false, String, string_bytes}
use Rattle.std.specs.declared.alloc.Global.{Global}
use Rattle.conf_sources.specs.declared.source.Source.{Source}
use Rattle.conf_sources.specs.declared.source.Source.TheVariants.{File, Library}

abbrev pub source_by : Bool → String Global → Source
source_by false name = File (string_bytes name)
source_by true name = Library (string_bytes name)

abbrev pub source_of : Bool × String Global → Source
source_of k = source_by k.0 k.1
