-- The file of the site's zone.
use Rattle.std.specs.Prelude.{ℕ, List, codes, Option, Some, None}
use Rattle.site_base.specs.Quoted.{quoted}
use Rattle.site_edge.specs.Told.{find_file}
use Rattle.conf_sources.specs.Sources.{Told}
use Rattle.dsl_value.specs.Contents.{PlainCell}
use Rattle.dsl_value.specs.declared.value.Value.{Value}
use Rattle.dsl_value.specs.declared.value.Value.TheVariants as value
use Rattle.eval_meaning.specs.Frames.{name_in}
use Rattle.site_load.specs.declared.zone_file.ZoneFile.{ZoneFile}
use Rattle.site_load.specs.declared.zone_file.ZoneFile.TheVariants as zone

abbrev pub name_by : Option Value → Option (List ℕ)
name_by (Some (value.Str name)) = Some name
name_by v = None

-- the name of the zone's file, if the global is a string
abbrev pub zone_name : List PlainCell → Option (List ℕ)
zone_name cells = name_by (name_in cells (codes "SiteZone") (value.Ref 0))

-- none is named, or its bytes, or the quoted name of one that isn't there
pub data ZoneFound : Type 0 where
  unnamed : ZoneFound
  there : List ℕ → ZoneFound
  missing : List ℕ → ZoneFound

abbrev pub zone_by_name : List ℕ → Option (List ℕ) → ZoneFound
zone_by_name name (Some bytes) = there bytes
zone_by_name name None = missing (quoted name)

abbrev pub zone_found : Told → Option (List ℕ) → ZoneFound
zone_found all None = unnamed
zone_found all (Some name) = zone_by_name name (find_file name all)

abbrev pub zone_view : ZoneFile → ZoneFound
zone_view zone.Unnamed = unnamed
zone_view (zone.Read bytes) = there bytes
zone_view (zone.Missing name) = missing name
