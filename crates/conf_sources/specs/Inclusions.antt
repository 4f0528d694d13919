-- The statements of a file that include others.
use Rattle.std.specs.Prelude.{List, [], ◌++◌, Option, Some, None}
use Rattle.std.specs.Option.{option_to_list}
use Rattle.dsl_syntax.specs.Syntax.{statement, Statements, no_statements, more_statements, StatementKind, include, include_library, include_all}
use Rattle.site_base.specs.declared.place.Place.{Place}
use Rattle.conf_sources.specs.declared.inclusion.Inclusion.{Inclusion}
use Rattle.conf_sources.specs.declared.inclusion.Inclusion.TheVariants.{File, Library, Folder}

abbrev pub inclusion_of : StatementKind → Option Inclusion
inclusion_of (include name at) = Some (File name at)
inclusion_of (include_library name at) = Some (Library name at)
inclusion_of (include_all dir pattern at) = Some (Folder dir pattern at)
inclusion_of k = None

-- in the file's order
abbrev pub inclusions : Statements → List Inclusion
inclusions no_statements = []
inclusions (more_statements (statement p k) ss) = option_to_list (inclusion_of k) ++ inclusions ss

-- where the name of what is included stands
abbrev pub place_of : Inclusion → Place
place_of (File name at) = at
place_of (Library name at) = at
place_of (Folder dir pattern at) = at
