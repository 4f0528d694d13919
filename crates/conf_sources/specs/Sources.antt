-- What inclusions name, and what it holds.
use Rattle.std.specs.Prelude.{ℕ, List, [], ◌∷◌, ◌++◌, ◌&&◌, Bool, true, false, Option, filter, map, if◌then◌else◌, position}
use Rattle.std.specs.Str.{bytes_eq}
use Rattle.site_edge.specs.Told.{find_file}
use Rattle.conf_sources.specs.Names.{joined, trimmed, folder_of, last_part, has_wildcard}
use Rattle.wildcards.specs.Wildcards.{matches}
use Rattle.conf_sources.specs.Listings.{listing}
use Rattle.conf_sources.specs.Library.{library_text}
use Rattle.conf_sources.specs.declared.inclusion.Inclusion.{Inclusion}
use Rattle.conf_sources.specs.declared.inclusion.Inclusion.TheVariants as inclusion
use Rattle.conf_sources.specs.declared.source.Source.{Source}
use Rattle.conf_sources.specs.declared.source.Source.TheVariants.{File, Library}

-- the names and bytes of all files
abbrev pub Told : Type 0
Told = List (List ℕ × List ℕ)

-- the name that is shown
abbrev pub full_name : Source → List ℕ
full_name (File name) = name
full_name (Library name) = 60 ∷ [] ++ name ++ 62 ∷ []

-- a part of the built-in library
abbrev pub is_library : Source → Bool
is_library (File name) = false
is_library (Library name) = true

abbrev pub same_source : Source → Source → Bool
same_source (File m) (File n) = bytes_eq m n
same_source (Library m) (Library n) = bytes_eq m n
same_source s t = false

-- at which of these it stands
abbrev pub source_at : Source → List Source → Option ℕ
source_at s ss = position (same_source s) ss

-- the bytes of a file, or the text of a part of the library
abbrev pub content_of : List (List ℕ × List ℕ) → Source → Option (List ℕ)
content_of files (File name) = find_file name files
content_of files (Library name) = library_text name

-- what is read of it: a file, and nothing for a part of the library
abbrev pub file_name : Source → List (List ℕ)
file_name (File name) = name ∷ []
file_name (Library name) = []

abbrev pub is_in_folder : List ℕ → List ℕ → List ℕ → Bool
is_in_folder folder pattern name = bytes_eq (folder_of name) folder && matches pattern (last_part name)

abbrev pub ends_so : List ℕ → List ℕ → Bool
ends_so pattern name = matches pattern (last_part name)

-- of these names, those in the one folder that the pattern describes
abbrev pub in_folder : List ℕ → List ℕ → List (List ℕ) → List (List ℕ)
in_folder folder pattern names = filter (is_in_folder folder pattern) names

-- of these names, those whose last part the pattern describes
abbrev pub below_folder : List ℕ → List (List ℕ) → List (List ℕ)
below_folder pattern names = filter (ends_so pattern) names

-- the files of the one folder that a name with a wildcard in its last part describes, in byte order
abbrev pub wild_names : List (List ℕ × List ℕ) → List ℕ → List (List ℕ)
wild_names files name = in_folder (folder_of name) (last_part name) (listing (folder_of name) files)

-- what a name names: with a wildcard in its last part the files of the one folder that match it, in byte order; else itself
abbrev pub named : List (List ℕ × List ℕ) → List ℕ → List Source
named files name =
    if has_wildcard (last_part name) then map File (wild_names files name)
    else File name ∷ []

-- what an inclusion in the file of this name names
abbrev pub sources_of : List (List ℕ × List ℕ) → List ℕ → Inclusion → List Source
sources_of files file (inclusion.File name at) = named files (joined file name)
sources_of files file (inclusion.Library name at) = Library name ∷ []
sources_of files file (inclusion.Folder dir pattern at) = map File (below_folder pattern (listing (trimmed (joined file dir)) files))
