-- The strings of a list, as they are found by hash.
use Rattle.std.specs.Prelude.{◌≡◌, ℕ, List, map, string_bytes}
use Rattle.std.specs.List.{list_any}
use Rattle.std.specs.Str.{bytes_eq}
use Rattle.std.specs.declared.alloc.Global.{Global}
use Rattle.std.specs.declared.string.String.{String}
use Rattle.site_base.specs.Data.{Items}
use Rattle.commit_meaning.specs.Groups.{has_string}

abbrev pub texts_in : List (String Global) → List (List ℕ)
texts_in ks = map string_bytes ks

-- just these texts are strings of a list
abbrev pub HasStrings : List (List ℕ) → Items → Type 0
HasStrings ts ds = (n : List ℕ) → list_any (bytes_eq n) ts ≡ has_string n ds
