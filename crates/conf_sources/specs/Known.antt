-- Lists of names that are known, each under the name for which it was asked.
use Rattle.std.specs.Prelude.{ℕ, ◌≡◌, List, Option, Some, slice_get, String, string_bytes}
use Rattle.std.specs.declared.alloc.Global.{Global}
use Rattle.conf_sources.specs.Listings.{listing}
use Rattle.conf_sources.specs.Sources.{wild_names}

-- a name, and the names that are known of it
abbrev pub Answer : Type 0
Answer = List ℕ × List (List ℕ)

abbrev pub answer_of : String Global × List (List ℕ) → Answer
answer_of a = (string_bytes a.0, a.1)

-- each is what is to be known of its name
abbrev pub AreKnown : (List ℕ → List (List ℕ)) → List Answer → Type 0
AreKnown what known = (i : ℕ) (a : Answer) → slice_get known i ≡ Some a → a.1 ≡ what a.0

-- where files are told, what stands below folders, and what names with wildcards describe
pub record IsKnown (told : Option (List (List ℕ × List ℕ))) (folders wildcards : List Answer) : Type 0 where
  pub below : (all : List (List ℕ × List ℕ)) → told ≡ Some all → AreKnown (λ folder. listing folder all) folders
  pub described : (all : List (List ℕ × List ℕ)) → told ≡ Some all → AreKnown (wild_names all) wildcards
