-- Lawful trees: the keys of each dictionary in them are distinct and stand in byte order.
use Rattle.std.specs.Prelude.{◌≡◌, ℕ, List}
use Rattle.std.specs.Cmp.Lexicographic.{slice_cmp}
use Rattle.std.specs.Ordering.{nat_cmp}
use Rattle.std.specs.declared.cmp.Ordering.TheVariants.{Less}
use Rattle.site_base.specs.Data.{Data, null, boolean, number, string, list, dict, Items, no_items, item, Pairs, no_pairs, pair}

-- one key is before another in byte order
abbrev pub IsBefore : List ℕ → List ℕ → Type 0
IsBefore key other = slice_cmp nat_cmp key other ≡ Less

-- a key is before each of these
abbrev pub Leads : List ℕ → Pairs → Type 0
Leads key no_pairs = Unit {0}
Leads key (pair other value more) = IsBefore key other × Leads key more

-- the keys differ, and stand in byte order
abbrev pub AreRising : Pairs → Type 0
AreRising no_pairs = Unit {0}
AreRising (pair key value more) = Leads key more × AreRising more

-- so do those of each dictionary in a tree
abbrev mutual
  pub IsLawful : Data → Type 0
  IsLawful null = Unit {0}
  IsLawful (boolean b) = Unit {0}
  IsLawful (number n) = Unit {0}
  IsLawful (string t) = Unit {0}
  IsLawful (list ds) = AreLawful ds
  IsLawful (dict ps) = AreRising ps × HaveLawful ps

  -- in each of several trees
  pub AreLawful : Items → Type 0
  AreLawful no_items = Unit {0}
  AreLawful (item d ds) = IsLawful d × AreLawful ds

  -- in the tree of each pair
  pub HaveLawful : Pairs → Type 0
  HaveLawful no_pairs = Unit {0}
  HaveLawful (pair key d more) = IsLawful d × HaveLawful more
