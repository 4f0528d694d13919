-- The constants of a configuration that its site takes, and what is wrong with them.
use Rattle.std.specs.Prelude.{ℕ, ◌==◌, ◌&&◌, ◌/◌, ◌%◌, nat_le, Bool, true, false, List, [], ◌∷◌, ◌++◌, Option, Some, None, codes, if◌then◌else◌}
use Rattle.std.specs.Borrow.{Bor}
use Rattle.site_base.specs.Data.{Data, null, boolean, number, string, list, dict}
use Rattle.site_base.specs.Quoted.{quoted}
use Rattle.site_base.specs.View.{view}
use Rattle.site_base.specs.declared.diag.Diag.{Diag}
use Rattle.site_base.specs.declared.diag_kind.DiagKind.{DiagKind}
use Rattle.site_base.specs.declared.diag_kind.DiagKind.TheVariants as diag
use Rattle.site_base.specs.declared.item_no.ItemNo.{ItemNo}
use Rattle.site_base.specs.declared.place.Place.{Place}
use Rattle.site_base.specs.declared.tree.Tree.{Tree}
use Rattle.time_range.specs.Zone.{IsBadFile}
use Rattle.object_values.specs.Values.{thousandths_of}
use Rattle.typed_site.specs.TypedSite.{PlainSettings}
use Rattle.site_phases.specs.declared.globals.Globals.{Globals}

-- `Globals` with the plain values of its trees
pub record PlainGlobals : Type 0 where
  pub max_checks : Option Data
  pub site_zone : Option Data
  pub zone_file : Option (List ℕ)
  pub vars : Data

abbrev pub tree_view : Option Tree → Option Data
tree_view None = None
tree_view (Some t) = Some (view t)

-- the plain value of what is lent
abbrev pub lent_tree : Option (Bor Tree) → Option Data
lent_tree None = None
lent_tree (Some t) = Some (view t.now)

abbrev pub globals_view : Globals → PlainGlobals
globals_view g = record { max_checks = tree_view g.max_checks; site_zone = tree_view g.site_zone; zone_file = g.zone_file; vars = view g.vars }

-- where what belongs to no item is told: at the beginning of the first file, the root
abbrev pub root_start : Place
root_start = record { file = 0; line = 1; col = 1 }

abbrev pub no_item : ItemNo
no_item = record { item = 0; target = record { item = 0; host = 0; key = 0 }; key = 0 }

-- what is wrong with the constant of a name
abbrev pub constant_fault : DiagKind → List ℕ → Diag
constant_fault kind name = record { number = no_item; place = root_start; kind = kind; text = quoted name }

-- ---- `MaxConcurrentChecks`

-- so many thousandths as a whole number from 1 to 65,535; none if they are no such number
abbrev pub count_by : ℕ → Option ℕ
count_by n = if n % 1000 == 0 && (nat_le 1000 n && nat_le n 65535000) then Some (n / 1000) else None

-- how many checks may be outstanding by the value of the constant: 512 without it, and none by a value that isn't such a number
abbrev pub orders_by : Option Data → Option ℕ
orders_by None = Some 512
orders_by (Some (number z)) = count_by (thousandths_of z)
orders_by (Some null) = None
orders_by (Some (boolean b)) = None
orders_by (Some (string text)) = None
orders_by (Some (list items)) = None
orders_by (Some (dict pairs)) = None

abbrev pub fault_unless : Option ℕ → List Diag
fault_unless None = constant_fault diag.BadConst (codes "MaxConcurrentChecks") ∷ []
fault_unless (Some n) = []

abbrev pub orders_or_512 : Option ℕ → ℕ
orders_or_512 None = 512
orders_or_512 (Some n) = n

-- ---- `SiteZone`

abbrev pub bad_zone : Bool → List Diag
bad_zone true = constant_fault diag.BadZone (codes "SiteZone") ∷ []
bad_zone false = []

-- by the value of the constant, and whether the file is none of a zone
abbrev pub zone_faults : Option Data → Bool → List Diag
zone_faults None bad = []
zone_faults (Some (string name)) bad = bad_zone bad
zone_faults (Some null) bad = constant_fault diag.BadConst (codes "SiteZone") ∷ []
zone_faults (Some (boolean b)) bad = constant_fault diag.BadConst (codes "SiteZone") ∷ []
zone_faults (Some (number z)) bad = constant_fault diag.BadConst (codes "SiteZone") ∷ []
zone_faults (Some (list items)) bad = constant_fault diag.BadConst (codes "SiteZone") ∷ []
zone_faults (Some (dict pairs)) bad = constant_fault diag.BadConst (codes "SiteZone") ∷ []

-- of a value that names no file
abbrev pub other_faults : Option Data → List Diag
other_faults None = []
other_faults (Some d) = constant_fault diag.BadConst (codes "SiteZone") ∷ []

-- the constant names a file
abbrev pub is_file_name : Option Data → Bool
is_file_name (Some (string name)) = true
is_file_name (Some null) = false
is_file_name (Some (boolean b)) = false
is_file_name (Some (number z)) = false
is_file_name (Some (list items)) = false
is_file_name (Some (dict pairs)) = false
is_file_name None = false

-- the file counts only then
abbrev pub file_used : Option Data → Option (List ℕ) → Option (List ℕ)
file_used value file = if is_file_name value then file else None

-- there is a file, and it is none of a zone
abbrev pub AreBadBytes : Option (List ℕ) → Type 0
AreBadBytes None = ⊥
AreBadBytes (Some bytes) = IsBadFile bytes

-- ---- both

-- what is wrong with the two, given whether the zone's file is none
abbrev pub constant_faults : PlainGlobals → Bool → List Diag
constant_faults g bad = fault_unless (orders_by g.max_checks) ++ zone_faults g.site_zone bad

-- what a site takes from them
abbrev pub settings_of : PlainGlobals → PlainSettings
settings_of g = record { vars = g.vars; zone = file_used g.site_zone g.zone_file; max_orders = orders_or_512 (orders_by g.max_checks) }
