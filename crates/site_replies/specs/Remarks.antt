-- What is remarked of a site that can be run.
use Rattle.std.specs.Prelude.{ℕ, Bool, true, false, not, ◌&&◌, ◌||◌, List, [], ◌∷◌, ◌++◌, map, length, get_or, nat_eq, Option, Some, None, is_some, if◌then◌else◌}
use Rattle.std.specs.List.{filter, flat_map}
use Rattle.std.specs.Str.{bytes_eq}
use Rattle.site_base.specs.declared.place.Place.{Place}
use Rattle.site_model.specs.PlainSite.{PlainObject, PlainSite}
use Rattle.object_types.specs.Names.{type_name}
use Rattle.object_types.specs.declared.attribute.Attribute.{Attribute}
use Rattle.object_types.specs.declared.attribute.Attribute.TheVariants as attribute
use Rattle.object_types.specs.declared.object_type.ObjectType.{ObjectType}
use Rattle.object_types.specs.declared.object_type.ObjectType.TheVariants as object
use Rattle.object_values.specs.Attributes.{set_value}
use Rattle.commit_meaning.specs.Commits.{Committed, site, refused}
use Rattle.site_replies.specs.declared.remarks.Lack.{Lack}
use Rattle.site_replies.specs.declared.remarks.Lack.TheVariants as lack
use Rattle.site_replies.specs.declared.remarks.Remark.{Remark}
use Rattle.site_replies.specs.declared.remarks.Remark.TheVariants as remark

-- Objects that ask for what the program doesn't do.

abbrev pub is_of : ObjectType → PlainObject → Bool
is_of t o = bytes_eq o.kind (type_name t)

-- an object is of a type and sets an attribute
abbrev pub sets : ObjectType → Attribute → PlainObject → Bool
sets t a o = is_of t o && is_some (set_value t a o.tree)

abbrev pub checkable_sets : Attribute → PlainObject → Bool
checkable_sets a o = sets object.Host a o || sets object.Service a o

abbrev pub command_sets : Attribute → PlainObject → Bool
command_sets a o = sets object.CheckCommand a o || (sets object.NotificationCommand a o || sets object.EventCommand a o)

abbrev pub asks : Lack → PlainObject → Bool
asks lack.Environment = command_sets attribute.Env
asks lack.Timeout = command_sets attribute.Timeout
asks lack.CheckTimeout = checkable_sets attribute.CheckTimeout
asks lack.CommandEndpoint = checkable_sets attribute.CommandEndpoint
asks lack.EventCommand = checkable_sets attribute.EventCommand
asks lack.NotificationCommand = is_of object.NotificationCommand
asks lack.ScheduledDowntime = is_of object.ScheduledDowntime

-- those of the built-in library don't count
abbrev pub is_asking : Lack → PlainObject → Bool
is_asking l o = not o.builtin && asks l o

abbrev pub is_listed_of : ObjectType → PlainObject → Bool
is_listed_of t o = not o.builtin && is_of t o

-- Remarks.

-- of a number of things, if there are some
abbrev pub of_some : ℕ → Remark → List Remark
of_some n r = if nat_eq n 0 then [] else r ∷ []

-- what the program never does
abbrev pub lacks : List Lack
lacks = lack.Environment ∷ lack.Timeout ∷ lack.CheckTimeout ∷ lack.CommandEndpoint ∷ lack.EventCommand ∷ lack.NotificationCommand ∷ []

-- and what it does if downtimes recur
abbrev pub without_recur : Bool → List Lack
without_recur true = []
without_recur false = lack.ScheduledDowntime ∷ []

abbrev pub lack_remarked : List PlainObject → Lack → List Remark
lack_remarked os l = let n = length (filter (is_asking l) os) in of_some n (remark.Lack l n)

abbrev pub lacks_remarked : List Lack → List PlainObject → List Remark
lacks_remarked ls os = flat_map (lack_remarked os) ls

abbrev pub lack_remarks : Bool → List PlainObject → List Remark
lack_remarks recur os = lacks_remarked lacks os ++ lacks_remarked (without_recur recur) os

-- without a zone all days are those of UTC
abbrev pub zone_remarks_of : Option (List ℕ) → ℕ → List Remark
zone_remarks_of (Some z) n = []
zone_remarks_of None n = of_some n (remark.InUtc n)

abbrev pub zone_remarks : PlainSite → List Remark
zone_remarks s = zone_remarks_of s.zone (length (filter (is_listed_of object.TimePeriod) s.objects))

-- a rule at this place makes no object
abbrev pub idle_remark : List (List ℕ) → Place → Remark
idle_remark files p = remark.IdleRule (get_or files p.file []) p.line p.col

-- what is remarked of a site whose downtimes recur or don't, of which the rules at these places make no object
abbrev pub remarks_in : Bool → PlainSite → List Place → List Remark
remarks_in recur s idle = lack_remarks recur s.objects ++ (zone_remarks s ++ map (idle_remark s.files) idle)

abbrev pub remarks_of : Bool → Committed PlainSite → List Place → List Remark
remarks_of recur (site s) idle = remarks_in recur s idle
remarks_of recur (refused list) idle = []

-- Telling.

-- what was told, with more after it, if it is known
abbrev pub with_remarks : Option (List Remark) → List Remark → Option (List Remark)
with_remarks None new = None
with_remarks (Some old) new = Some (old ++ new)
