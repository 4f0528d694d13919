-- Which type has a name, both ways.
use Rattle.std.proofs.Common.{◌≡◌, ℕ, List, [], ◌∷◌, Bool, true, false, cond, Option, Some, None, refl, sym, ap, ◌∙◌}
use Rattle.std.proofs.lemmas.Slice.Eq.{bytes_eq-Decides}
use Rattle.std.specs.Str.{bytes_eq}
use Rattle.object_types.specs.Names.{type_name, type_among, type_named, all_types}
use Rattle.object_types.specs.declared.object_type.ObjectType.{ObjectType}
use Rattle.object_types.specs.declared.object_type.ObjectType.TheVariants as object

among_sound : (ts : List ObjectType) (name : List ℕ) (t : ObjectType) → type_among ts name ≡ Some t → name ≡ type_name t
among_sound [] name t e = cc
among_sound (u ∷ ts) name t e = by (λ e. among_sound ts name t e) (bytes_eq name (type_name u)) refl e
  where
    by : (type_among ts name ≡ Some t → name ≡ type_name t) → (b : Bool) → bytes_eq name (type_name u) ≡ b → cond b (Some u) (type_among ts name) ≡ Some t → name ≡ type_name t
    by more true same e = let is : u ≡ t = cc in (bytes_eq-Decides name (type_name u)).0 same ∙ ap type_name is
    by more false same e = more e

-- a type that is found has the name
pub type_sound : (name : List ℕ) (t : ObjectType) → type_named name ≡ Some t → name ≡ type_name t
unfolding type_named
type_sound name t e = among_sound all_types name t e

-- and each type is found
pub type_found : (t : ObjectType) → type_named (type_name t) ≡ Some t
unfolding type_named
type_found object.Host = refl
type_found object.Service = refl
type_found object.HostGroup = refl
type_found object.ServiceGroup = refl
type_found object.UserGroup = refl
type_found object.CheckCommand = refl
type_found object.NotificationCommand = refl
type_found object.EventCommand = refl
type_found object.User = refl
type_found object.Notification = refl
type_found object.Dependency = refl
type_found object.ScheduledDowntime = refl
type_found object.TimePeriod = refl
type_found object.Endpoint = refl
type_found object.Zone = refl
type_found object.CheckerComponent = refl
type_found object.NotificationComponent = refl
type_found object.FileLogger = refl
type_found object.SyslogLogger = refl
type_found object.ApiListener = refl
type_found object.ApiUser = refl
type_found object.IcingaApplication = refl

pub type_again : (name : List ℕ) (t : ObjectType) → type_name t ≡ name → type_named name ≡ Some t
type_again name t e = ap type_named (sym e) ∙ type_found t
