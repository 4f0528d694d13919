-- The rows of attributes: no two attributes have one name, so a row of an attribute is found by the attribute itself.
use Rattle.std.proofs.Common.{◌≡◌, ◌<◌, ◌+◌, ℕ, List, [], ◌∷◌, Bool, true, false, cond, Option, Some, None, length, drop, get_or, refl, sym, ap, ◌∙◌}
use Rattle.std.proofs.lemmas.Bool.Decides.{not_from_Decides}
use Rattle.std.proofs.lemmas.List.{drop_more}
use Rattle.std.proofs.lemmas.Slice.Eq.{bytes_eq-Decides}
use Rattle.std.specs.Str.{bytes_eq}
use Rattle.object_types.specs.Names.{attribute_name}
use Rattle.object_types.specs.Schema.{row_among}
use Rattle.object_types.specs.declared.attribute.Attribute.{Attribute}
use Rattle.object_types.specs.declared.attribute.Attribute.TheVariants as attribute
use Rattle.object_types.specs.declared.value_kind.SchemaRow.{SchemaRow}

-- ---- which attribute has a name

abbrev all_attributes : List Attribute
all_attributes =
    attribute.ActionUrl ∷ attribute.Address ∷ attribute.Address6 ∷ attribute.Arguments ∷ attribute.Author ∷ attribute.CheckCommand ∷
    attribute.CheckInterval ∷ attribute.CheckPeriod ∷ attribute.CheckTimeout ∷ attribute.ChildHostName ∷ attribute.ChildOptions ∷ attribute.ChildServiceName ∷
    attribute.Command ∷ attribute.CommandEndpoint ∷ attribute.Comment ∷ attribute.DisableChecks ∷ attribute.DisableNotifications ∷ attribute.DisplayName ∷
    attribute.Duration ∷ attribute.Email ∷ attribute.EnableActiveChecks ∷ attribute.EnableEventHandler ∷ attribute.EnableFlapping ∷ attribute.EnableNotifications ∷
    attribute.EnablePassiveChecks ∷ attribute.EnablePerfdata ∷ attribute.Env ∷ attribute.EventCommand ∷ attribute.Excludes ∷ attribute.Fixed ∷
    attribute.FlappingThresholdHigh ∷ attribute.FlappingThresholdLow ∷ attribute.Groups ∷ attribute.HostName ∷ attribute.IconImage ∷ attribute.IconImageAlt ∷
    attribute.IgnoreSoftStates ∷ attribute.Includes ∷ attribute.Interval ∷ attribute.MaxCheckAttempts ∷ attribute.Name ∷ attribute.Notes ∷
    attribute.NotesUrl ∷ attribute.Pager ∷ attribute.ParentHostName ∷ attribute.ParentServiceName ∷ attribute.Period ∷ attribute.PreferIncludes ∷
    attribute.Ranges ∷ attribute.RedundancyGroup ∷ attribute.RetryInterval ∷ attribute.ServiceName ∷ attribute.States ∷ attribute.Timeout ∷
    attribute.Times ∷ attribute.Types ∷ attribute.UserGroups ∷ attribute.Users ∷ attribute.Vars ∷ attribute.Volatile ∷
    attribute.Zone ∷ []

abbrev attribute_among : List Attribute → List ℕ → Option Attribute
attribute_among [] name = None
attribute_among (a ∷ more) name = cond (bytes_eq name (attribute_name a)) (Some a) (attribute_among more name)

attribute_found : (a : Attribute) → attribute_among all_attributes (attribute_name a) ≡ Some a
attribute_found attribute.ActionUrl = refl
attribute_found attribute.Address = refl
attribute_found attribute.Address6 = refl
attribute_found attribute.Arguments = refl
attribute_found attribute.Author = refl
attribute_found attribute.CheckCommand = refl
attribute_found attribute.CheckInterval = refl
attribute_found attribute.CheckPeriod = refl
attribute_found attribute.CheckTimeout = refl
attribute_found attribute.ChildHostName = refl
attribute_found attribute.ChildOptions = refl
attribute_found attribute.ChildServiceName = refl
attribute_found attribute.Command = refl
attribute_found attribute.CommandEndpoint = refl
attribute_found attribute.Comment = refl
attribute_found attribute.DisableChecks = refl
attribute_found attribute.DisableNotifications = refl
attribute_found attribute.DisplayName = refl
attribute_found attribute.Duration = refl
attribute_found attribute.Email = refl
attribute_found attribute.EnableActiveChecks = refl
attribute_found attribute.EnableEventHandler = refl
attribute_found attribute.EnableFlapping = refl
attribute_found attribute.EnableNotifications = refl
attribute_found attribute.EnablePassiveChecks = refl
attribute_found attribute.EnablePerfdata = refl
attribute_found attribute.Env = refl
attribute_found attribute.EventCommand = refl
attribute_found attribute.Excludes = refl
attribute_found attribute.Fixed = refl
attribute_found attribute.FlappingThresholdHigh = refl
attribute_found attribute.FlappingThresholdLow = refl
attribute_found attribute.Groups = refl
attribute_found attribute.HostName = refl
attribute_found attribute.IconImage = refl
attribute_found attribute.IconImageAlt = refl
attribute_found attribute.IgnoreSoftStates = refl
attribute_found attribute.Includes = refl
attribute_found attribute.Interval = refl
attribute_found attribute.MaxCheckAttempts = refl
attribute_found attribute.Name = refl
attribute_found attribute.Notes = refl
attribute_found attribute.NotesUrl = refl
attribute_found attribute.Pager = refl
attribute_found attribute.ParentHostName = refl
attribute_found attribute.ParentServiceName = refl
attribute_found attribute.Period = refl
attribute_found attribute.PreferIncludes = refl
attribute_found attribute.Ranges = refl
attribute_found attribute.RedundancyGroup = refl
attribute_found attribute.RetryInterval = refl
attribute_found attribute.ServiceName = refl
attribute_found attribute.States = refl
attribute_found attribute.Timeout = refl
attribute_found attribute.Times = refl
attribute_found attribute.Types = refl
attribute_found attribute.UserGroups = refl
attribute_found attribute.Users = refl
attribute_found attribute.Vars = refl
attribute_found attribute.Volatile = refl
attribute_found attribute.Zone = refl

same_attribute : (a b : Attribute) → attribute_name a ≡ attribute_name b → a ≡ b
same_attribute a b e = let is : Some a ≡ Some b = sym (attribute_found a) ∙ ap (attribute_among all_attributes) e ∙ attribute_found b in cc

other_name : (a b : Attribute) (t : Bool) → bytes_eq (attribute_name a) (attribute_name b) ≡ t → (b ≡ a → ⊥) → t ≡ false
other_name a b true e apart = absurd (apart (sym (same_attribute a b ((bytes_eq-Decides (attribute_name a) (attribute_name b)).0 e))))
other_name a b false e apart = refl

own_name : (a b : Attribute) (t : Bool) → bytes_eq (attribute_name a) (attribute_name b) ≡ t → b ≡ a → t ≡ true
own_name a b true e same = refl
own_name a b false e same = absurd (not_from_Decides (bytes_eq (attribute_name a) (attribute_name b)) (bytes_eq-Decides (attribute_name a) (attribute_name b)) e (ap attribute_name (sym same)))

-- ---- the first row of an attribute

pub row_here : (rows : List SchemaRow) (i : ℕ) (d : SchemaRow) (a : Attribute) → i < length rows → (get_or rows i d).attribute ≡ a → row_among (drop i rows) (attribute_name a) ≡ Some (get_or rows i d)
row_here rows i d a inside same =
    ap (λ rs. row_among rs (attribute_name a)) (drop_more rows i d inside)
    ∙ ap (λ t. cond t (Some (get_or rows i d)) (row_among (drop (i + 1) rows) (attribute_name a))) (own_name a (get_or rows i d).attribute _ refl same)

pub row_later : (rows : List SchemaRow) (i : ℕ) (d : SchemaRow) (a : Attribute) → i < length rows → ((get_or rows i d).attribute ≡ a → ⊥) → row_among (drop i rows) (attribute_name a) ≡ row_among (drop (i + 1) rows) (attribute_name a)
row_later rows i d a inside apart =
    ap (λ rs. row_among rs (attribute_name a)) (drop_more rows i d inside)
    ∙ ap (λ t. cond t (Some (get_or rows i d)) (row_among (drop (i + 1) rows) (attribute_name a))) (other_name a (get_or rows i d).attribute _ refl apart)
