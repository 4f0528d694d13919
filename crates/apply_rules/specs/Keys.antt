-- The names of the attributes that instances have from the start.
use Rattle.std.specs.Prelude.{◌≡◌}
use Rattle.object_types.specs.Names.{attribute_name}
use Rattle.object_types.specs.declared.attribute.Attribute.TheVariants as attribute
use Rattle.apply_rules.specs.declared.preset_keys.PresetKeys.{PresetKeys}

pub record AreKeys (k : PresetKeys) : Type 0 where
  pub name : k.name ≡ attribute_name attribute.Name
  pub host_name : k.host_name ≡ attribute_name attribute.HostName
  pub service_name : k.service_name ≡ attribute_name attribute.ServiceName
  pub child_host_name : k.child_host_name ≡ attribute_name attribute.ChildHostName
  pub child_service_name : k.child_service_name ≡ attribute_name attribute.ChildServiceName
  pub parent_host_name : k.parent_host_name ≡ attribute_name attribute.ParentHostName
