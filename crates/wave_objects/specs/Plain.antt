-- The plain values of what a wave is made of.
use Rattle.std.specs.Prelude.{Vec}
use Rattle.std.specs.declared.alloc.Global.{Global}
use Rattle.dsl_load.specs.declared.load_parts.LoadParts.{LoadParts}
use Rattle.eval_work.specs.declared.item.Item.{Item}

-- what a load gives, if these are its items
abbrev pub with_items : Vec Item Global → LoadParts → LoadParts
with_items is p = record p { items = is }
