-- The plain values of what a commit works on.
use Rattle.std.specs.Prelude.{List, map}
use Rattle.site_model.specs.PlainSite.{object_view}
use Rattle.site_model.specs.declared.object.Object.{Object}
use Rattle.eval_work.specs.Works.{plain_item}
use Rattle.eval_work.specs.declared.item.Item.{Item}
use Rattle.commit_meaning.specs.Worlds.{World}

-- the world of the objects that were committed, with the items of which the groups among them were made
abbrev pub plain_world : List Object → List Item → World
plain_world os gs = record { objects = map object_view os; groups = map plain_item gs }
