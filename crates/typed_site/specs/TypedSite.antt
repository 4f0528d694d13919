-- The typed site of all objects of a configuration.
use Rattle.std.specs.Prelude.{ℕ, List, Option, map}
use Rattle.site_base.specs.Data.{Data}
use Rattle.site_base.specs.View.{view}
use Rattle.site_model.specs.PlainSite.{PlainObject, PlainSite}
use Rattle.object_lists.specs.Periods.{periods}
use Rattle.object_lists.specs.Users.{users}
use Rattle.typed_site.specs.Checks.{check_name, checkables, commands}
use Rattle.typed_site.specs.Depends.{depends}
use Rattle.typed_site.specs.Notifies.{notifies}
use Rattle.typed_site.specs.declared.settings.Settings.{Settings}

-- `Settings` with the plain value of its tree
pub record PlainSettings : Type 0 where
  pub vars : Data
  pub zone : Option (List ℕ)
  pub max_orders : ℕ

abbrev pub settings_view : Settings → PlainSettings
settings_view s = record { vars = view s.vars; zone = s.zone; max_orders = s.max_orders }

-- The site of these objects, which stand in these files. Each list stands in committed order, and names stand for places in the lists. What no
-- name stands for is left out, and so is each object but the first of one type and name; nothing is, once duplicates and
-- references were checked.
unfoldable pub typed_site : List (List ℕ) → PlainSettings → List PlainObject → PlainSite
typed_site files settings os = record {
  files = files;
  objects = os;
  checkables = checkables os;
  depends = depends os;
  notifies = notifies os;
  users = users os;
  commands = commands os;
  periods = periods os;
  names = map check_name (checkables os);
  vars = settings.vars;
  zone = settings.zone;
  max_orders = settings.max_orders;
}
