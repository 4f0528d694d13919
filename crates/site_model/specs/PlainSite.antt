-- The plain value of a site: what clauses speak of in place of a `Site`, whose trees have no equality.
use Rattle.std.specs.Prelude.{ℕ, Bool, true, false, List, [], Option, None, map}
use Rattle.std.specs.Arc.{arc_value}
use Rattle.site_base.specs.Data.{Data, null}
use Rattle.site_base.specs.View.{view}
use Rattle.site_base.specs.declared.item_no.ItemNo.{ItemNo}
use Rattle.site_base.specs.declared.period_spec.PeriodSpec.{PeriodSpec}
use Rattle.site_base.specs.declared.place.Place.{Place}
use Rattle.site_model.specs.declared.check_spec.CheckSpec.{CheckSpec}
use Rattle.site_model.specs.declared.command_spec.CommandSpec.{CommandSpec}
use Rattle.site_model.specs.declared.depend_spec.DependSpec.{DependSpec}
use Rattle.site_model.specs.declared.notify_spec.NotifySpec.{NotifySpec}
use Rattle.site_model.specs.declared.object.Object.{Object}
use Rattle.site_model.specs.declared.site.Site.{Site}
use Rattle.site_model.specs.declared.user_spec.UserSpec.{UserSpec}

-- an `Object` with the plain value of its tree
pub record PlainObject : Type 0 where
  pub kind : List ℕ
  pub name : List ℕ
  pub place : Place
  pub number : ItemNo
  pub builtin : Bool
  pub tree : Data

abbrev pub object_view : Object → PlainObject
object_view o = record {
  kind = o.kind;
  name = o.name;
  place = o.place;
  number = o.number;
  builtin = o.builtin;
  tree = view (arc_value o.tree);
}

-- a `CheckSpec` with the plain value of its tree
pub record PlainCheck : Type 0 where
  pub name : List ℕ
  pub host : Option ℕ
  pub command : ℕ
  pub max : ℕ
  pub check_secs : ℕ
  pub retry_secs : ℕ
  pub period : Option ℕ
  pub active : Bool
  pub passive : Bool
  pub notify : Bool
  pub volatile : Bool
  pub flapping : Bool
  pub low : ℕ
  pub high : ℕ
  pub tree : Data

abbrev pub check_view : CheckSpec → PlainCheck
check_view c = record {
  name = c.name;
  host = c.host;
  command = c.command;
  max = c.max;
  check_secs = c.check_secs;
  retry_secs = c.retry_secs;
  period = c.period;
  active = c.active;
  passive = c.passive;
  notify = c.notify;
  volatile = c.volatile;
  flapping = c.flapping;
  low = c.low;
  high = c.high;
  tree = view (arc_value c.tree);
}

-- a host, or a service of the host of this index, that sets nothing
abbrev pub plain_check : List ℕ → Option ℕ → PlainCheck
plain_check name host = record {
  name = name;
  host = host;
  command = 0;
  max = 3;
  check_secs = 300;
  retry_secs = 60;
  period = None;
  active = true;
  passive = true;
  notify = true;
  volatile = false;
  flapping = false;
  low = 25000;
  high = 30000;
  tree = null;
}

-- a `CommandSpec` with the plain value of its tree
pub record PlainCommand : Type 0 where
  pub name : List ℕ
  pub tree : Data

abbrev pub command_view : CommandSpec → PlainCommand
command_view c = record { name = c.name; tree = view (arc_value c.tree) }

-- a `Site` with the plain values of its trees
pub record PlainSite : Type 0 where
  pub files : List (List ℕ)
  pub objects : List PlainObject
  pub checkables : List PlainCheck
  pub depends : List DependSpec
  pub notifies : List NotifySpec
  pub users : List UserSpec
  pub commands : List PlainCommand
  pub periods : List PeriodSpec
  pub names : List (List ℕ)
  pub vars : Data
  pub zone : Option (List ℕ)
  pub max_orders : ℕ

abbrev pub site_view : Site → PlainSite
site_view s = record {
  files = s.files;
  objects = map object_view s.objects;
  checkables = map check_view s.checkables;
  depends = s.depends;
  notifies = s.notifies;
  users = s.users;
  commands = map command_view s.commands;
  periods = s.periods;
  names = s.names;
  vars = view s.vars;
  zone = s.zone;
  max_orders = s.max_orders;
}

-- a site of these checkables and of nothing else
abbrev pub plain_site : List PlainCheck → List (List ℕ) → PlainSite
plain_site checkables names = record {
  files = [];
  objects = [];
  checkables = checkables;
  depends = [];
  notifies = [];
  users = [];
  commands = [];
  periods = [];
  names = names;
  vars = null;
  zone = None;
  max_orders = 512;
}

-- the full names of the checkables, in their order
abbrev pub full_names : PlainSite → List (List ℕ)
full_names s = map (λ c. c.name) s.checkables
