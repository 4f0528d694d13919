-- Where the macros of a checkable's command are looked up.
use Rattle.std.specs.Prelude.{ℕ, List, Option, Some, None, codes, slice_get}
use Rattle.site_base.specs.Data.{Data, null, Pairs, no_pairs}
use Rattle.site_base.specs.View.{pairs_view}
use Rattle.site_model.specs.PlainSite.{PlainSite, PlainCheck, PlainCommand}
use Rattle.command_macros.specs.Lookups as lookups
use Rattle.command_macros.specs.Lookups.{pairs_in, pairs_of, value_at}
use Rattle.command_macros.specs.declared.scope.Scope.{Scope}
use Rattle.command_macros.specs.declared.scope.Source.{Source}

abbrev pub no_object : lookups.Source
no_object = record { vars = no_pairs; attributes = no_pairs }

-- an object with these attributes
abbrev pub object_of : Pairs → lookups.Source
object_of ps = record { vars = pairs_of (value_at (codes "vars") ps); attributes = ps }

abbrev pub checkable_object : Option PlainCheck → lookups.Source
checkable_object None = no_object
checkable_object (Some c) = object_of (pairs_in c.tree)

abbrev pub command_object : Option PlainCommand → lookups.Source
command_object None = no_object
command_object (Some c) = object_of (pairs_in c.tree)

-- a service is one with a host
abbrev pub service_of : PlainCheck → Option ℕ → lookups.Source
service_of c None = no_object
service_of c (Some host) = object_of (pairs_in c.tree)

abbrev pub host_of : PlainSite → PlainCheck → Option ℕ → lookups.Source
host_of s c None = object_of (pairs_in c.tree)
host_of s c (Some host) = checkable_object (slice_get s.checkables host)

abbrev pub scope_of : PlainSite → PlainCheck → lookups.Scope
scope_of s c = record {
  service = service_of c c.host;
  host = host_of s c c.host;
  command = command_object (slice_get s.commands c.command);
  globals = pairs_in s.vars;
}

-- The same of what the code lends.
abbrev pub source_view : Source → lookups.Source
source_view o = record { vars = pairs_view o.vars.now; attributes = pairs_view o.attributes.now }

abbrev pub scope_view : Scope → lookups.Scope
scope_view s = record {
  service = source_view s.service;
  host = source_view s.host;
  command = source_view s.command;
  globals = pairs_view s.globals.now;
}
