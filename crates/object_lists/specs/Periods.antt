-- Time periods, with the spans of those that they include and exclude.
use Rattle.std.specs.Prelude.{ℕ, List, Option, map, slice_get}
use Rattle.std.specs.List.{flat_map}
use Rattle.std.specs.Option.{option_and_then, option_to_list}
use Rattle.site_base.specs.declared.day_span.DaySpan.{DaySpan}
use Rattle.site_base.specs.declared.period_spec.PeriodSpec.{PeriodSpec}
use Rattle.site_model.specs.Names.{place_of}
use Rattle.site_model.specs.PlainSite.{PlainObject}
use Rattle.object_types.specs.declared.attribute.Attribute.TheVariants as attribute
use Rattle.object_types.specs.declared.object_type.ObjectType.TheVariants as object
use Rattle.object_values.specs.Values.{flag_at, names_at, spans_at}
use Rattle.conf_check.specs.Keys.{name_of}
use Rattle.object_lists.specs.Listed.{listed}

-- the spans that a period sets itself
abbrev pub own_spans : PlainObject → List DaySpan
own_spans p = spans_at object.TimePeriod attribute.Ranges p.tree

-- the spans that the periods of these names set, of which this is one name
abbrev pub spans_under : List (List ℕ) → List (List DaySpan) → List ℕ → Option (List DaySpan)
spans_under names own name = option_and_then (slice_get own) (place_of name names)

abbrev pub spans_list : List (List ℕ) → List (List DaySpan) → List ℕ → List (List DaySpan)
spans_list names own name = option_to_list (spans_under names own name)

-- those of the periods of several names, in their order
abbrev pub spans_named : List (List ℕ) → List (List DaySpan) → List (List ℕ) → List (List DaySpan)
spans_named names own wanted = flat_map (spans_list names own) wanted

-- a period, where the periods of these names set these spans
abbrev pub period_of : List (List ℕ) → List (List DaySpan) → PlainObject → PeriodSpec
period_of names own p = record {
  own = own_spans p;
  includes = spans_named names own (names_at object.TimePeriod attribute.Includes p.tree);
  excludes = spans_named names own (names_at object.TimePeriod attribute.Excludes p.tree);
  prefer_includes = flag_at object.TimePeriod attribute.PreferIncludes p.tree;
}

-- of periods that all stand among each other
abbrev pub periods_among : List PlainObject → List PeriodSpec
periods_among ps = map (period_of (map name_of ps) (map own_spans ps)) ps

-- the periods of a site
unfoldable pub periods : List PlainObject → List PeriodSpec
periods os = periods_among (listed object.TimePeriod os)
