-- The relation of ranges and the calculation are one.
use Rattle.site_base.specs.View.{view}
use Rattle.time_range.proofs.RangeLemmas.{gives_found, gives_only, gives_refused, gives_bad, gives_dict}
use Rattle.time_range.proofs.ranges.read_ranges.Goals as goal

pub returns-in-Dict-clause-found : goal.returns-in-Dict-clause-found
returns-in-Dict-clause-found c =
    gives_found c.ranges_of.result (view c.args.tree.now) c.requires (gives_dict c.ranges_of.result c.args.tree.now c.in-Dict.pairs c.deref.result.now c.in-Dict.is c.deref.ensures.value c.ranges_of.ensures)

pub returns-in-Dict-clause-only : goal.returns-in-Dict-clause-only
returns-in-Dict-clause-only c =
    gives_only c.ranges_of.result (view c.args.tree.now) (gives_dict c.ranges_of.result c.args.tree.now c.in-Dict.pairs c.deref.result.now c.in-Dict.is c.deref.ensures.value c.ranges_of.ensures)

pub returns-in-Dict-clause-refused : goal.returns-in-Dict-clause-refused
returns-in-Dict-clause-refused c =
    gives_refused c.ranges_of.result (view c.args.tree.now) c.requires (gives_dict c.ranges_of.result c.args.tree.now c.in-Dict.pairs c.deref.result.now c.in-Dict.is c.deref.ensures.value c.ranges_of.ensures)

pub returns-in-Dict-clause-bad : goal.returns-in-Dict-clause-bad
returns-in-Dict-clause-bad c =
    gives_bad c.ranges_of.result (view c.args.tree.now) (gives_dict c.ranges_of.result c.args.tree.now c.in-Dict.pairs c.deref.result.now c.in-Dict.is c.deref.ensures.value c.ranges_of.ensures)
