-- One checkable after the other.
use Rattle.std.proofs.Common.{◌≡◌, length, arith, rules}
use Rattle.std.specs.Vec.Iter.{into_iter_items}
use Rattle.site_model.specs.PlainSite.{site_view}
use Rattle.kept_runs.proofs.Gathered.{all_gathered, begin, next_printable, next_within, one_more}
use Rattle.kept_runs.proofs.gathering.gather.Goals as goal

pub loop-segment-init : goal.loop-segment-init
loop-segment-init c =
    begin (site_view c.args.site.now) c.args.lines.now.items c.args.segments (into_iter_items c.into_iter-segment-iterator.result) (search rules) c.requires.round c.requires.printable

pub add_segment-requires-clause-within : goal.add_segment-requires-clause-within
add_segment-requires-clause-within c =
    next_within (site_view c.args.site.now) c.args.lines.now.items c.args.segments c.loop-segment.lines.items (into_iter_items c.loop-segment.segment-iterator) (into_iter_items c.next.new.self) c.in-Some.segment c.in-Some.ensures.steps.0
    c.loop-segment.invariant

pub add_segment-requires-clause-printable : goal.add_segment-requires-clause-printable
add_segment-requires-clause-printable c =
    next_printable (site_view c.args.site.now) c.args.lines.now.items c.args.segments c.loop-segment.lines.items (into_iter_items c.loop-segment.segment-iterator) (into_iter_items c.next.new.self) c.in-Some.segment c.in-Some.ensures.steps.0
    c.loop-segment.invariant

pub loop-segment-preserved : goal.loop-segment-preserved
loop-segment-preserved c =
    one_more (site_view c.args.site.now) c.args.lines.now.items c.args.segments c.loop-segment.lines.items (into_iter_items c.loop-segment.segment-iterator) (into_iter_items c.next.new.self) c.in-Some.segment c.in-Some.ensures.steps.0
    c.loop-segment.invariant c.add_segment.new.lines.items c.in_ok-add_segment.ensures

pub returns : goal.returns
returns c =
    let l = c.loop-segment in
    let none : length (into_iter_items l.segment-iterator) ≡ 0 = omega (arith, c.in-None.ensures.steps.0, l.segment-iterator.rest.ok.0) in
    all_gathered (site_view c.args.site.now) c.args.lines.now.items c.args.segments l.lines.items (into_iter_items l.segment-iterator) none l.invariant
