-- The parts of the object are those of a checkable.
use Rattle.std.proofs.Common.{arith}
use Rattle.log_text.specs.SiteNames.{names_view}
use Rattle.site_model.specs.PlainSite.{site_view}
use Rattle.site_keep.specs.Slots.{told_of}
use Rattle.site_keep.proofs.PassLaws.{parts_passed}
use Rattle.site_keep.proofs.in_order.take_checkable.Goals as goal

pub restore_lines-requires-clause-place : goal.restore_lines-requires-clause-place
restore_lines-requires-clause-place c = omega (arith, c.in_ok-place.ensures.within, c.requires.named)

pub returns-clause-told : goal.returns-clause-told
returns-clause-told c =
    parts_passed (site_view c.args.site.now) (names_view c.args.names.now) (told_of c.args.slots.now.items) (told_of c.restore_lines.new.slots.items) c.in_ok-lines.lines.place c.in_ok-lines.lines.entries.items c.in_ok-place.place
    c.args.reader.now c.open_object.new.reader c.take_key.new.reader c.take_lines.new.reader c.take_name.new.reader
    c.requires.names c.in_ok-open_object.ensures c.in_ok-take_key.ensures c.in_ok-lines.ensures c.in_ok-place.ensures c.in_ok-restore_lines.ensures.own c.in_ok-restore_lines.ensures.told
