-- The parts of the text are those of a state file.
use Rattle.site_model.specs.PlainSite.{site_view}
use Rattle.site_keep.specs.Slots.{told_of}
use Rattle.site_keep.proofs.PassLaws.{file_passed}
use Rattle.site_keep.proofs.in_order.take_file.Goals as goal

pub returns-clause-told : goal.returns-clause-told
returns-clause-told c =
    file_passed (site_view c.args.site.now) (told_of c.in_ok-slots.slots.items) c.args.reader.now c.open_object.new.reader c.take_key.new.reader c.take_checkables.new.reader c.in_ok-open_object.ensures c.in_ok-take_key.ensures
    c.in_ok-slots.ensures.told c.in_ok-take_version.ensures
