-- The line is that of the entry which was added.
use Rattle.site_keep.proofs.lines.take_line.Goals as goal

pub returns : goal.returns
returns c = record {
  line = c.in_ok-line.line.now;
  place = c.in_ok-checkable.checkable;
  entry = c.in_ok-checkable.entry;
  tokens = c.in_ok-line.ensures;
  read = c.in_ok-checkable.ensures;
  same = c.in_ok-add.ensures.same;
  known = c.in_ok-add.ensures.place;
  added = c.in_ok-add.ensures.entries;
}
