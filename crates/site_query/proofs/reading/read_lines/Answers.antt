use Rattle.std.proofs.Common.{◌≡◌, ◌<◌, length, arith, rules}
use Rattle.std.proofs.lemmas.Bool.Decides.{nat_tests}
use Rattle.std.proofs.lemmas.List.{nil_from_length}
use Rattle.site_query.specs.Reading.{lines_of, lines_read}
use Rattle.site_query.proofs.LoopLaws.{line_more, line_bad, line_open, line_end}
use Rattle.site_query.proofs.reading.read_lines.Goals as goal

pub returns-in_default : goal.returns-in_default
returns-in_default c =
    let some : 0 < length c.loop-rest.rest.now = grind (arith, nat_tests, c.is_empty.ensures, c.loop-rest-test.true) in
    line_open c.loop-rest.query c.loop-rest.number c.saturating_add-number.result c.loop-rest.rest.now (lines_read c.args.start 1 (lines_of c.args.text.now)) c.in_default.ensures.lines some c.saturating_add-number.ensures c.loop-rest.invariant.1

pub returns-then-not-branch : goal.returns-then-not-branch
returns-then-not-branch c =
    let lacks = rw c.if-not-branch.true at c.in_ok-take_line.ensures in
    line_bad c.loop-rest.query c.loop-rest.number c.saturating_add-number.result c.loop-rest.rest.now c.in-Some.line.now c.in-Some.behind.now (lines_read c.args.start 1 (lines_of c.args.text.now)) c.in-Some.ensures.lines lacks c.saturating_add-number.ensures
    c.loop-rest.invariant.1

pub loop-rest-preserved : goal.loop-rest-preserved
loop-rest-preserved c =
    let added = rw c.if-not-branch.false at c.in_ok-take_line.ensures in (
      search rules,
      line_more c.loop-rest.query c.take_line.new.query c.loop-rest.number c.saturating_add-number.result c.loop-rest.rest.now c.in-Some.line.now c.in-Some.behind.now (lines_read c.args.start 1 (lines_of c.args.text.now)) c.in-Some.ensures.lines added c.saturating_add-number.ensures
          c.loop-rest.invariant.1,
    )

pub returns : goal.returns
returns c =
    let none : length c.loop-rest.rest.now ≡ 0 = grind (arith, nat_tests, c.is_empty.ensures, c.loop-rest-test.false) in
    line_end c.loop-rest.query c.loop-rest.number c.loop-rest.rest.now (lines_read c.args.start 1 (lines_of c.args.text.now)) (nil_from_length c.loop-rest.rest.now none) c.loop-rest.invariant.1
