-- One line after the other.
use Rattle.std.proofs.Common.{◌≡◌, ◌<◌, None, Some, length, refl, sym, subst, arith}
use Rattle.json.specs.Json.{after_end_array}
use Rattle.log_text.specs.SiteNames.{names_view}
use Rattle.site_keep.proofs.PassLaws.{begin_lines, line_passed, line_shorter, lines_passed, LinesSoFar}
use Rattle.site_keep.proofs.lines.take_lines.Goals as goal

pub each_line-init : goal.each_line-init
each_line-init c = begin_lines (names_view c.args.names.now) c.open_array.new.reader None c.new.result.items refl c.new.ensures.items

pub each_line-preserved : goal.each_line-preserved
each_line-preserved c =
    let l = c.each_line in
    let names = names_view c.args.names.now in
    let start = c.open_array.new.reader in
    let going : c.take_end_array.new.self ≡ l.reader = grind arith in
    line_passed names start c.take_end_array.new.self c.take_line.new.reader l.lines.place c.take_line.new.lines.place l.lines.entries.items c.take_line.new.lines.entries.items
    (subst (λ ts. LinesSoFar names start ts l.lines.place l.lines.entries.items) (sym going) l.invariant) c.in_ok-take_line.ensures

pub returns : goal.returns
returns c =
    let l = c.each_line in
    let end : after_end_array l.reader ≡ Some c.take_end_array.new.self = grind arith in
    lines_passed (names_view c.args.names.now) c.args.reader.now c.open_array.new.reader l.reader c.take_end_array.new.self l.lines.place l.lines.entries.items c.in_ok-open_array.ensures l.invariant end
