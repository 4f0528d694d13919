use Rattle.std.proofs.Common.{◌≡◌, IfOk, sym, subst}
use Rattle.site_query.proofs.LineLaws.{line_by, line_lacks}
use Rattle.site_query.proofs.lines.read_line.Goals as goal

pub returns-in-Some : goal.returns-in-Some
returns-in-Some c =
    subst (λ x. IfOk c.read_behind.result (λ l. l ≡ x)) (sym (line_by c.args.line.now c.in-Some.word.now c.in-Some.rest.now c.in-Some.ensures.words)) c.read_behind.ensures

pub returns-in-None : goal.returns-in-None
returns-in-None c = line_lacks c.args.line.now c.in-None.ensures.words
