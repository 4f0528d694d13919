-- One line is cut off the rest after the other.
use Rattle.std.proofs.Common.{◌≡◌, ◌++◌, ◌∷◌, [], ◌∙◌, ap, arith, length, rules}
use Rattle.std.proofs.lemmas.Bool.Decides.{nat_tests}
use Rattle.std.proofs.lemmas.List.{nil_from_length}
use Rattle.std.specs.List.{concat}
use Rattle.site_answers.proofs.Lines.{last_line, more_lines, no_line}
use Rattle.site_answers.proofs.query.lines_of.Goals as goal
use Rattle.site_answers.proofs.query.lines_of.Goals.{then-not-is_empty+in_ok-copy_of+in_ok-push-2, else-not-is_empty}

pub loop-line-preserved : goal.loop-line-preserved
loop-line-preserved c = (
  search rules,
  ap (λ ls. concat ls ++ c.in-Some.behind.now) (c.in_ok-push.ensures.ok ∙ ap (λ x. c.loop-line.lines ++ x ∷ []) c.in_ok-with_newline.ensures)
      ∙ more_lines c.loop-line.lines c.in-Some.line.now c.in-Some.behind.now c.loop-line.rest.now c.args.text.now c.in-Some.ensures.cut c.loop-line.invariant.1,
)

pub returns : goal.returns
returns c =
    elim c.if-not-is_empty.branch [
      | then-not-is_empty+in_ok-copy_of+in_ok-push-2 w ↦
          ap concat (w.lines-is ∙ w.in_ok-push-2.ensures.ok ∙ ap (λ x. c.loop-line.lines ++ x ∷ []) w.in_ok-copy_of.ensures)
          ∙ last_line c.loop-line.lines c.loop-line.rest.now c.args.text.now c.loop-line.invariant.1
      | else-not-is_empty w ↦
          let none : length c.loop-line.rest.now ≡ 0 = grind (arith, nat_tests, c.is_empty.ensures, w.if-not-is_empty.false) in
          ap concat w.lines-is ∙ no_line c.loop-line.lines c.loop-line.rest.now c.args.text.now (nil_from_length c.loop-line.rest.now none) c.loop-line.invariant.1
    ]
