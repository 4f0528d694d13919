use Rattle.std.proofs.Common.{◌≡◌, [], sym, ◌∙◌, arith}
use Rattle.std.proofs.lemmas.Grind.{common_steps}
use Rattle.std.proofs.lemmas.List.{length-map}
use Rattle.dsl_syntax.specs.SyntaxView.{file_view}
use Rattle.site_conf.specs.Views.{state_view}
use Rattle.site_conf.proofs.ReadLaws.{read_once}
use Rattle.site_conf.proofs.walking.answer.Goals as goal

pub returns-then-is_empty-clause-whole : goal.returns-then-is_empty-clause-whole
returns-then-is_empty-clause-whole c = λ h. sym (length-map c.args.progress.trees.items file_view) ∙ h.sound.trees

pub returns-then-is_empty-clause-flagged : goal.returns-then-is_empty-clause-flagged
returns-then-is_empty-clause-flagged c = λ h. h.sound.library

pub returns-then-is_empty-clause-ordered : goal.returns-then-is_empty-clause-ordered
returns-then-is_empty-clause-ordered c =
    let clear : c.args.progress.diags.items ≡ [] = grind (arith, common_steps, c.is_empty.ensures, c.if-is_empty.true) in
    λ h. h.order clear

pub returns-then-is_empty-clause-reads : goal.returns-then-is_empty-clause-reads
returns-then-is_empty-clause-reads c = λ old new h r. read_once old new (state_view c.args.progress) h.sound r

pub returns-else-is_empty-clause-whole : goal.returns-else-is_empty-clause-whole
returns-else-is_empty-clause-whole c = λ h. h.sound.places

pub returns-else-is_empty-clause-flagged : goal.returns-else-is_empty-clause-flagged
returns-else-is_empty-clause-flagged c = λ h. tt

pub returns-else-is_empty-clause-ordered : goal.returns-else-is_empty-clause-ordered
returns-else-is_empty-clause-ordered c = λ h. tt

pub returns-else-is_empty-clause-reads : goal.returns-else-is_empty-clause-reads
returns-else-is_empty-clause-reads c = λ old new h r. (c.args.progress.library.items, read_once old new (state_view c.args.progress) h.sound r)
