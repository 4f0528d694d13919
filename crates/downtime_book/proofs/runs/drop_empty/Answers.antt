-- A run without a downtime adds nothing to those of all.
use Rattle.std.proofs.Common.{◌∙◌, ap, rules, tests}
use Rattle.std.proofs.lemmas.Fn.{filter_same}
use Rattle.downtime_book.specs.Contents.{together}
use Rattle.downtime_book.proofs.Together.{is_full, together-full}
use Rattle.downtime_book.proofs.runs.drop_empty.Goals as goal

pub returns-then-is_empty : goal.returns-then-is_empty
returns-then-is_empty c =
    ap together (c.shrink_to_fit.ensures.items ∙ filter_same _ is_full _ (λ x b f' k. search (rules, tests)) _ _ c.retain.ensures.filtered) ∙ together-full c.args.runs.now.items

pub returns-else-is_empty : goal.returns-else-is_empty
returns-else-is_empty c =
    ap together (filter_same _ is_full _ (λ x b f' k. search (rules, tests)) _ _ c.retain.ensures.filtered) ∙ together-full c.args.runs.now.items
