use Rattle.std.proofs.Common.{lit<}
use Rattle.site_query.proofs.PartLaws.{cut_parts, cut_shorter}
use Rattle.site_query.proofs.cutting.cut_word.Goals as goal

pub returns-clause-words : goal.returns-clause-words
returns-clause-words c = cut_parts 32 c.args.text.now c.split_once.result (c.split_once.ensures.byte (lit< tt) (λ w o h. h))

pub returns-clause-shorter : goal.returns-clause-shorter
returns-clause-shorter c = cut_shorter 32 c.args.text.now c.split_once.result (c.split_once.ensures.byte (lit< tt) (λ w o h. h))
