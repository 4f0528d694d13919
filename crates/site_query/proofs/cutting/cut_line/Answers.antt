use Rattle.std.proofs.Common.{lit<}
use Rattle.site_query.proofs.PartLaws.{cut_parts, cut_shorter}
use Rattle.site_query.proofs.cutting.cut_line.Goals as goal

pub returns-clause-lines : goal.returns-clause-lines
returns-clause-lines c = cut_parts 10 c.args.text.now c.split_once.result (c.split_once.ensures.byte (lit< tt) (λ w o h. h))

pub returns-clause-shorter : goal.returns-clause-shorter
returns-clause-shorter c = cut_shorter 10 c.args.text.now c.split_once.result (c.split_once.ensures.byte (lit< tt) (λ w o h. h))
