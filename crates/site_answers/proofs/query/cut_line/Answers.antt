use Rattle.std.proofs.Common.{lit<}
use Rattle.site_answers.proofs.Lines.{cut_once, cut_shorter}
use Rattle.site_answers.proofs.query.cut_line.Goals as goal

pub returns-clause-cut : goal.returns-clause-cut
returns-clause-cut c = cut_once 10 c.args.text.now c.split_once.result (c.split_once.ensures.byte (lit< tt) (λ w o h. h))

pub returns-clause-shorter : goal.returns-clause-shorter
returns-clause-shorter c = cut_shorter 10 c.args.text.now c.split_once.result (c.split_once.ensures.byte (lit< tt) (λ w o h. h))
