use Rattle.std.proofs.Common.{lit<}
use Rattle.event_text.proofs.CutLaws.{byte_split}
use Rattle.event_text.proofs.cutting.cut_closing.Goals as goal

pub returns : goal.returns
returns c = byte_split 93 c.args.text.now c.split_once.result (c.split_once.ensures.byte (lit< tt) (λ w o h. h))
