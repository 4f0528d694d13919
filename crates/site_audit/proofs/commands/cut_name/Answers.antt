use Rattle.std.proofs.Common.{lit<}
use Rattle.event_text.proofs.CutLaws.{byte_split}
use Rattle.site_audit.proofs.commands.cut_name.Goals as goal

pub returns : goal.returns
returns c = byte_split 33 c.args.name.now c.split_once.result (c.split_once.ensures.byte (lit< tt) (λ w o h. h))
