use Rattle.std.proofs.Common.{IsUtf8, subst}
use Rattle.written_logs.proofs.texts.is_text.Goals as goal

pub returns : goal.returns
returns c = subst IsUtf8 c.as_str-text.ensures c.as_str-text.utf8
