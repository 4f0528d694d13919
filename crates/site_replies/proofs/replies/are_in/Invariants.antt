use Rattle.std.proofs.Common.{drop, length}
use Rattle.site_conf.specs.Sound.{AreIn}
use Rattle.site_replies.proofs.replies.are_in.Given as goal

abbrev pub invariant-loop-diag : goal.invariant-loop-diag
invariant-loop-diag l = AreIn (length l.files) (drop l.diag-index l.list) → AreIn (length l.files) l.list
