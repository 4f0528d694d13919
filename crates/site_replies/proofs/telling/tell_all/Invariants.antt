use Rattle.std.proofs.Common.{◌≡◌, drop}
use Rattle.site_replies.specs.Remarks.{with_remarks}
use Rattle.site_replies.proofs.telling.tell_all.Given as goal

-- what was told and the rest are all
abbrev pub invariant-loop-remark : goal.invariant-loop-remark
invariant-loop-remark g l = with_remarks (g.N.Remarks.remarked l.to) (drop l.remark-index l.remarks) ≡ with_remarks (g.N.Remarks.remarked l.fn.to) l.remarks
