use Rattle.std.proofs.Common.{◌≡◌, ◌++◌, map, drop}
use Rattle.site_replies.specs.Remarks.{idle_remark}
use Rattle.site_replies.proofs.remarks.push_idle.Given as goal

-- what stands and the remarks of the rest are all
abbrev pub invariant-loop-place : goal.invariant-loop-place
invariant-loop-place l = l.remarks.items ++ map (idle_remark l.files) (drop l.place-index l.idle) ≡ l.fn.remarks.items ++ map (idle_remark l.files) l.idle
