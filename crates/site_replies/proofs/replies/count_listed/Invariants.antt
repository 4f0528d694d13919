use Rattle.std.proofs.Common.{◌≡◌, ◌+◌, ◌≤◌, length, map, drop}
use Rattle.site_model.specs.PlainSite.{object_view}
use Rattle.site_replies.specs.Replies.{listed}
use Rattle.site_replies.proofs.replies.count_listed.Given as goal

-- how many were counted, and how many of the rest are listed
abbrev pub invariant-loop-object : goal.invariant-loop-object
invariant-loop-object l = (l.count + length (listed (map object_view (drop l.object-index l.objects))) ≡ length (listed (map object_view l.objects))) × (l.count ≤ l.object-index)
