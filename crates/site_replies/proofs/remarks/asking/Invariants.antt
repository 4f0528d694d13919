use Rattle.std.proofs.Common.{◌≡◌, ◌+◌, ◌≤◌, length, map, drop}
use Rattle.std.specs.List.{filter}
use Rattle.site_model.specs.PlainSite.{object_view}
use Rattle.site_replies.specs.Remarks.{is_asking}
use Rattle.site_replies.proofs.remarks.asking.Given as goal

-- how many were counted, and how many of the rest ask
abbrev pub invariant-loop-object : goal.invariant-loop-object
invariant-loop-object l =
    (l.count + length (filter (is_asking l.lack) (map object_view (drop l.object-index l.objects))) ≡ length (filter (is_asking l.lack) (map object_view l.objects)))
    × (l.count ≤ l.object-index)
