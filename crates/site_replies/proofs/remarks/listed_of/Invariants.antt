use Rattle.std.proofs.Common.{◌≡◌, ◌+◌, ◌≤◌, length, map, drop}
use Rattle.std.specs.List.{filter}
use Rattle.site_model.specs.PlainSite.{object_view}
use Rattle.site_replies.specs.Remarks.{is_listed_of}
use Rattle.site_replies.proofs.remarks.listed_of.Given as goal

-- how many were counted, and how many of the rest are of the type
abbrev pub invariant-loop-object : goal.invariant-loop-object
invariant-loop-object l =
    (l.count + length (filter (is_listed_of l.kind) (map object_view (drop l.object-index l.objects))) ≡ length (filter (is_listed_of l.kind) (map object_view l.objects)))
    × (l.count ≤ l.object-index)
