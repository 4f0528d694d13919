use Rattle.std.proofs.Common.{◌≡◌, ◌++◌, map, drop}
use Rattle.site_model.specs.PlainSite.{object_view}
use Rattle.site_replies.specs.Replies.{listed, plain_line}
use Rattle.site_replies.proofs.replies.push_objects.Given as goal

-- what stands and the lines of the rest are all
abbrev pub invariant-loop-object : goal.invariant-loop-object
invariant-loop-object l = l.lines ++ map plain_line (listed (map object_view (drop l.object-index l.objects))) ≡ l.fn.lines ++ map plain_line (listed (map object_view l.objects))
