use Rattle.std.proofs.Common.{◌≡◌, ◌++◌, map, drop}
use Rattle.site_model.specs.PlainSite.{object_view}
use Rattle.site_replies.specs.Remarks.{lacks_remarked}
use Rattle.site_replies.proofs.remarks.push_those.Given as goal

-- what stands and the remarks of the rest are all
abbrev pub invariant-loop-lack : goal.invariant-loop-lack
invariant-loop-lack l = l.remarks.items ++ lacks_remarked (drop l.lack-index l.lacks) (map object_view l.objects) ≡ l.fn.remarks.items ++ lacks_remarked l.lacks (map object_view l.objects)
