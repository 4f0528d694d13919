-- The user stands behind the members of the group.
use Rattle.std.proofs.Common.{refl, arith}
use Rattle.conf_check.proofs.PlaceLaws.{place_below}
use Rattle.object_lists.proofs.MemberLaws.{grown}
use Rattle.object_lists.proofs.members.Members.add.Goals as goal

pub returns-in_ok-push_at : goal.returns-in_ok-push_at
returns-in_ok-push_at c = λ ms are.
    grown ms c.place.new.self _ c.args.group.now c.args.user c.in_ok-place.place (c.in_ok-place.ensures.same ms are) c.in_ok-place.ensures.place refl c.in_ok-push_at.ensures

pub returns-else-place-len : goal.returns-else-place-len
returns-else-place-len c = λ ms are.
    let all = c.in_ok-place.ensures.same ms are in
    let low = place_below c.args.group.now c.place.new.self.names c.in_ok-place.place c.in_ok-place.ensures.place in
    let level = all.level in
    absurd (omega (arith, low, level))
