-- A machine of a site may go to any thread, and any thread may share it, as the posts of a hall with their checkables.
use denote.RattleType.{RattleType}
use denote.Ref.{NamedLft}
use denote.Hole.Fix.{holes}
use denote.Hole.FixSend.{Sends, Syncs, fix_send, fix_sync}
use denote.Param.Send.{IsSend, IsSync, sendable}
use denote.Param.SendFields.{declared_sync, variants_send, variants_sync}
use Rattle.std.proofs.Crossing.{crosses}
use Rattle.std.proofs.MapsCrossing as maps
use Rattle.atomic_table.proofs.shared.Shared.TheSendSync.{the_sync as shared_sync}
use Rattle.atomic_table.proofs.send_lease.SendLease.TheSendSync.{the_sync as lease_sync}
use Rattle.checkable_core.specs.contracts.checkable.Checkable.{the_row as checkable_row}
use Rattle.checkable_core.specs.contracts.deed.Deed.{the_row as deed_row}
use Rattle.checkable_core.specs.contracts.running.Running.{the_row as running_row}
use Rattle.downtime_book.specs.contracts.book.Book.{the_row as book_row}
use Rattle.notify_rules.specs.contracts.sent_book.SentBook.{the_row as sent_row}
use Rattle.trail.specs.contracts.trail.Trail.{the_row as trail_row}
use Rattle.post_turn.specs.contracts.body.Body.{the_row as body_row}
use Rattle.post_turn.specs.contracts.post.Post.{the_row as post_row, the_type as post_type}
use Rattle.checkable_core.specs.contracts.machine.SiteMachineMachine.TheImpl as machine
use Rattle.atomic_table.below.core.specs.contracts.clone.Clone+copy.TheImpl as copied
use Rattle.trail.specs.contracts.told.Told.{the_row as told_row}
use Rattle.checkable_core.specs.contracts.machine.SiteMachine.{the_row}
use Rattle.site_model.specs.contracts.entry.Entry.{the_row as entry_row}
use Rattle.site_model.specs.contracts.view.View.{the_row as view_row}
use Rattle.site_posts.specs.contracts.hall.Deeds.{the_row as deeds_row}
use Rattle.site_posts.specs.contracts.hall.Hall.{the_row as hall_row, the_type as hall_type}
use Rattle.site_model.specs.contracts.site.Site.{the_row as site_row, the_type as site_type}
use Rattle.site_model.specs.contracts.object.Object.{the_row as object_row}
use Rattle.site_model.specs.contracts.names.Names.{the_row as names_row}
use Rattle.site_model.specs.contracts.check_spec.CheckSpec.{the_row as check_row}
use Rattle.site_model.specs.contracts.depend_spec.DependSpec.{the_row as depend_row}
use Rattle.site_model.specs.contracts.notify_spec.NotifySpec.{the_row as notify_row}
use Rattle.site_model.specs.contracts.user_spec.UserSpec.{the_row as user_row}
use Rattle.site_model.specs.contracts.command_spec.CommandSpec.{the_row as command_row}
use Rattle.site_base.specs.contracts.period_spec.PeriodSpec.{the_row as period_row}
use Rattle.site_base.specs.contracts.tree.Tree.{the_row as tree_row, enum as tree_enum}
use Rattle.site_base.specs.contracts.tree.Tree.TheKnot as knot
use Rattle.site_base.specs.declared.tree.Tree.TheBlock.{member-Tree}
use Rattle.site_base.specs.contracts.text.Text.{the_row as text_row}
use Rattle.depend_graph.specs.contracts.graph.Graph.{the_row as graph_row}
use Rattle.time_range.specs.contracts.zone.Zone.{the_row as zone_row}

pub text_send : IsSend text_row
text_send = search (sendable, crosses, maps.crosses) depth 60 fits 20000

text_sync : IsSync text_row
text_sync = search (sendable, crosses, maps.crosses) depth 60

-- Trees.

layer_send : (h : RattleType) → IsSend h → IsSend (knot.layer-Tree h h)
layer_send h s = variants_send (knot.type-Tree h h) (tt, ((search (sendable, crosses) depth 60, tt), ((search (sendable, crosses) depth 60, tt), ((search (sendable, crosses, text_send) depth 60, tt), ((search (sendable, crosses) depth 60, tt), ((search (sendable, crosses, text_send) depth 60, tt), tt))))))

layer_sync : (h : RattleType) → IsSync h → IsSync (knot.layer-Tree h h)
layer_sync h s = variants_sync (knot.type-Tree h h) (tt, ((search (sendable, crosses) depth 60, tt), ((search (sendable, crosses) depth 60, tt), ((search (sendable, crosses, text_sync) depth 60, tt), ((search (sendable, crosses) depth 60, tt), ((search (sendable, crosses, text_sync) depth 60, tt), tt))))))

each_sends : (i : knot.the_members) → Sends knot.ring i
each_sends member-Tree = record { send = λ h all. layer_send (h member-Tree) (all member-Tree) }

each_syncs : (i : knot.the_members) → Syncs knot.ring i
each_syncs member-Tree = record { sync = λ h all. layer_sync (h member-Tree) (all member-Tree) }

hole_send : IsSend knot.hole-Tree
hole_send = let s = fix_send knot.ring each_sends member-Tree in record { owned = s.owned; leaving = s.leaving }

hole_sync : IsSync knot.hole-Tree
hole_sync = let s = fix_sync knot.ring each_syncs member-Tree in record { shared = s.shared }

tree_send : IsSend tree_row
tree_send = variants_send tree_enum (tt, ((search (sendable, crosses) depth 60, tt), ((search (sendable, crosses) depth 60, tt), ((search (sendable, crosses, text_send) depth 60, tt), ((search (sendable, crosses, hole_send) depth 60, tt), ((search (sendable, crosses, text_send, hole_send) depth 60, tt), tt))))))

tree_sync : IsSync tree_row
tree_sync = variants_sync tree_enum (tt, ((search (sendable, crosses) depth 60, tt), ((search (sendable, crosses) depth 60, tt), ((search (sendable, crosses, text_sync) depth 60, tt), ((search (sendable, crosses, hole_sync) depth 60, tt), ((search (sendable, crosses, text_sync, hole_sync) depth 60, tt), tt))))))

-- What a site has.

names_sync : IsSync names_row
names_sync = search (sendable, crosses, maps.crosses) depth 60

object_sync : IsSync object_row
object_sync = search (sendable, crosses, maps.crosses, tree_send, tree_sync, text_sync) depth 60 fits 20000

check_sync : IsSync check_row
check_sync = search (sendable, crosses, maps.crosses, tree_send, tree_sync, text_sync) depth 60 fits 20000

depend_sync : IsSync depend_row
depend_sync = search (sendable, crosses, maps.crosses, text_sync) depth 60 fits 20000

notify_sync : IsSync notify_row
notify_sync = search (sendable, crosses, maps.crosses, text_sync) depth 60 fits 20000

user_sync : IsSync user_row
user_sync = search (sendable, crosses, maps.crosses, text_sync) depth 60 fits 20000

command_sync : IsSync command_row
command_sync = search (sendable, crosses, maps.crosses, tree_send, tree_sync, text_sync) depth 60 fits 20000

period_sync : IsSync period_row
period_sync = search (sendable, crosses, maps.crosses) depth 60 fits 20000

graph_sync : IsSync graph_row
graph_sync = search (sendable, crosses, maps.crosses) depth 60

zone_sync : IsSync zone_row
zone_sync = search (sendable, crosses, maps.crosses) depth 60 fits 20000

pub site_sync : IsSync site_row
site_sync = declared_sync site_type (
  search (sendable, crosses, text_sync) depth 60,
  (
    search (sendable, crosses, object_sync) depth 60,
    (
      search (sendable, crosses, check_sync) depth 60,
      (
        search (sendable, crosses, depend_sync) depth 60,
        (search (sendable, crosses, notify_sync) depth 60, (search (sendable, crosses, user_sync) depth 60, (search (sendable, crosses, command_sync) depth 60, (search (sendable, crosses, period_sync) depth 60, (search (sendable, names_sync) depth 60, (search (sendable, tree_sync) depth 60, (search (sendable, crosses) depth 60, (search (sendable, crosses) depth 60, tt)))))))),
      ),
    ),
  ),
)

pub machine_send : (ℓ : NamedLft) → IsSend (the_row ℓ)
machine_send ℓ = search (sendable, site_sync, graph_sync, zone_sync) depth 60 fits 20000

pub machine_sync : (ℓ : NamedLft) → IsSync (the_row ℓ)
machine_sync ℓ = search (sendable, site_sync, graph_sync, zone_sync) depth 60 fits 20000

-- Checkables, posts and halls.

entry_send : IsSend entry_row
entry_send = search (sendable, crosses, text_send) depth 60 fits 20000

deeds_sync : IsSync deeds_row
deeds_sync = search (sendable, crosses) depth 60 fits 20000

trail_send : IsSend (trail_row entry_row)
trail_send = search (sendable, crosses) depth 60 fits 20000

told_send : IsSend (told_row site_row)
told_send = search (sendable, crosses) depth 60 fits 20000

book_send : IsSend book_row
book_send = search (sendable, crosses) depth 60 fits 20000

sent_send : IsSend sent_row
sent_send = search (sendable, crosses) depth 60 fits 20000

running_send : IsSend running_row
running_send = search (sendable, crosses, book_send, sent_send) depth 60 fits 20000

checkable_send : IsSend checkable_row
checkable_send = search (sendable, crosses, trail_send, told_send, running_send) depth 60 fits 20000

-- what a post keeps
body_send : IsSend (body_row checkable_row entry_row)
body_send = search (sendable, crosses, checkable_send, entry_send) depth 60 fits 20000

post_sync : (ℓ : NamedLft) → IsSync (post_row (the_row ℓ) checkable_row deed_row entry_row view_row machine.ghosts (copied.ghosts view_row))
post_sync ℓ = declared_sync (post_type (the_row ℓ) checkable_row deed_row entry_row view_row machine.ghosts (copied.ghosts view_row)) (search (sendable, crosses, shared_sync, lease_sync, body_send) depth 60 fits 20000, (search (sendable, machine_sync) depth 20, (search (sendable, crosses) depth 20, tt)))

pub hall_sync : (ℓ : NamedLft) → IsSync (hall_row ℓ)
hall_sync ℓ = declared_sync (hall_type ℓ) (search (sendable, crosses, post_sync) depth 60, (search (sendable, crosses, deeds_sync) depth 60, tt))
