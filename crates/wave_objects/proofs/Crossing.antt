-- What workers share in a wave may be shared by any threads, and what they answer may go to any thread.
use denote.RattleType.{RattleType}
use denote.Ref.{NamedLft}
use denote.Hole.FixSend.{Sends, Syncs, fix_send, fix_sync}
use denote.Param.Send.{IsSend, IsSync, sendable}
use denote.Param.SendFields.{declared_send, declared_sync, variants_send, variants_sync}
use Rattle.std.proofs.Crossing.{crosses}
use Rattle.std.proofs.MapsCrossing as maps
use Rattle.site_base.specs.contracts.diag.Diag.{the_row as diag_row, the_type as diag_type}
use Rattle.site_base.specs.contracts.diag_kind.DiagKind.{the_row as diag_kind_row}
use Rattle.site_base.specs.contracts.tree.Tree.{the_row as tree_row, enum as tree_enum}
use Rattle.site_base.specs.contracts.tree.Tree.TheKnot as knot
use Rattle.site_base.specs.declared.tree.Tree.TheBlock.{member-Tree}
use Rattle.dsl_syntax.specs.contracts.file.File.{the_row as file_row}
use Rattle.dsl_value.specs.contracts.value.Value.{the_row as value_row}
use Rattle.dsl_value.specs.contracts.sorted_pairs.SortedPairs.{the_row as pairs_row}
use Rattle.dsl_value.specs.contracts.cell.Cell.{the_row as cell_row}
use Rattle.dsl_value.specs.contracts.function.Function.{the_row as function_row}
use Rattle.dsl_value.specs.contracts.part.Part.{the_row as part_row}
use Rattle.dsl_value.specs.contracts.layer.Layer.{the_row as layer_row}
use Rattle.dsl_value.specs.contracts.frozen.Frozen.{the_row as frozen_row}
use Rattle.dsl_value.specs.contracts.live.Live.{the_row as live_row}
use Rattle.dsl_value.specs.contracts.store.Store.{the_row as store_row}
use Rattle.eval_meaning.specs.contracts.read.Read.{the_row as read_row}
use Rattle.eval_work.specs.contracts.committed.Committed.{the_row as committed_row}
use Rattle.eval_work.specs.contracts.item.Item.{the_row as item_row}
use Rattle.eval_work.specs.contracts.rule.Rule.{the_row as rule_row}
use Rattle.eval_work.specs.contracts.source_file.SourceFile.{the_row as source_row, the_type as source_type}
use Rattle.eval_work.specs.contracts.template.Template.{the_row as template_row}
use Rattle.eval_work.specs.contracts.templates.Templates.{the_row as templates_row}
use Rattle.eval_work.specs.contracts.view.Known.{the_row as known_row}
use Rattle.eval_work.specs.contracts.view.WorldView.{the_row as view_row, the_type as view_type}
use Rattle.site_model.specs.contracts.object.Object.{the_row as object_row}
use Rattle.rule_expressions.specs.contracts.prepared.Prepared.{the_row as prepared_row, the_type as prepared_type}
use Rattle.rule_expressions.specs.contracts.subject.Subject.{the_row as subject_row}
use Rattle.apply_rules.specs.contracts.instance.Instance.{the_row as instance_row, the_type as instance_type}
use Rattle.apply_rules.specs.contracts.preset_keys.PresetKeys.{the_row as keys_row}
use Rattle.apply_rules.specs.contracts.rule_answer.RuleAnswer.{the_row as rule_answer_row, enum as rule_answer_enum}
use Rattle.apply_rules.specs.contracts.target.Target.{the_row as target_row}
use Rattle.wave_order.specs.contracts.pending.Pending.{the_row as pending_row, enum as pending_enum}
use Rattle.wave_objects.specs.contracts.answering_many.ItemTasks.{the_row as item_tasks_row, the_type as item_tasks_type}
use Rattle.wave_objects.specs.contracts.applying_many.RuleTasks.{the_row as rule_tasks_row, the_type as rule_tasks_type}
use Rattle.wave_objects.specs.contracts.at_targets.PlacedAnswer.{the_row as placed_answer_row, the_type as placed_answer_type}
use Rattle.wave_objects.specs.contracts.by_type.PlacedRule.{the_row as placed_rule_row}
use Rattle.wave_objects.specs.contracts.by_type.RulesOfType.{the_row as rules_of_type_row, the_type as rules_of_type_type}
use Rattle.wave_objects.specs.contracts.joining.GroupLists.{the_row as group_lists_row}
use Rattle.wave_objects.specs.contracts.joining_many.GroupTasks.{the_row as group_tasks_row, the_type as group_tasks_type}
use Rattle.wave_objects.proofs.Syntax.{text_send, text_sync, block_send, block_sync, func_send, func_sync, each_send, each_sync, stmt_sync}

-- Trees.

layer_send : (h : RattleType) → IsSend h → IsSend (knot.layer-Tree h h)
layer_send h s = variants_send (knot.type-Tree h h) (tt, ((search (sendable, crosses) depth 60, tt), ((search (sendable, crosses) depth 60, tt), ((search (sendable, crosses, text_send) depth 60, tt), ((search (sendable, crosses) depth 60, tt), ((search (sendable, crosses, text_send) depth 60, tt), tt))))))

layer_sync : (h : RattleType) → IsSync h → IsSync (knot.layer-Tree h h)
layer_sync h s = variants_sync (knot.type-Tree h h) (tt, ((search (sendable, crosses) depth 60, tt), ((search (sendable, crosses) depth 60, tt), ((search (sendable, crosses, text_sync) depth 60, tt), ((search (sendable, crosses) depth 60, tt), ((search (sendable, crosses, text_sync) depth 60, tt), tt))))))

each_sends : (i : knot.the_members) → Sends knot.ring i
each_sends member-Tree = record { send = λ h all. layer_send (h member-Tree) (all member-Tree) }

each_syncs : (i : knot.the_members) → Syncs knot.ring i
each_syncs member-Tree = record { sync = λ h all. layer_sync (h member-Tree) (all member-Tree) }

hole_send : IsSend knot.hole-Tree
hole_send = let s = fix_send knot.ring each_sends member-Tree in record { owned = s.owned; leaving = s.leaving }

hole_sync : IsSync knot.hole-Tree
hole_sync = let s = fix_sync knot.ring each_syncs member-Tree in record { shared = s.shared }

tree_send : IsSend tree_row
tree_send = variants_send tree_enum (tt, ((search (sendable, crosses) depth 60, tt), ((search (sendable, crosses) depth 60, tt), ((search (sendable, crosses, text_send) depth 60, tt), ((search (sendable, crosses, hole_send) depth 60, tt), ((search (sendable, crosses, text_send, hole_send) depth 60, tt), tt))))))

tree_sync : IsSync tree_row
tree_sync = variants_sync tree_enum (tt, ((search (sendable, crosses) depth 60, tt), ((search (sendable, crosses) depth 60, tt), ((search (sendable, crosses, text_sync) depth 60, tt), ((search (sendable, crosses, hole_sync) depth 60, tt), ((search (sendable, crosses, text_sync, hole_sync) depth 60, tt), tt))))))

-- Stores.

pub value_send : IsSend value_row
value_send = search (sendable, crosses, text_send) depth 60 fits 20000

pub value_sync : IsSync value_row
value_sync = search (sendable, crosses, text_sync) depth 60 fits 20000

pairs_send : IsSend pairs_row
pairs_send = search (sendable, crosses, text_send, value_send) depth 60 fits 20000

pairs_sync : IsSync pairs_row
pairs_sync = search (sendable, crosses, text_sync, value_sync) depth 60 fits 20000

cell_send : IsSend cell_row
cell_send = search (sendable, crosses, value_send, pairs_send) depth 60 fits 20000

cell_sync : IsSync cell_row
cell_sync = search (sendable, crosses, value_sync, pairs_sync) depth 60 fits 20000

function_send : IsSend function_row
function_send = search (sendable, crosses, text_send, value_send, func_send, func_sync) depth 60 fits 20000

function_sync : IsSync function_row
function_sync = search (sendable, crosses, text_sync, value_sync, func_send, func_sync) depth 60 fits 20000

part_send : IsSend part_row
part_send = search (sendable, crosses, cell_send, function_send) depth 60 fits 20000

part_sync : IsSync part_row
part_sync = search (sendable, crosses, cell_sync, function_sync) depth 60 fits 20000

layer_part_send : IsSend layer_row
layer_part_send = search (sendable, crosses, part_send, part_sync) depth 60 fits 20000

layer_part_sync : IsSync layer_row
layer_part_sync = search (sendable, crosses, part_send, part_sync) depth 60 fits 20000

frozen_send : IsSend frozen_row
frozen_send = search (sendable, crosses, layer_part_send, layer_part_sync) depth 60 fits 20000

frozen_sync : IsSync frozen_row
frozen_sync = search (sendable, crosses, layer_part_send, layer_part_sync) depth 60 fits 20000

live_send : IsSend live_row
live_send = search (sendable, crosses, layer_part_send) depth 60 fits 20000

live_sync : IsSync live_row
live_sync = search (sendable, crosses, layer_part_sync) depth 60 fits 20000

store_send : IsSend store_row
store_send = search (sendable, crosses, frozen_send, live_send) depth 60 fits 20000

pub store_sync : IsSync store_row
store_sync = search (sendable, crosses, frozen_sync, live_sync) depth 60 fits 20000

-- Objects, and what makes them.

pub object_send : IsSend object_row
object_send = search (sendable, crosses, text_send, tree_send, tree_sync) depth 60 fits 20000

pub object_sync : IsSync object_row
object_sync = search (sendable, crosses, text_sync, tree_send, tree_sync) depth 60 fits 20000

pub read_send : IsSend read_row
read_send = search (sendable, crosses, text_send) depth 60 fits 20000

read_sync : IsSync read_row
read_sync = search (sendable, crosses, text_sync) depth 60 fits 20000

pub item_sync : IsSync item_row
item_sync = search (sendable, crosses, text_sync, value_sync, tree_sync, block_send, block_sync) depth 60 fits 20000

pub rule_sync : IsSync rule_row
rule_sync = search (sendable, crosses, text_sync, value_sync, block_send, block_sync, each_send, each_sync) depth 60 fits 20000

template_sync : IsSync template_row
template_sync = search (sendable, crosses, text_sync, value_sync, block_send, block_sync) depth 60 fits 20000

templates_sync : IsSync templates_row
templates_sync = search (sendable, crosses, maps.crosses, text_sync, template_sync) depth 60 fits 20000

pub committed_sync : IsSync committed_row
committed_sync = search (sendable, crosses, maps.crosses, text_sync, object_sync) depth 60 fits 20000

known_sync : IsSync known_row
known_sync = search (sendable, crosses, text_sync, read_sync) depth 60 fits 20000

file_sync : IsSync file_row
file_sync = search (sendable, crosses, stmt_sync) depth 60 fits 20000

source_sync : IsSync source_row
source_sync = declared_sync source_type (search (sendable, crosses, text_sync) depth 60 fits 20000, (search (sendable, crosses) depth 60, (search (sendable, crosses, file_sync) depth 60, tt)))

pub view_sync : (ℓ : NamedLft) → IsSync (view_row ℓ)
view_sync ℓ = declared_sync (view_type ℓ) (
  search (sendable, crosses, store_sync) depth 60,
  (
    search (sendable, crosses, templates_sync) depth 60,
    (
      search (sendable, crosses, rule_sync) depth 60,
      (search (sendable, crosses, committed_sync) depth 60, (search (sendable, crosses, known_sync) depth 60, (search (sendable, crosses, source_sync) depth 60, tt))),
    ),
  ),
)

-- What rules make.

subject_send : (ℓ : NamedLft) → IsSend (subject_row ℓ)
subject_send ℓ = search (sendable, crosses, tree_sync) depth 60 fits 20000

subject_sync : (ℓ : NamedLft) → IsSync (subject_row ℓ)
subject_sync ℓ = search (sendable, crosses, tree_sync) depth 60 fits 20000

prepared_send : (ℓ : NamedLft) → IsSend (prepared_row ℓ)
prepared_send ℓ = declared_send (prepared_type ℓ) (search (sendable, subject_send) depth 60, (search (sendable, crosses, store_send) depth 60, (search (sendable, crosses, text_send, value_send) depth 60 fits 20000, tt)))

prepared_sync : (ℓ : NamedLft) → IsSync (prepared_row ℓ)
prepared_sync ℓ = declared_sync (prepared_type ℓ) (search (sendable, subject_sync) depth 60, (search (sendable, crosses, store_sync) depth 60, (search (sendable, crosses, text_sync, value_sync) depth 60 fits 20000, tt)))

target_send : (ℓ : NamedLft) → IsSend (target_row ℓ)
target_send ℓ = search (sendable, crosses, object_sync) depth 60 fits 20000

target_sync : (ℓ : NamedLft) → IsSync (target_row ℓ)
target_sync ℓ = search (sendable, crosses, object_sync) depth 60 fits 20000

instance_sync : (ℓ : NamedLft) → IsSync (instance_row ℓ)
instance_sync ℓ = declared_sync (instance_type ℓ) (
  search (sendable, crosses) depth 60 fits 20000,
  (
    search (sendable, crosses, rule_sync) depth 60,
    (
      search (sendable, target_sync) depth 60,
      (search (sendable, crosses, prepared_send, prepared_sync) depth 60, (search (sendable, crosses, text_sync) depth 60 fits 20000, (search (sendable, crosses, text_sync, tree_sync) depth 60 fits 20000, tt))),
    ),
  ),
)

instance_send : (ℓ : NamedLft) → IsSend (instance_row ℓ)
instance_send ℓ = declared_send (instance_type ℓ) (
  search (sendable, crosses) depth 60 fits 20000,
  (
    search (sendable, crosses, rule_sync) depth 60,
    (
      search (sendable, target_send) depth 60,
      (search (sendable, crosses, prepared_send, prepared_sync) depth 60, (search (sendable, crosses, text_send) depth 60 fits 20000, (search (sendable, crosses, text_send, tree_send) depth 60 fits 20000, tt))),
    ),
  ),
)

diag_kind_send : IsSend diag_kind_row
diag_kind_send = search (sendable, crosses) depth 400 fits 50000

diag_send : IsSend diag_row
diag_send = declared_send diag_type (search (sendable, crosses) depth 60 fits 20000, (search (sendable, crosses) depth 60 fits 20000, (search (sendable, diag_kind_send) depth 60, (search (sendable, text_send) depth 60, tt))))

rule_answer_send : (ℓ : NamedLft) → IsSend (rule_answer_row ℓ)
rule_answer_send ℓ = variants_send (rule_answer_enum ℓ) ((search (sendable, crosses, instance_send) depth 60, tt), ((search (sendable, diag_send) depth 60, tt), ((search (sendable, read_send) depth 60, tt), tt)))

pub placed_answer_send : (ℓ : NamedLft) → IsSend (placed_answer_row ℓ)
placed_answer_send ℓ = declared_send (placed_answer_type ℓ) (search (sendable, crosses) depth 60, (search (sendable, rule_answer_send) depth 60, tt))

pub pending_sync : (ℓ : NamedLft) → IsSync (pending_row ℓ)
pending_sync ℓ = variants_sync (pending_enum ℓ) ((search (sendable, item_sync) depth 60, tt), ((search (sendable, instance_sync) depth 60, tt), tt))

-- What workers share.

keys_sync : IsSync keys_row
keys_sync = search (sendable, crosses, text_sync) depth 60 fits 20000

pub item_tasks_sync : (ℓ : NamedLft) → IsSync (item_tasks_row ℓ)
item_tasks_sync ℓ = declared_sync (item_tasks_type ℓ) (search (sendable, view_sync) depth 60, (search (sendable, keys_sync) depth 60, tt))

placed_rule_sync : (ℓ : NamedLft) → IsSync (placed_rule_row ℓ)
placed_rule_sync ℓ = search (sendable, crosses, rule_sync) depth 60 fits 20000

rules_of_type_sync : (ℓ : NamedLft) → IsSync (rules_of_type_row ℓ)
rules_of_type_sync ℓ = declared_sync (rules_of_type_type ℓ) (search (sendable, crosses, text_sync) depth 60 fits 20000, (search (sendable, crosses, placed_rule_sync) depth 60, tt))

pub rule_tasks_sync : (ℓ m : NamedLft) → IsSync (rule_tasks_row ℓ m)
rule_tasks_sync ℓ m =
    declared_sync (rule_tasks_type ℓ m) (search (sendable, view_sync) depth 60, (search (sendable, crosses, committed_sync) depth 60, (search (sendable, crosses, rules_of_type_sync) depth 60, tt)))

group_lists_sync : (ℓ : NamedLft) → IsSync (group_lists_row ℓ)
group_lists_sync ℓ = search (sendable, crosses, item_sync) depth 60 fits 20000

pub group_tasks_sync : (ℓ : NamedLft) → IsSync (group_tasks_row ℓ)
group_tasks_sync ℓ = declared_sync (group_tasks_type ℓ) (search (sendable, view_sync) depth 60, (search (sendable, crosses, group_lists_sync) depth 60, tt))
