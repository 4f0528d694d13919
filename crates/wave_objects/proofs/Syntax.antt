-- The trees of the language may go to any thread, and any thread may share them.
use denote.RattleType.{RattleType}
use denote.Hole.FixSend.{Crosses, both_send, both_sync}
use denote.Param.Send.{IsSend, IsSync, sendable}
use denote.Param.SendFields.{as_row_send, as_row_sync, declared_send, declared_sync, variants_send, variants_sync}
use denote.Struct.Declared as S
use denote.Enum.Declared as E
use denote.Hole.{as_row}
use denote.Struct.Field.{row_field}
use denote.Struct.Tuple.{Tuple}
use mathlib.Core.List.{[], ◌∷◌}
use Rattle.std.specs.contracts.option.Option as Opt
use Rattle.std.specs.contracts.sync.Arc as Arc
use Rattle.std.specs.contracts.boxed.Box as Box
use Rattle.std.specs.contracts.vec.Vec as Vec
use Rattle.std.specs.contracts.alloc.Global as Heap
use Rattle.std.specs.contracts.impls.GlobalAllocator.TheImpl.{ghosts}
use Rattle.std.proofs.Crossing.{crosses}
use Rattle.std.proofs.MapsCrossing as maps
use Rattle.site_base.specs.contracts.text.Text.{the_row as text_row}
use Rattle.dsl_syntax.specs.contracts.expr_kind.ExprKind.TheKnot as knot
use Rattle.dsl_syntax.specs.declared.expr_kind.ExprKind.TheBlock.{member-ExprKind, member-Step, member-StmtKind, member-Arm, member-Block, member-Each, member-Expr, member-Func, member-Stmt, member-Use}
use Rattle.dsl_syntax.specs.contracts.arm.Arm as arm
use Rattle.dsl_syntax.specs.contracts.block.Block as block
use Rattle.dsl_syntax.specs.contracts.each.Each as loop
use Rattle.dsl_syntax.specs.contracts.expr.Expr as expr
use Rattle.dsl_syntax.specs.contracts.expr_kind.ExprKind as expr_kind
use Rattle.dsl_syntax.specs.contracts.func.Func as func
use Rattle.dsl_syntax.specs.contracts.stmt.Stmt as stmt
use Rattle.dsl_syntax.specs.contracts.stmt_kind.StmtKind as stmt_kind
use Rattle.dsl_syntax.specs.contracts.used.Use as used

pub text_send : IsSend text_row
text_send = search (sendable, crosses, maps.crosses) depth 60 fits 20000

pub text_sync : IsSync text_row
text_sync = search (sendable, crosses, maps.crosses) depth 60

-- ways to hold a part

module _ (R : RattleType) (s : IsSend R) (y : IsSync R) where
  held_send : IsSend (as_row (row_field R))
  held_send = as_row_send (row_field R) s

  held_sync : IsSync (as_row (row_field R))
  held_sync = as_row_sync (row_field R) y

  vec_send : IsSend (Vec.the_row R Heap.the_row ghosts)
  vec_send = search (sendable, crosses) depth 60

  vec_sync : IsSync (Vec.the_row R Heap.the_row ghosts)
  vec_sync = search (sendable, crosses) depth 60

  box_send : IsSend (Box.the_row R Heap.the_row ghosts)
  box_send = search (sendable, crosses) depth 60

  box_sync : IsSync (Box.the_row R Heap.the_row ghosts)
  box_sync = search (sendable, crosses) depth 60

  arc_send : IsSend (Arc.the_row R Heap.the_row ghosts)
  arc_send = search (sendable, crosses) depth 60

  arc_sync : IsSync (Arc.the_row R Heap.the_row ghosts)
  arc_sync = search (sendable, crosses) depth 60

  option_send : IsSend (as_row (row_field (Opt.the_row R)))
  option_send = as_row_send (row_field (Opt.the_row R)) (search (sendable, crosses) depth 60)

  option_sync : IsSync (as_row (row_field (Opt.the_row R)))
  option_sync = as_row_sync (row_field (Opt.the_row R)) (search (sendable, crosses) depth 60)

  option_arc_send : IsSend (as_row (row_field (Opt.the_row (Arc.the_row R Heap.the_row ghosts))))
  option_arc_send = as_row_send (row_field (Opt.the_row (Arc.the_row R Heap.the_row ghosts))) (search (sendable, crosses) depth 60)

  option_arc_sync : IsSync (as_row (row_field (Opt.the_row (Arc.the_row R Heap.the_row ghosts))))
  option_arc_sync = as_row_sync (row_field (Opt.the_row (Arc.the_row R Heap.the_row ghosts))) (search (sendable, crosses) depth 60)

  pairs_send : IsSend (Vec.the_row (Tuple (text_row ∷ R ∷ [])) Heap.the_row ghosts)
  pairs_send = search (sendable, crosses, text_send) depth 60

  pairs_sync : IsSync (Vec.the_row (Tuple (text_row ∷ R ∷ [])) Heap.the_row ghosts)
  pairs_sync = search (sendable, crosses, text_sync) depth 60

-- one layer of the trees, over rows that cross

module _ (h : knot.the_members → RattleType) (s : (j : knot.the_members) → IsSend (h j)) (y : (j : knot.the_members) → IsSync (h j)) where
  block_layer_send : IsSend (S.row (block.the_layer h))
  block_layer_send = declared_send (block.the_layer h) (vec_send (h member-Stmt) (s member-Stmt) (y member-Stmt), tt)

  block_layer_sync : IsSync (S.row (block.the_layer h))
  block_layer_sync = declared_sync (block.the_layer h) (vec_sync (h member-Stmt) (s member-Stmt) (y member-Stmt), tt)

  func_layer_send : IsSend (S.row (func.the_layer h))
  func_layer_send = declared_send (func.the_layer h) (search (sendable, crosses, text_send) depth 60 fits 20000, (vec_send (h member-Use) (s member-Use) (y member-Use), (vec_send (h member-Stmt) (s member-Stmt) (y member-Stmt), tt)))

  func_layer_sync : IsSync (S.row (func.the_layer h))
  func_layer_sync = declared_sync (func.the_layer h) (search (sendable, crosses, text_sync) depth 60 fits 20000, (vec_sync (h member-Use) (s member-Use) (y member-Use), (vec_sync (h member-Stmt) (s member-Stmt) (y member-Stmt), tt)))

  each_layer_send : IsSend (S.row (loop.the_layer h))
  each_layer_send = declared_send (loop.the_layer h) (search (sendable, crosses, text_send) depth 60 fits 20000, (search (sendable, crosses, text_send) depth 60 fits 20000, (held_send (h member-Expr) (s member-Expr) (y member-Expr), tt)))

  each_layer_sync : IsSync (S.row (loop.the_layer h))
  each_layer_sync = declared_sync (loop.the_layer h) (search (sendable, crosses, text_sync) depth 60 fits 20000, (search (sendable, crosses, text_sync) depth 60 fits 20000, (held_sync (h member-Expr) (s member-Expr) (y member-Expr), tt)))

  expr_layer_send : IsSend (S.row (expr.the_layer h))
  expr_layer_send = declared_send (expr.the_layer h) (search (sendable, crosses) depth 60, (held_send (h member-ExprKind) (s member-ExprKind) (y member-ExprKind), tt))

  expr_layer_sync : IsSync (S.row (expr.the_layer h))
  expr_layer_sync = declared_sync (expr.the_layer h) (search (sendable, crosses) depth 60, (held_sync (h member-ExprKind) (s member-ExprKind) (y member-ExprKind), tt))

  stmt_layer_send : IsSend (S.row (stmt.the_layer h))
  stmt_layer_send = declared_send (stmt.the_layer h) (search (sendable, crosses) depth 60, (held_send (h member-StmtKind) (s member-StmtKind) (y member-StmtKind), tt))

  stmt_layer_sync : IsSync (S.row (stmt.the_layer h))
  stmt_layer_sync = declared_sync (stmt.the_layer h) (search (sendable, crosses) depth 60, (held_sync (h member-StmtKind) (s member-StmtKind) (y member-StmtKind), tt))

  use_layer_send : IsSend (S.row (used.the_layer h))
  use_layer_send = declared_send (used.the_layer h) (search (sendable, crosses, text_send) depth 60 fits 20000, (option_send (h member-Expr) (s member-Expr) (y member-Expr), tt))

  use_layer_sync : IsSync (S.row (used.the_layer h))
  use_layer_sync = declared_sync (used.the_layer h) (search (sendable, crosses, text_sync) depth 60 fits 20000, (option_sync (h member-Expr) (s member-Expr) (y member-Expr), tt))

  arm_layer_send : IsSend (S.row (arm.the_layer h))
  arm_layer_send = declared_send (arm.the_layer h) (held_send (h member-Expr) (s member-Expr) (y member-Expr), (vec_send (h member-Stmt) (s member-Stmt) (y member-Stmt), tt))

  arm_layer_sync : IsSync (S.row (arm.the_layer h))
  arm_layer_sync = declared_sync (arm.the_layer h) (held_sync (h member-Expr) (s member-Expr) (y member-Expr), (vec_sync (h member-Stmt) (s member-Stmt) (y member-Stmt), tt))

  step_layer_send : IsSend (E.row (E.declared (knot.type-Step (h member-Expr))))
  step_layer_send = variants_send (knot.type-Step (h member-Expr)) ((search (sendable, crosses, text_send) depth 60 fits 20000, tt), ((held_send (h member-Expr) (s member-Expr) (y member-Expr), tt), tt))

  step_layer_sync : IsSync (E.row (E.declared (knot.type-Step (h member-Expr))))
  step_layer_sync = variants_sync (knot.type-Step (h member-Expr)) ((search (sendable, crosses, text_sync) depth 60 fits 20000, tt), ((held_sync (h member-Expr) (s member-Expr) (y member-Expr), tt), tt))

  exprkind_layer_send : IsSend (E.row (E.declared (knot.type-ExprKind (h member-Expr) (h member-Expr) (h member-Expr) (h member-Expr) (h member-Expr) (h member-Expr) (h member-Expr) (h member-Expr) (h member-Expr) (h member-Expr) (h member-Func))))
  exprkind_layer_send = variants_send (knot.type-ExprKind (h member-Expr) (h member-Expr) (h member-Expr) (h member-Expr) (h member-Expr) (h member-Expr) (h member-Expr) (h member-Expr) (h member-Expr) (h member-Expr) (h member-Func)) (tt, ((search (sendable, crosses) depth 60, tt), ((search (sendable, crosses) depth 60, tt), ((search (sendable, crosses, text_send) depth 60 fits 20000, tt), ((vec_send (h member-Expr) (s member-Expr) (y member-Expr), tt), ((pairs_send (h member-Expr) (s member-Expr) (y member-Expr), tt), ((search (sendable, crosses, text_send) depth 60 fits 20000, tt), (tt, (tt, ((box_send (h member-Expr) (s member-Expr) (y member-Expr), (search (sendable, crosses, text_send) depth 60 fits 20000, tt)), ((box_send (h member-Expr) (s member-Expr) (y member-Expr), (box_send (h member-Expr) (s member-Expr) (y member-Expr), tt)), ((box_send (h member-Expr) (s member-Expr) (y member-Expr), (vec_send (h member-Expr) (s member-Expr) (y member-Expr), tt)), ((search (sendable, crosses) depth 60, (box_send (h member-Expr) (s member-Expr) (y member-Expr), tt)), ((search (sendable, crosses) depth 60, (box_send (h member-Expr) (s member-Expr) (y member-Expr), (box_send (h member-Expr) (s member-Expr) (y member-Expr), tt))), ((arc_send (h member-Func) (s member-Func) (y member-Func), tt), tt)))))))))))))))

  exprkind_layer_sync : IsSync (E.row (E.declared (knot.type-ExprKind (h member-Expr) (h member-Expr) (h member-Expr) (h member-Expr) (h member-Expr) (h member-Expr) (h member-Expr) (h member-Expr) (h member-Expr) (h member-Expr) (h member-Func))))
  exprkind_layer_sync = variants_sync (knot.type-ExprKind (h member-Expr) (h member-Expr) (h member-Expr) (h member-Expr) (h member-Expr) (h member-Expr) (h member-Expr) (h member-Expr) (h member-Expr) (h member-Expr) (h member-Func)) (tt, ((search (sendable, crosses) depth 60, tt), ((search (sendable, crosses) depth 60, tt), ((search (sendable, crosses, text_sync) depth 60 fits 20000, tt), ((vec_sync (h member-Expr) (s member-Expr) (y member-Expr), tt), ((pairs_sync (h member-Expr) (s member-Expr) (y member-Expr), tt), ((search (sendable, crosses, text_sync) depth 60 fits 20000, tt), (tt, (tt, ((box_sync (h member-Expr) (s member-Expr) (y member-Expr), (search (sendable, crosses, text_sync) depth 60 fits 20000, tt)), ((box_sync (h member-Expr) (s member-Expr) (y member-Expr), (box_sync (h member-Expr) (s member-Expr) (y member-Expr), tt)), ((box_sync (h member-Expr) (s member-Expr) (y member-Expr), (vec_sync (h member-Expr) (s member-Expr) (y member-Expr), tt)), ((search (sendable, crosses) depth 60, (box_sync (h member-Expr) (s member-Expr) (y member-Expr), tt)), ((search (sendable, crosses) depth 60, (box_sync (h member-Expr) (s member-Expr) (y member-Expr), (box_sync (h member-Expr) (s member-Expr) (y member-Expr), tt))), ((arc_sync (h member-Func) (s member-Func) (y member-Func), tt), tt)))))))))))))))

  stmtkind_layer_send : IsSend (E.row (E.declared (knot.type-StmtKind (h member-Expr) (h member-Use) (h member-Block) (h member-Expr) (h member-Use) (h member-Block) (h member-Expr) (h member-Each) (h member-Use) (h member-Block) (h member-Expr) (h member-Expr) (h member-Expr) (h member-Expr) (h member-Expr) (h member-Step) (h member-Expr) (h member-Arm) (h member-Stmt) (h member-Expr) (h member-Stmt) (h member-Each) (h member-Stmt) (h member-Func) (h member-Expr) (h member-Expr) (h member-Expr))))
  stmtkind_layer_send = variants_send (knot.type-StmtKind (h member-Expr) (h member-Use) (h member-Block) (h member-Expr) (h member-Use) (h member-Block) (h member-Expr) (h member-Each) (h member-Use) (h member-Block) (h member-Expr) (h member-Expr) (h member-Expr) (h member-Expr) (h member-Expr) (h member-Step) (h member-Expr) (h member-Arm) (h member-Stmt) (h member-Expr) (h member-Stmt) (h member-Each) (h member-Stmt) (h member-Func) (h member-Expr) (h member-Expr) (h member-Expr)) ((search (sendable, crosses, text_send) depth 60 fits 20000, (held_send (h member-Expr) (s member-Expr) (y member-Expr), (vec_send (h member-Use) (s member-Use) (y member-Use), (arc_send (h member-Block) (s member-Block) (y member-Block), tt)))), ((search (sendable, crosses, text_send) depth 60 fits 20000, (held_send (h member-Expr) (s member-Expr) (y member-Expr), (vec_send (h member-Use) (s member-Use) (y member-Use), (arc_send (h member-Block) (s member-Block) (y member-Block), tt)))), ((search (sendable, crosses, text_send) depth 60 fits 20000, (option_send (h member-Expr) (s member-Expr) (y member-Expr), (search (sendable, crosses, text_send) depth 60 fits 20000, (option_arc_send (h member-Each) (s member-Each) (y member-Each), (vec_send (h member-Use) (s member-Use) (y member-Use), (arc_send (h member-Block) (s member-Block) (y member-Block), tt)))))), ((held_send (h member-Expr) (s member-Expr) (y member-Expr), tt), ((held_send (h member-Expr) (s member-Expr) (y member-Expr), tt), ((held_send (h member-Expr) (s member-Expr) (y member-Expr), tt), ((search (sendable, crosses, text_send) depth 60 fits 20000, (search (sendable, crosses) depth 60, tt)), ((search (sendable, crosses, text_send) depth 60 fits 20000, (search (sendable, crosses) depth 60, tt)), ((search (sendable, crosses, text_send) depth 60 fits 20000, (search (sendable, crosses, text_send) depth 60 fits 20000, (search (sendable, crosses) depth 60, tt))), ((search (sendable, crosses, text_send) depth 60 fits 20000, (held_send (h member-Expr) (s member-Expr) (y member-Expr), tt)), ((search (sendable, crosses, text_send) depth 60 fits 20000, (option_send (h member-Expr) (s member-Expr) (y member-Expr), tt)), ((search (sendable, crosses, text_send) depth 60 fits 20000, (vec_send (h member-Step) (s member-Step) (y member-Step), (search (sendable, crosses) depth 60, (held_send (h member-Expr) (s member-Expr) (y member-Expr), tt)))), ((vec_send (h member-Arm) (s member-Arm) (y member-Arm), (vec_send (h member-Stmt) (s member-Stmt) (y member-Stmt), tt)), ((held_send (h member-Expr) (s member-Expr) (y member-Expr), (vec_send (h member-Stmt) (s member-Stmt) (y member-Stmt), tt)), ((held_send (h member-Each) (s member-Each) (y member-Each), (vec_send (h member-Stmt) (s member-Stmt) (y member-Stmt), tt)), ((search (sendable, crosses, text_send) depth 60 fits 20000, (arc_send (h member-Func) (s member-Func) (y member-Func), tt)), ((option_send (h member-Expr) (s member-Expr) (y member-Expr), tt), (tt, (tt, ((held_send (h member-Expr) (s member-Expr) (y member-Expr), tt), ((held_send (h member-Expr) (s member-Expr) (y member-Expr), tt), tt)))))))))))))))))))))

  stmtkind_layer_sync : IsSync (E.row (E.declared (knot.type-StmtKind (h member-Expr) (h member-Use) (h member-Block) (h member-Expr) (h member-Use) (h member-Block) (h member-Expr) (h member-Each) (h member-Use) (h member-Block) (h member-Expr) (h member-Expr) (h member-Expr) (h member-Expr) (h member-Expr) (h member-Step) (h member-Expr) (h member-Arm) (h member-Stmt) (h member-Expr) (h member-Stmt) (h member-Each) (h member-Stmt) (h member-Func) (h member-Expr) (h member-Expr) (h member-Expr))))
  stmtkind_layer_sync = variants_sync (knot.type-StmtKind (h member-Expr) (h member-Use) (h member-Block) (h member-Expr) (h member-Use) (h member-Block) (h member-Expr) (h member-Each) (h member-Use) (h member-Block) (h member-Expr) (h member-Expr) (h member-Expr) (h member-Expr) (h member-Expr) (h member-Step) (h member-Expr) (h member-Arm) (h member-Stmt) (h member-Expr) (h member-Stmt) (h member-Each) (h member-Stmt) (h member-Func) (h member-Expr) (h member-Expr) (h member-Expr)) ((search (sendable, crosses, text_sync) depth 60 fits 20000, (held_sync (h member-Expr) (s member-Expr) (y member-Expr), (vec_sync (h member-Use) (s member-Use) (y member-Use), (arc_sync (h member-Block) (s member-Block) (y member-Block), tt)))), ((search (sendable, crosses, text_sync) depth 60 fits 20000, (held_sync (h member-Expr) (s member-Expr) (y member-Expr), (vec_sync (h member-Use) (s member-Use) (y member-Use), (arc_sync (h member-Block) (s member-Block) (y member-Block), tt)))), ((search (sendable, crosses, text_sync) depth 60 fits 20000, (option_sync (h member-Expr) (s member-Expr) (y member-Expr), (search (sendable, crosses, text_sync) depth 60 fits 20000, (option_arc_sync (h member-Each) (s member-Each) (y member-Each), (vec_sync (h member-Use) (s member-Use) (y member-Use), (arc_sync (h member-Block) (s member-Block) (y member-Block), tt)))))), ((held_sync (h member-Expr) (s member-Expr) (y member-Expr), tt), ((held_sync (h member-Expr) (s member-Expr) (y member-Expr), tt), ((held_sync (h member-Expr) (s member-Expr) (y member-Expr), tt), ((search (sendable, crosses, text_sync) depth 60 fits 20000, (search (sendable, crosses) depth 60, tt)), ((search (sendable, crosses, text_sync) depth 60 fits 20000, (search (sendable, crosses) depth 60, tt)), ((search (sendable, crosses, text_sync) depth 60 fits 20000, (search (sendable, crosses, text_sync) depth 60 fits 20000, (search (sendable, crosses) depth 60, tt))), ((search (sendable, crosses, text_sync) depth 60 fits 20000, (held_sync (h member-Expr) (s member-Expr) (y member-Expr), tt)), ((search (sendable, crosses, text_sync) depth 60 fits 20000, (option_sync (h member-Expr) (s member-Expr) (y member-Expr), tt)), ((search (sendable, crosses, text_sync) depth 60 fits 20000, (vec_sync (h member-Step) (s member-Step) (y member-Step), (search (sendable, crosses) depth 60, (held_sync (h member-Expr) (s member-Expr) (y member-Expr), tt)))), ((vec_sync (h member-Arm) (s member-Arm) (y member-Arm), (vec_sync (h member-Stmt) (s member-Stmt) (y member-Stmt), tt)), ((held_sync (h member-Expr) (s member-Expr) (y member-Expr), (vec_sync (h member-Stmt) (s member-Stmt) (y member-Stmt), tt)), ((held_sync (h member-Each) (s member-Each) (y member-Each), (vec_sync (h member-Stmt) (s member-Stmt) (y member-Stmt), tt)), ((search (sendable, crosses, text_sync) depth 60 fits 20000, (arc_sync (h member-Func) (s member-Func) (y member-Func), tt)), ((option_sync (h member-Expr) (s member-Expr) (y member-Expr), tt), (tt, (tt, ((held_sync (h member-Expr) (s member-Expr) (y member-Expr), tt), ((held_sync (h member-Expr) (s member-Expr) (y member-Expr), tt), tt)))))))))))))))))))))

-- trees of any depth

each_crosses : (i : knot.the_members) → Crosses knot.ring i
each_crosses member-ExprKind = record { send = λ h s y. exprkind_layer_send h s y; sync = λ h s y. exprkind_layer_sync h s y }
each_crosses member-Step = record { send = λ h s y. step_layer_send h s y; sync = λ h s y. step_layer_sync h s y }
each_crosses member-StmtKind = record { send = λ h s y. stmtkind_layer_send h s y; sync = λ h s y. stmtkind_layer_sync h s y }
each_crosses member-Arm = record { send = λ h s y. arm_layer_send h s y; sync = λ h s y. arm_layer_sync h s y }
each_crosses member-Block = record { send = λ h s y. block_layer_send h s y; sync = λ h s y. block_layer_sync h s y }
each_crosses member-Each = record { send = λ h s y. each_layer_send h s y; sync = λ h s y. each_layer_sync h s y }
each_crosses member-Expr = record { send = λ h s y. expr_layer_send h s y; sync = λ h s y. expr_layer_sync h s y }
each_crosses member-Func = record { send = λ h s y. func_layer_send h s y; sync = λ h s y. func_layer_sync h s y }
each_crosses member-Stmt = record { send = λ h s y. stmt_layer_send h s y; sync = λ h s y. stmt_layer_sync h s y }
each_crosses member-Use = record { send = λ h s y. use_layer_send h s y; sync = λ h s y. use_layer_sync h s y }

step_hole_sync : IsSync knot.hole-Step
step_hole_sync = let s = both_sync knot.ring each_crosses member-Step in record { shared = s.shared }

arm_hole_sync : IsSync knot.hole-Arm
arm_hole_sync = let s = both_sync knot.ring each_crosses member-Arm in record { shared = s.shared }

block_hole_send : IsSend knot.hole-Block
block_hole_send = let s = both_send knot.ring each_crosses member-Block in record { owned = s.owned; leaving = s.leaving }

block_hole_sync : IsSync knot.hole-Block
block_hole_sync = let s = both_sync knot.ring each_crosses member-Block in record { shared = s.shared }

expr_hole_send : IsSend knot.hole-Expr
expr_hole_send = let s = both_send knot.ring each_crosses member-Expr in record { owned = s.owned; leaving = s.leaving }

expr_hole_sync : IsSync knot.hole-Expr
expr_hole_sync = let s = both_sync knot.ring each_crosses member-Expr in record { shared = s.shared }

func_hole_send : IsSend knot.hole-Func
func_hole_send = let s = both_send knot.ring each_crosses member-Func in record { owned = s.owned; leaving = s.leaving }

func_hole_sync : IsSync knot.hole-Func
func_hole_sync = let s = both_sync knot.ring each_crosses member-Func in record { shared = s.shared }

each_hole_send : IsSend knot.hole-Each
each_hole_send = let s = both_send knot.ring each_crosses member-Each in record { owned = s.owned; leaving = s.leaving }

each_hole_sync : IsSync knot.hole-Each
each_hole_sync = let s = both_sync knot.ring each_crosses member-Each in record { shared = s.shared }

stmt_hole_send : IsSend knot.hole-Stmt
stmt_hole_send = let s = both_send knot.ring each_crosses member-Stmt in record { owned = s.owned; leaving = s.leaving }

stmt_hole_sync : IsSync knot.hole-Stmt
stmt_hole_sync = let s = both_sync knot.ring each_crosses member-Stmt in record { shared = s.shared }

use_hole_send : IsSend knot.hole-Use
use_hole_send = let s = both_send knot.ring each_crosses member-Use in record { owned = s.owned; leaving = s.leaving }

use_hole_sync : IsSync knot.hole-Use
use_hole_sync = let s = both_sync knot.ring each_crosses member-Use in record { shared = s.shared }

exprkind_send : IsSend expr_kind.the_row
exprkind_send = variants_send expr_kind.enum (tt, ((search (sendable, crosses) depth 60, tt), ((search (sendable, crosses) depth 60, tt), ((search (sendable, crosses, text_send) depth 60 fits 20000, tt), ((search (sendable, crosses, expr_hole_send) depth 60, tt), ((search (sendable, crosses, text_send, expr_hole_send) depth 60, tt), ((search (sendable, crosses, text_send) depth 60 fits 20000, tt), (tt, (tt, ((search (sendable, crosses, expr_hole_send) depth 60, (search (sendable, crosses, text_send) depth 60 fits 20000, tt)), ((search (sendable, crosses, expr_hole_send) depth 60, (search (sendable, crosses, expr_hole_send) depth 60, tt)), ((search (sendable, crosses, expr_hole_send) depth 60, (search (sendable, crosses, expr_hole_send) depth 60, tt)), ((search (sendable, crosses) depth 60, (search (sendable, crosses, expr_hole_send) depth 60, tt)), ((search (sendable, crosses) depth 60, (search (sendable, crosses, expr_hole_send) depth 60, (search (sendable, crosses, expr_hole_send) depth 60, tt))), ((search (sendable, crosses, func_hole_send, func_hole_sync) depth 60, tt), tt)))))))))))))))

expr_send : IsSend expr.the_row
expr_send = declared_send expr.the_type (search (sendable, crosses) depth 60, (search (sendable, crosses, exprkind_send) depth 60, tt))

exprkind_sync : IsSync expr_kind.the_row
exprkind_sync = variants_sync expr_kind.enum (tt, ((search (sendable, crosses) depth 60, tt), ((search (sendable, crosses) depth 60, tt), ((search (sendable, crosses, text_sync) depth 60 fits 20000, tt), ((search (sendable, crosses, expr_hole_sync) depth 60, tt), ((search (sendable, crosses, text_sync, expr_hole_sync) depth 60, tt), ((search (sendable, crosses, text_sync) depth 60 fits 20000, tt), (tt, (tt, ((search (sendable, crosses, expr_hole_sync) depth 60, (search (sendable, crosses, text_sync) depth 60 fits 20000, tt)), ((search (sendable, crosses, expr_hole_sync) depth 60, (search (sendable, crosses, expr_hole_sync) depth 60, tt)), ((search (sendable, crosses, expr_hole_sync) depth 60, (search (sendable, crosses, expr_hole_sync) depth 60, tt)), ((search (sendable, crosses) depth 60, (search (sendable, crosses, expr_hole_sync) depth 60, tt)), ((search (sendable, crosses) depth 60, (search (sendable, crosses, expr_hole_sync) depth 60, (search (sendable, crosses, expr_hole_sync) depth 60, tt))), ((search (sendable, crosses, func_hole_send, func_hole_sync) depth 60, tt), tt)))))))))))))))

expr_sync : IsSync expr.the_row
expr_sync = declared_sync expr.the_type (search (sendable, crosses) depth 60, (search (sendable, crosses, exprkind_sync) depth 60, tt))

pub func_send : IsSend func.the_row
func_send = declared_send func.the_type (search (sendable, crosses, text_send) depth 60 fits 20000, (search (sendable, crosses, use_hole_send) depth 60, (search (sendable, crosses, stmt_hole_send) depth 60, tt)))

pub func_sync : IsSync func.the_row
func_sync = declared_sync func.the_type (search (sendable, crosses, text_sync) depth 60 fits 20000, (search (sendable, crosses, use_hole_sync) depth 60, (search (sendable, crosses, stmt_hole_sync) depth 60, tt)))

pub block_send : IsSend block.the_row
block_send = declared_send block.the_type (search (sendable, crosses, stmt_hole_send) depth 60, tt)

pub block_sync : IsSync block.the_row
block_sync = declared_sync block.the_type (search (sendable, crosses, stmt_hole_sync) depth 60, tt)

pub each_send : IsSend loop.the_row
each_send = declared_send loop.the_type (search (sendable, crosses, text_send) depth 60 fits 20000, (search (sendable, crosses, text_send) depth 60 fits 20000, (search (sendable, crosses, expr_send) depth 60, tt)))

pub each_sync : IsSync loop.the_row
each_sync = declared_sync loop.the_type (search (sendable, crosses, text_sync) depth 60 fits 20000, (search (sendable, crosses, text_sync) depth 60 fits 20000, (search (sendable, crosses, expr_sync) depth 60, tt)))

stmtkind_sync : IsSync stmt_kind.the_row
stmtkind_sync = variants_sync stmt_kind.enum ((search (sendable, crosses, text_sync) depth 60 fits 20000, (search (sendable, crosses, expr_sync) depth 60, (search (sendable, crosses, use_hole_sync) depth 60, (search (sendable, crosses, block_hole_send, block_hole_sync) depth 60, tt)))), ((search (sendable, crosses, text_sync) depth 60 fits 20000, (search (sendable, crosses, expr_sync) depth 60, (search (sendable, crosses, use_hole_sync) depth 60, (search (sendable, crosses, block_hole_send, block_hole_sync) depth 60, tt)))), ((search (sendable, crosses, text_sync) depth 60 fits 20000, (search (sendable, crosses, expr_sync) depth 60, (search (sendable, crosses, text_sync) depth 60 fits 20000, (search (sendable, crosses, each_hole_send, each_hole_sync) depth 60, (search (sendable, crosses, use_hole_sync) depth 60, (search (sendable, crosses, block_hole_send, block_hole_sync) depth 60, tt)))))), ((search (sendable, crosses, expr_sync) depth 60, tt), ((search (sendable, crosses, expr_sync) depth 60, tt), ((search (sendable, crosses, expr_sync) depth 60, tt), ((search (sendable, crosses, text_sync) depth 60 fits 20000, (search (sendable, crosses) depth 60, tt)), ((search (sendable, crosses, text_sync) depth 60 fits 20000, (search (sendable, crosses) depth 60, tt)), ((search (sendable, crosses, text_sync) depth 60 fits 20000, (search (sendable, crosses, text_sync) depth 60 fits 20000, (search (sendable, crosses) depth 60, tt))), ((search (sendable, crosses, text_sync) depth 60 fits 20000, (search (sendable, crosses, expr_sync) depth 60, tt)), ((search (sendable, crosses, text_sync) depth 60 fits 20000, (search (sendable, crosses, expr_sync) depth 60, tt)), ((search (sendable, crosses, text_sync) depth 60 fits 20000, (search (sendable, crosses, step_hole_sync) depth 60, (search (sendable, crosses) depth 60, (search (sendable, crosses, expr_sync) depth 60, tt)))), ((search (sendable, crosses, arm_hole_sync) depth 60, (search (sendable, crosses, stmt_hole_sync) depth 60, tt)), ((search (sendable, crosses, expr_sync) depth 60, (search (sendable, crosses, stmt_hole_sync) depth 60, tt)), ((search (sendable, crosses, each_sync) depth 60, (search (sendable, crosses, stmt_hole_sync) depth 60, tt)), ((search (sendable, crosses, text_sync) depth 60 fits 20000, (search (sendable, crosses, func_hole_send, func_hole_sync) depth 60, tt)), ((search (sendable, crosses, expr_sync) depth 60, tt), (tt, (tt, ((search (sendable, crosses, expr_sync) depth 60, tt), ((search (sendable, crosses, expr_sync) depth 60, tt), tt)))))))))))))))))))))

pub stmt_sync : IsSync stmt.the_row
stmt_sync = declared_sync stmt.the_type (search (sendable, crosses) depth 60, (search (sendable, crosses, stmtkind_sync) depth 60, tt))
