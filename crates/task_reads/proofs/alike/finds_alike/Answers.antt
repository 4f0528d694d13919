use Rattle.std.proofs.Common.{◌≡◌, false, Option, sym, ap, subst}
use Rattle.std.specs.Prelude.{IfOk, option_map}
use Rattle.std.specs.Arc.{arc_value}
use Rattle.std.specs.Bool.{Decides}
use Rattle.site_base.specs.Data.{Data}
use Rattle.site_base.specs.View.{view as tree_view}
use Rattle.site_base.specs.declared.tree.Tree.{Tree}
use Rattle.eval_work.specs.Works.{view_of}
use Rattle.task_reads.specs.Looks.{IsSeenIn}
use Rattle.task_reads.proofs.Finding.{absent_decides, never_absent, never_shown, shown_decides}
use Rattle.task_reads.proofs.alike.finds_alike.Goals as goal

pub returns-in-Some-Some : goal.returns-in-Some-Some
returns-in-Some-Some c =
    let world = view_of c.args.world.now in
    let r = c.args.look.now.read in
    let d = tree_view c.in-Some-Some.tree.now in
    subst (λ (o : Option Data). IfOk c.are_equal.result (λ b. Decides b (IsSeenIn world (record { read = r; tree = o })))) (sym (ap (option_map (λ t. tree_view (arc_value t))) c.in-Some-Some.is-1))
    (shown_decides world r d (tree_view (arc_value c.in-Some-Some.found)) c.are_equal.result c.in-Some-Some.ensures.found
    (subst (λ (t : Tree). IfOk c.are_equal.result (λ b. Decides b (d ≡ tree_view t))) c.deref.ensures c.are_equal.ensures))

pub returns-in-None-None : goal.returns-in-None-None
returns-in-None-None c =
    let world = view_of c.args.world.now in
    let r = c.args.look.now.read in
    subst (λ (o : Option Data). Decides c.is_absent.result (IsSeenIn world (record { read = r; tree = o }))) (sym (ap (option_map (λ t. tree_view (arc_value t))) c.in-None-None.is-1))
    (absent_decides world r c.is_absent.result c.in-None-None.ensures.absent c.is_absent.ensures)

pub returns-in_default : goal.returns-in_default
returns-in_default c =
    let world = view_of c.args.world.now in
    let r = c.args.look.now.read in
    subst (λ (o : Option Data). Decides false (IsSeenIn world (record { read = r; tree = o }))) (sym (ap (option_map (λ t. tree_view (arc_value t))) c.in_default.is-1))
    (never_absent world r (tree_view c.in_default.field-0-0.now) c.in_default.ensures.found)

pub returns-in_default-2 : goal.returns-in_default-2
returns-in_default-2 c =
    let world = view_of c.args.world.now in
    let r = c.args.look.now.read in
    subst (λ (o : Option Data). Decides false (IsSeenIn world (record { read = r; tree = o }))) (sym (ap (option_map (λ t. tree_view (arc_value t))) c.in_default.is-1))
    (never_shown world r (tree_view (arc_value c.in_default.field-0-1)) c.in_default.ensures.absent)
