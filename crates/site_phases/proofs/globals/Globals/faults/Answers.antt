use Rattle.std.proofs.Common.{◌++◌, sym, ap, subst, ◌∙◌}
use Rattle.std.specs.Bool.{Decides}
use Rattle.std.specs.Option.{option_copied}
use Rattle.site_phases.specs.Constants.{AreBadBytes, fault_unless, file_used, orders_by, tree_view, zone_faults}
use Rattle.site_phases.proofs.globals.Globals.faults.Goals as goal

pub returns : goal.returns
returns c = λ bad d.
    let zone = tree_view c.args.self.now.site_zone in
    c.in_ok-push_zone.ensures bad
    (subst (λ v. Decides bad (AreBadBytes (file_used v (option_copied c.as_ref.result)))) (sym c.lent-2.ensures)
    (subst (λ f. Decides bad (AreBadBytes (file_used zone f))) (sym c.as_ref.ensures.value) d))
    ∙ ap (λ v. c.push_unless.new.out ++ zone_faults v bad) c.lent-2.ensures
    ∙ ap (λ xs. xs ++ zone_faults zone bad)
    (c.in_ok-push_unless.ensures
    ∙ ap (λ xs. xs ++ fault_unless c.orders_in.result) c.new-faults.ensures
    ∙ ap fault_unless (c.orders_in.ensures.value ∙ ap orders_by c.lent.ensures))
