use Rattle.std.proofs.Common.{◌≡◌, ◌++◌, OnOk, sym, subst, ◌∙◌}
use Rattle.std.specs.Bool.{Decides}
use Rattle.std.specs.Option.{option_copied}
use Rattle.site_phases.specs.Constants.{AreBadBytes, lent_tree}
use Rattle.site_phases.proofs.ZoneLaws.{named_faults, named_file, unnamed_faults}
use Rattle.site_phases.proofs.constants.push_zone.Goals as goal

pub returns-then-names_file : goal.returns-then-names_file
returns-then-names_file c = λ bad d.
    let value = lent_tree c.args.value in
    let named = sym c.names_file.ensures ∙ c.if-names_file.true in
    subst (λ ds. OnOk c.push_file.result (c.push_file.new.out ≡ c.args.out.now ++ ds)) (sym (named_faults value bad named))
    (c.push_file.ensures bad (subst (λ f. Decides bad (AreBadBytes f)) (named_file value (option_copied c.args.file) named) d))

pub returns : goal.returns
returns c = λ bad d.
    let value = lent_tree c.args.value in
    subst (λ ds. OnOk c.push_other.result (c.push_other.new.out ≡ c.args.out.now ++ ds)) (sym (unnamed_faults value bad (sym c.names_file.ensures ∙ c.if-names_file.false))) c.push_other.ensures
