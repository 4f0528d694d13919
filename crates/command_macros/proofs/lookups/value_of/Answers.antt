use Rattle.std.proofs.Common.{sym, ◌∙◌}
use Rattle.command_macros.specs.Scopes.{scope_view}
use Rattle.command_macros.proofs.LookupLaws.{value_plain, value_cut}
use Rattle.command_macros.proofs.lookups.value_of.Goals as goal

pub returns-in_default : goal.returns-in_default
returns-in_default c = c.value_of_name.ensures ∙ sym (value_plain (scope_view c.args.scope.now) c.args.name.now c.in_default.ensures)

pub returns : goal.returns
returns c =
    c.value_of_path.ensures
    ∙ sym (value_cut (scope_view c.args.scope.now) c.args.name.now c.in-Some.first.now c.in-Some.path.now c.in-Some.ensures.0 c.in-Some.ensures.1)
