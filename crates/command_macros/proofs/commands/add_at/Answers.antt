use Rattle.std.proofs.Common.{◌≡◌, None, Some, Ok, sym, subst, arith}
use Rattle.std.proofs.lemmas.Grind.{common_steps}
use Rattle.std.proofs.lemmas.Option.{gets}
use Rattle.std.specs.List.{slice_get}
use Rattle.site_base.specs.View.{view}
use Rattle.command_macros.specs.Arguments.{words, in_front, argument_words}
use Rattle.command_macros.specs.Macros.{own_made}
use Rattle.command_macros.specs.Returns.{Adds}
use Rattle.command_macros.specs.Scopes.{scope_view}
use Rattle.command_macros.specs.Sorted.{words_at}
use Rattle.command_macros.proofs.ArgumentLaws.{adds_nothing}
use Rattle.command_macros.proofs.commands.add_at.Goals as goal

pub returns-in-None : goal.returns-in-None
returns-in-None c =
    let none : slice_get c.args.arguments.now c.args.place ≡ None = grind (arith, common_steps, gets) in
    subst (λ r. in_front c.args.words.now (words_at (own_made (scope_view c.args.scope.now)) r) ≡ words c.args.words.now) (sym none) (adds_nothing c.args.words.now)

pub returns-in-Some : goal.returns-in-Some
returns-in-Some c =
    let some : slice_get c.args.arguments.now c.args.place ≡ Some c.in-Some.pair.now = grind (arith, common_steps, gets) in
    subst (λ r. Adds c.args.words.now c.add_argument.new.words c.add_argument.result (words_at (own_made (scope_view c.args.scope.now)) r)) (sym some)
    (subst (λ k. Adds c.args.words.now c.add_argument.new.words c.add_argument.result (argument_words (own_made (scope_view c.args.scope.now)) k (view c.in-Some.pair.now.1))) c.as_str.ensures c.add_argument.ensures)
