-- A text without a dollar sign is a word as it is.
use Rattle.std.proofs.Common.{sym, ap, ◌∙◌, suc, []}
use Rattle.site_base.specs.Data.{Data}
use Rattle.command_macros.specs.Arguments.{as_word, in_front, words}
use Rattle.command_macros.specs.Macros.{deepest, macro_made, own_made}
use Rattle.command_macros.specs.Made.{Made, made}
use Rattle.command_macros.specs.Scopes.{scope_view}
use Rattle.command_macros.specs.Values.{value_made}
use Rattle.command_macros.proofs.PieceLaws.{text_plain}
use Rattle.command_macros.proofs.values.add_word.Goals as goal

pub returns-in-Some : goal.returns-in-Some
returns-in-Some c =
    let scope = scope_view c.args.scope.now in
    let before = c.args.words.now in
    let found = rw c.in-Some.is at c.in_ok-word.ensures in
    ap (λ (d : Data). in_front before (as_word (value_made (own_made scope) (made []) d))) found.0
    ∙ ap (λ (m : Made). in_front before (as_word m)) (text_plain (macro_made scope (suc deepest)) c.in-Some.word found.1)
    ∙ ap words (sym c.in_ok-push.ensures.ok)
