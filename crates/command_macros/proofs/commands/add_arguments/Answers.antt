use Rattle.std.proofs.Common.{◌≡◌, [], ◌∷◌, append-nil, sym, ap, subst, ◌∙◌, Err}
use Rattle.std.specs.List.{slice_get}
use Rattle.site_base.specs.View.{pairs_view}
use Rattle.command_macros.specs.Arguments.{words, in_front}
use Rattle.command_macros.specs.Macros.{own_made}
use Rattle.command_macros.specs.Orders.{in_order}
use Rattle.command_macros.specs.Resolved.{arguments_words}
use Rattle.command_macros.specs.Returns.{Adds}
use Rattle.command_macros.specs.Scopes.{scope_view}
use Rattle.command_macros.specs.Sorted.{places_from, words_at, words_along}
use Rattle.command_macros.proofs.ArgumentLaws.{adds_then, adds_stop}
use Rattle.command_macros.proofs.OrderLaws.{ordered_words}
use Rattle.command_macros.proofs.commands.add_arguments.Goals as goal

pub loop-entry-preserved : goal.loop-entry-preserved
loop-entry-preserved c =
    let text = own_made (scope_view c.args.scope.now) in
    let args = c.args.arguments.now in
    let all = words_along text args (places_from (pairs_view args) 0 []) in
    let front : c.loop-entry.entry-iterator ≡ c.in-Some.entry ∷ c.next.new.self = c.in-Some.ensures.steps in
    adds_then c.args.words.now c.loop-entry.words c.add_at.new.words all (words_at text (slice_get args c.in-Some.entry.0.1)) (words_along text args c.next.new.self)
    (subst (λ es. in_front c.loop-entry.words (words_along text args es) ≡ in_front c.args.words.now all) front c.loop-entry.invariant) c.in-Ok.ensures

pub returns-in-Err : goal.returns-in-Err
returns-in-Err c =
    let text = own_made (scope_view c.args.scope.now) in
    let args = c.args.arguments.now in
    let all = words_along text args (places_from (pairs_view args) 0 []) in
    let front : c.loop-entry.entry-iterator ≡ c.in-Some.entry ∷ c.next.new.self = c.in-Some.ensures.steps in
    subst (λ w. Adds {A = Unit {0}} c.args.words.now c.add_at.new.words (Err c.in-Err.stop) w) (ordered_words text args)
    (adds_stop (Unit {0}) (Unit {0}) c.args.words.now c.loop-entry.words c.add_at.new.words c.add_at.new.words all (words_at text (slice_get args c.in-Some.entry.0.1)) (words_along text args c.next.new.self) c.in-Err.stop
    (subst (λ es. in_front c.loop-entry.words (words_along text args es) ≡ in_front c.args.words.now all) front c.loop-entry.invariant) c.in-Err.ensures)

pub returns : goal.returns
returns c =
    let text = own_made (scope_view c.args.scope.now) in
    let args = c.args.arguments.now in
    let none : c.loop-entry.entry-iterator ≡ [] = c.in-None.ensures.steps.0 in
    ap (in_front c.args.words.now) (sym (ordered_words text args))
    ∙ (sym (subst (λ es. in_front c.loop-entry.words (words_along text args es) ≡ in_front c.args.words.now (words_along text args (places_from (pairs_view args) 0 []))) none c.loop-entry.invariant)
    ∙ ap words (append-nil c.loop-entry.words))
