use Rattle.std.proofs.Common.{◌≡◌, ◌&&◌, Bool, List, [], ◌∷◌, ◌++◌, map, sym, refl, ap, ◌∙◌}
use Rattle.site_model.specs.declared.event.Event.{Event}
use Rattle.site_model.specs.declared.view.View.{View}
use Rattle.notify_rules.specs.Case.{gives_kinds, has_any}
use Rattle.notify_rules.specs.Sent.{number_of}
use Rattle.depend_graph.specs.Outlooks.{holds_in}
use Rattle.run_meaning.specs.Decisions.{kinds_of}
use Rattle.notify_rules.proofs.Decided.{all_decided, any_decided, case_of, given, none_there, some_there}
use Rattle.notify_rules.proofs.deciding.decides.Goals as goal

pub returns-then-is_empty-clause-any : goal.returns-then-is_empty-clause-any
returns-then-is_empty-clause-any c = λ s zone k check h e seen stands was is at taken.
    let x = case_of s zone k check h e seen in
    let kinds = kinds_of x.before x.after e in
    let rs = c.args.sent.now.notes in
    ap (λ (b : Bool). b && has_any kinds) (sym (none_there rs (sym c.is_empty.ensures ∙ c.if-is_empty.true)))
    ∙ sym (any_decided s (holds_in s zone) x kinds rs stands.users)
    ∙ ap has_any (all_decided s (holds_in s zone) x k kinds (map number_of rs) refl stands.notes)

pub returns-clause-any : goal.returns-clause-any
returns-clause-any c = λ s zone k check h e seen stands was is at taken.
    let x = case_of s zone k check h e seen in
    let kinds = kinds_of x.before x.after e in
    let rs = c.args.sent.now.notes in
    c.gives_kinds.ensures
    ∙ ap (λ (v : View). gives_kinds v c.args.after.now c.args.event.now c.args.taken) was
    ∙ ap (λ (v : View). gives_kinds x.before v c.args.event.now c.args.taken) is
    ∙ ap (λ (v : Event). gives_kinds x.before x.after v c.args.taken) (sym at)
    ∙ ap (λ (b : Bool). gives_kinds x.before x.after e.event b) (sym taken)
    ∙ given x.before x.after e
    ∙ ap (λ (b : Bool). b && has_any kinds) (sym (some_there rs (sym c.is_empty.ensures ∙ c.if-is_empty.false)))
    ∙ sym (any_decided s (holds_in s zone) x kinds rs stands.users)
    ∙ ap has_any (all_decided s (holds_in s zone) x k kinds (map number_of rs) refl stands.notes)
