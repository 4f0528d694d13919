use Rattle.std.proofs.Common.{◌≡◌, ℕ, Bool, List, [], All, reverse, map, filter, slice_get, sym, ap, ◌∙◌, subst}
use Rattle.site_model.specs.PlainSite.{site_view}
use Rattle.run_meaning.specs.Decisions.{has_received, receives, receivers, sent_to}
use Rattle.notify_rules.specs.Case.{common_causes, own_causes, sent_from}
use Rattle.depend_graph.specs.Outlooks.{holds_in}
use Rattle.notify_rules.specs.Sent.{user_of}
use Rattle.notify_rules.specs.declared.listeners.Listener.{Listener}
use Rattle.notify_rules.proofs.Decided.{first_of_front, gone_of_front, since_is}
use Rattle.notify_rules.proofs.outcomes.outcome_of.Goals as goal

pub returns-in-Some : goal.returns-in-Some
returns-in-Some c = λ x case order kept same.
    let s = site_view c.args.site.now in
    let holds = holds_in s c.args.zone.now in
    let n = c.args.sent.now.notification in
    let last = sent_to (receivers s holds x n c.args.note.now c.args.kind) in
    sym (first_of_front last c.in-Some.cause (common_causes x c.args.kind) (own_causes holds x n c.args.note.now c.args.kind) (c.in-Some.ensures x case))

pub returns-in-Some-own_cause : goal.returns-in-Some-own_cause
returns-in-Some-own_cause c = λ x case order kept same.
    let s = site_view c.args.site.now in
    let holds = holds_in s c.args.zone.now in
    let n = c.args.sent.now.notification in
    let last = sent_to (receivers s holds x n c.args.note.now c.args.kind) in
    let own = own_causes holds x n c.args.note.now c.args.kind in
    let since = λ (from : ℕ). since_is n from (reverse x.history) order ∙ sym (ap (sent_from from) kept.problem) in
    sym (gone_of_front last (common_causes x c.args.kind) own c.common_cause.result (c.common_cause.ensures x case) c.in_default.not-Some ∙ first_of_front last c.in-Some-own_cause.cause own [] (c.in-Some-own_cause.ensures x n case since))

pub returns : goal.returns
returns c = λ x case order kept same.
    let s = site_view c.args.site.now in
    let holds = holds_in s c.args.zone.now in
    let n = c.args.sent.now.notification in
    let last = sent_to (receivers s holds x n c.args.note.now c.args.kind) in
    let own = own_causes holds x n c.args.note.now c.args.kind in
    let since = λ (from : ℕ). since_is n from (reverse x.history) order ∙ sym (ap (sent_from from) kept.problem) in
    let takes : ℕ → Bool = λ u. receives holds x n c.args.kind u (slice_get s.users u) in
    let listed = subst (λ (ls : List Listener). All (λ l. l.told ≡ has_received x.check n l.user (reverse x.history)) ls) (sym c.as_slice.ensures) kept.told in
    let to = c.in_ok-told.ensures x n case listed ∙ ap (λ (ls : List Listener). filter takes (map user_of ls)) c.as_slice.ensures ∙ ap (filter takes) same in
    c.sent_to.ensures ∙ ap sent_to to
    ∙ sym (gone_of_front last (common_causes x c.args.kind) own c.common_cause.result (c.common_cause.ensures x case) c.in_default.not-Some
    ∙ gone_of_front last own [] c.own_cause.result (c.own_cause.ensures x n case since) c.in_default-own_cause.not-Some)
