use Rattle.std.proofs.Common.{◌≡◌, ◌++◌, ◌+◌, List, [], ◌∷◌, drop, get_or, sym, ap, ◌∙◌, append_assoc, append-nil}
use Rattle.site_model.specs.PlainSite.{site_view}
use Rattle.site_model.specs.declared.decision.Decision.{Decision}
use Rattle.site_model.specs.declared.note_kind.NoteKind.{NoteKind}
use Rattle.site_model.specs.declared.note_kind.NoteKind.TheVariants as kind
use Rattle.site_model.specs.declared.outcome.Outcome.{Outcome}
use Rattle.notify_rules.specs.Case.{decided_for}
use Rattle.depend_graph.specs.Outlooks.{holds_in}
use Rattle.notify_rules.proofs.Lists.{drop_next, drop_past}
use Rattle.notify_rules.proofs.deciding.decide_kinds.Goals as goal

pub loop-kind-preserved : goal.loop-kind-preserved
loop-kind-preserved c = λ x case order kept same.
    let s = site_view c.args.site.now in
    let holds = holds_in s c.args.zone.now in
    let n = c.args.sent.now.notification in
    let note = c.args.note.now in
    let ks = c.args.kinds.now in
    let i = c.loop-kind.kind-index in
    let k = get_or ks i kind.Problem in
    let old = c.loop-kind.decisions in
    let rest = decided_for s holds x (drop (i + 1) ks) n note in
    let next : drop i ks ≡ k ∷ drop (i + 1) ks = drop_next i ks kind.Problem c.loop-kind-test.true in
    let made = λ (o : Outcome). (old ++ record { notification = n; kind = k; outcome = o } ∷ []) ++ rest in
    ap (λ (ds : List Decision). ds ++ rest) c.in_ok-push.ensures.ok ∙ ap made (c.in_ok-outcome.ensures x case order kept same)
    ∙ append_assoc old _ rest ∙ ap (λ (zs : List NoteKind). old ++ decided_for s holds x zs n note) (sym next) ∙ c.loop-kind.invariant x case order kept same

pub returns : goal.returns
returns c = λ x case order kept same.
    let s = site_view c.args.site.now in
    let holds = holds_in s c.args.zone.now in
    let past : drop c.loop-kind.kind-index c.args.kinds.now ≡ [] = drop_past c.loop-kind.kind-index c.args.kinds.now c.loop-kind-test.false in
    sym (append-nil c.loop-kind.decisions)
    ∙ ap (λ (zs : List NoteKind). c.loop-kind.decisions ++ decided_for s holds x zs c.args.sent.now.notification c.args.note.now) (sym past)
    ∙ c.loop-kind.invariant x case order kept same
