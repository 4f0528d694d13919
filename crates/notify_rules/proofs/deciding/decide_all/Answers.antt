use Rattle.std.proofs.Common.{◌≡◌, ◌++◌, ◌+◌, List, [], ◌∷◌, map, drop, reverse, slice_get, sym, ap, ◌∙◌, append_assoc, append-nil, subst}
use Rattle.site_model.specs.PlainSite.{site_view}
use Rattle.site_model.specs.declared.decision.Decision.{Decision}
use Rattle.notify_rules.specs.Case.{decided_on, decided_where}
use Rattle.depend_graph.specs.Outlooks.{holds_in}
use Rattle.notify_rules.specs.Sent.{HasUsers, Remembers, number_of}
use Rattle.notify_rules.specs.declared.sent_note.SentNote.{SentNote}
use Rattle.notify_rules.proofs.Lists.{drop_next, drop_past}
use Rattle.notify_rules.proofs.deciding.decide_all.Goals as goal

pub loop-sent-preserved : goal.loop-sent-preserved
loop-sent-preserved c = λ x case order kept have.
    let s = site_view c.args.site.now in
    let holds = holds_in s c.args.zone.now in
    let kinds = c.args.kinds.now in
    let rs = c.args.notes.now in
    let i = c.loop-sent.sent-index in
    let r = c.sent-item.result in
    let old = c.loop-sent.decisions in
    let within = c.loop-sent-test.true in
    let here = decided_where s holds x kinds r.notification (slice_get s.notifies r.notification) in
    let rest = decided_on s holds x kinds (map number_of (drop (i + 1) rs)) in
    let next : drop i rs ≡ r ∷ drop (i + 1) rs = drop_next i rs r within ∙ ap (λ (y : SentNote). y ∷ drop (i + 1) rs) (sym c.sent-item.is) in
    let remembers = subst (Remembers x.check (reverse x.history)) (sym c.sent-item.is) (kept i r within) in
    let has = subst (HasUsers s.notifies) (sym c.sent-item.is) (have i r within) in
    ap (λ (ds : List Decision). ds ++ rest) (c.in_ok-decide_note.ensures x case order remembers has)
    ∙ append_assoc old here rest ∙ ap (λ (ys : List SentNote). old ++ decided_on s holds x kinds (map number_of ys)) (sym next)
    ∙ c.loop-sent.invariant x case order kept have

pub returns : goal.returns
returns c = λ x case order kept have.
    let s = site_view c.args.site.now in
    let holds = holds_in s c.args.zone.now in
    let past : drop c.loop-sent.sent-index c.args.notes.now ≡ [] = drop_past c.loop-sent.sent-index c.args.notes.now c.loop-sent-test.false in
    sym (append-nil c.loop-sent.decisions)
    ∙ ap (λ (ys : List SentNote). c.loop-sent.decisions ++ decided_on s holds x c.args.kinds.now (map number_of ys)) (sym past)
    ∙ c.loop-sent.invariant x case order kept have
