-- The list of segments is the definition's, so what is quiet is so by the law.
use Rattle.std.proofs.Common.{◌≡◌, ◌+◌, ◌∙◌, sym, ap, subst, filter}
use Rattle.down_recur.proofs.Quiet.{quiet_behind, quiet_from}
use Rattle.down_recur.specs.Due.{IsQuiet, by_start, horizon_of, is_due, least_start}
use Rattle.down_recur.specs.Segments.{segments_around}
use Rattle.down_recur.proofs.looking.look.Goals as goal
use Rattle.down_recur.proofs.looking.look.Goals.{After-drop-segments-2}

least_is : (c : After-drop-segments-2) → c.least_start-next.result ≡ least_start c.args.window.till (horizon_of c.args.moment) (segments_around c.args.zone.now c.args.moment c.args.spans.now)
least_is c =
    c.least_start-next.ensures ∙ ap (λ most. least_start c.args.window.till most c.deref.result.now) c.horizon.ensures
    ∙ ap (least_start c.args.window.till (horizon_of c.args.moment)) (c.deref.ensures.value ∙ c.in_ok-segments.ensures)

due_is : (c : After-drop-segments-2) → c.in_ok-due.due.items ≡ by_start (filter (is_due c.args.window.from c.args.window.till c.args.moment) (segments_around c.args.zone.now c.args.moment c.args.spans.now))
due_is c =
    c.in_ok-due.ensures
    ∙ ap (λ l. by_start (filter (is_due c.args.window.from c.args.window.till c.args.moment) l)) (c.deref-2.ensures.value ∙ c.in_ok-segments.ensures)

pub returns-clause-next : goal.returns-clause-next
returns-clause-next c =
    subst (IsQuiet c.args.zone.now c.args.spans.now (c.args.window.till + 1) c.args.moment) (sym (least_is c))
    (quiet_behind c.args.zone.now c.args.spans.now c.args.window.till c.args.moment)

pub returns-clause-none : goal.returns-clause-none
returns-clause-none c none =
    subst (IsQuiet c.args.zone.now c.args.spans.now c.args.window.from c.args.moment) (sym (least_is c))
    (quiet_from c.args.zone.now c.args.spans.now c.args.window.from c.args.window.till c.args.moment c.requires (sym (due_is c) ∙ none))
