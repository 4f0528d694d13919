use Rattle.std.proofs.Common.{◌≡◌, ◌&&◌, ◌||◌, not, Bool, List, map, get_or, reverse, sym, ap, ◌∙◌, All, subst}
use Rattle.site_model.specs.PlainSite.{PlainCheck, site_view}
use Rattle.site_model.specs.declared.check_spec.CheckSpec.{CheckSpec}
use Rattle.site_model.specs.declared.decision.Decision.{Decision}
use Rattle.site_model.specs.declared.event.Event.{Event}
use Rattle.site_model.specs.declared.view.View.{View}
use Rattle.run_meaning.specs.Decisions.{decided_from, is_hard, is_result, kinds_of}
use Rattle.run_meaning.specs.View.{same_state}
use Rattle.notify_rules.specs.Case.{decided_on}
use Rattle.depend_graph.specs.Outlooks.{holds_in}
use Rattle.notify_rules.specs.Sent.{HasUsers, Remembers, number_of}
use Rattle.notify_rules.proofs.Decided.{all_decided, case_of, empty, if_ok, nothing_decided, spec_at}
use Rattle.notify_rules.proofs.deciding.decide.Goals as goal

pub returns-then-is_empty : goal.returns-then-is_empty
returns-then-is_empty c = λ check h e seen at stands asks.
    let s = site_view c.args.site.now in
    let zone = c.args.zone.now in
    let x = case_of s zone c.args.checkable check h e seen in
    let kinds = c.in_ok-kinds.kinds in
    let by = c.in_ok-kinds.ensures e asks.event asks.taken ∙ ap (λ (v : View). kinds_of v c.args.after.now e) asks.before ∙ ap (λ (v : View). kinds_of x.before v e) asks.after in
    let none = empty kinds (sym c.is_empty.ensures ∙ c.if-is_empty.true) in
    c.new.ensures ∙ nothing_decided s (holds_in s zone) x c.args.checkable kinds none by

pub returns : goal.returns
returns c = λ check h e seen at stands asks.
    let s = site_view c.args.site.now in
    let zone = c.args.zone.now in
    let k = c.args.checkable in
    let holds = holds_in s zone in
    let x = case_of s zone k check h e seen in
    let kinds = c.in_ok-kinds.kinds in
    let by = c.in_ok-kinds.ensures e asks.event asks.taken ∙ ap (λ (v : View). kinds_of v c.args.after.now e) asks.before ∙ ap (λ (v : View). kinds_of x.before v e) asks.after in
    let d = c.index-as_slice-checkable.result in
    let spec = ap (λ (cs : List CheckSpec). (get_or cs k d).volatile) c.as_slice.ensures ∙ ap (λ (y : PlainCheck). y.volatile) (spec_at c.args.site.now.checkables k d check at) in
    let was = c.args.before.now in
    let now = c.args.after.now in
    let v = c.args.event.now in
    let fresh =
    c.is_fresh.ensures ∙ ap (λ (b : Bool). is_result v && (not (is_hard was && same_state was.state now.state) || b)) spec
    ∙ ap (λ (w : View). is_result v && (not (is_hard w && same_state w.state now.state) || check.volatile)) asks.before
    ∙ ap (λ (w : View). is_result v && (not (is_hard x.before && same_state x.before.state w.state) || check.volatile)) asks.after
    ∙ ap (λ (y : Event). is_result y && (not (is_hard x.before && same_state x.before.state x.after.state) || check.volatile)) (sym asks.event) in
    let rs = c.notes.result.now in
    let same : rs ≡ c.args.sent.now.notes = c.notes.ensures in
    let kept = subst (All (Remembers check (reverse h))) (sym same) stands.remembers in
    let have = subst (All (HasUsers s.notifies)) (sym same) stands.users in
    if_ok (λ (ds : List Decision). ds ≡ decided_on s holds x c.as_slice-2.result.now (map number_of rs)) (λ ds. ds ≡ decided_from s holds x k 0 s.notifies)
    (λ ds is. is ∙ all_decided s holds x k c.as_slice-2.result.now (map number_of rs) (c.as_slice-2.ensures ∙ by) (ap (map number_of) same ∙ stands.notes))
    c.decide_all.result (c.decide_all.ensures x (record { after = asks.after; fresh = fresh; reach = asks.reach; downtime = asks.downtime; moment = sym asks.moment }) stands.in_order kept have)
