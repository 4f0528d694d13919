use Rattle.std.proofs.Common.{◌≡◌, ◌++◌, ◌+◌, ℕ, Bool, List, [], ◌∷◌, map, filter, get_or, drop, slice_get, false, sym, ap, ◌∙◌, append-nil}
use Rattle.site_model.specs.PlainSite.{site_view}
use Rattle.run_meaning.specs.Decisions.{receives}
use Rattle.depend_graph.specs.Outlooks.{holds_in}
use Rattle.notify_rules.specs.Sent.{user_of}
use Rattle.notify_rules.specs.declared.listeners.Listener.{Listener}
use Rattle.notify_rules.proofs.Decided.{one_receiver}
use Rattle.notify_rules.proofs.Lists.{drop_next, drop_past}
use Rattle.notify_rules.proofs.receiving.receivers.Goals as goal

pub loop-listener-preserved : goal.loop-listener-preserved
loop-listener-preserved c = λ x n case all.
    let s = c.args.site.now in
    let ls = c.args.listeners.now in
    let i = c.loop-listener.listener-index in
    let d : Listener = record { user = 0; told = false } in
    let l = get_or ls i d in
    let told = c.loop-listener.told in
    let takes : ℕ → Bool = λ u. receives (holds_in (site_view s) c.args.zone.now) x n c.args.kind u (slice_get s.users u) in
    let next : map user_of (drop i ls) ≡ l.user ∷ map user_of (drop (i + 1) ls) = ap (map user_of) (drop_next i ls d c.loop-listener-test.true) in
    let so = c.receives-takes.ensures x n case (all i d c.loop-listener-test.true) in
    ap (λ (us : List ℕ). us ++ filter takes (map user_of (drop (i + 1) ls))) c.in_ok-add_where.ensures
    ∙ one_receiver takes told (map user_of (drop (i + 1) ls)) l.user c.receives-takes.result so
    ∙ ap (λ (us : List ℕ). told ++ filter takes us) (sym next) ∙ c.loop-listener.invariant x n case all

pub returns : goal.returns
returns c = λ x n case all.
    let s = c.args.site.now in
    let ls = c.args.listeners.now in
    let i = c.loop-listener.listener-index in
    let takes : ℕ → Bool = λ u. receives (holds_in (site_view s) c.args.zone.now) x n c.args.kind u (slice_get s.users u) in
    let past : drop i ls ≡ [] = drop_past i ls c.loop-listener-test.false in
    sym (append-nil c.loop-listener.told) ∙ ap (λ (rest : List Listener). c.loop-listener.told ++ filter takes (map user_of rest)) (sym past) ∙ c.loop-listener.invariant x n case all
