-- The frame of a rule's expressions in a fork of a prepared store.
use Rattle.std.proofs.Common.{refl, map, sym, ap, ◌∙◌, subst}
use Rattle.eval_meaning.specs.Frames.{first_locals}
use Rattle.eval_work.specs.Kept.{HasGlobals, IsLater, PairsNamed}
use Rattle.eval_work.specs.Works.{plain_pair}
use Rattle.eval_work.proofs.Later.{fit_later, later_later, pairs_later}
use Rattle.rule_expressions.specs.Seen.{names_of}
use Rattle.apply_rules.proofs.Running.{framed_on, ready_entered}
use Rattle.apply_rules.proofs.keeping.enter_with.Goals as goal

pub bind_trees-requires-clause-globals : goal.bind_trees-requires-clause-globals
bind_trees-requires-clause-globals c = subst HasGlobals (sym c.in_ok-store.ensures) c.requires.prepared.globals

pub bind_trees-requires-clause-named : goal.bind_trees-requires-clause-named
bind_trees-requires-clause-named c =
    let p = c.args.prepared.now in
    subst (λ s. PairsNamed s c.in_ok-bound.bound.items) (sym c.in_ok-store.ensures)
    (subst (PairsNamed p.store) (sym (c.in_ok-bound.ensures ∙ c.deref.ensures.value)) c.requires.prepared.named)

pub enter_frame-requires-clause-fit : goal.enter_frame-requires-clause-fit
enter_frame-requires-clause-fit c =
    let w = c.args.work.now in
    let first = subst (IsLater w.store) (sym c.in_ok-store.ensures) c.requires.prepared.later in
    fit_later w (record w { store = c.bind_trees.new.store }) c.requires.fit (later_later w.store c.in_ok-store.store c.bind_trees.new.store first c.in_ok-bind_trees.ensures.later) refl refl refl

pub enter_frame-requires-clause-captured : goal.enter_frame-requires-clause-captured
enter_frame-requires-clause-captured c =
    let w = c.args.work.now in
    let first = subst (IsLater w.store) (sym c.in_ok-store.ensures) c.requires.prepared.later in
    let later = later_later w.store c.in_ok-store.store c.bind_trees.new.store first c.in_ok-bind_trees.ensures.later in
    subst (PairsNamed c.bind_trees.new.store) (sym c.deref-2.ensures.value) (pairs_later w.store c.bind_trees.new.store c.args.rule.now.captured.items later c.requires.captured)

pub returns-clause-state : goal.returns-clause-state
returns-clause-state c =
    let w = c.args.work.now in
    let captured = c.args.rule.now.captured.items in
    framed_on captured (names_of c.args.prepared.now.subject) (map plain_pair c.args.own.now) w c.in_ok-store.store c.bind_trees.new.store c.in_ok-bound.bound.items c.bind_trees.new.bound.items
    (first_locals c.deref-2.result.now c.deref-3.result.now)
    (c.in_ok-store.ensures ∙ c.requires.prepared.store)
    (c.in_ok-bound.ensures ∙ (c.deref.ensures.value ∙ c.requires.prepared.bound))
    c.in_ok-bind_trees.ensures.store
    c.in_ok-bind_trees.ensures.pairs
    (ap (λ ps. first_locals ps c.deref-3.result.now) c.deref-2.ensures.value ∙ ap (first_locals captured) c.deref-3.ensures.value)
    c.enter_frame.result c.enter_frame.new.work c.enter_frame.ensures.frame

pub returns-clause-ready : goal.returns-clause-ready
returns-clause-ready c = λ v h.
    let w = c.args.work.now in
    let first = subst (IsLater w.store) (sym c.in_ok-store.ensures) c.requires.prepared.later in
    ready_entered _ _ _ c.enter_frame.result v w (record w { store = c.bind_trees.new.store }) c.enter_frame.new.work h
    (later_later w.store c.in_ok-store.store c.bind_trees.new.store first c.in_ok-bind_trees.ensures.later) refl c.enter_frame.ensures.frame c.enter_frame.ensures.fit
