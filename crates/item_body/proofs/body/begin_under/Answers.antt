use Rattle.std.proofs.Common.{[], length, refl, sym, ap, subst, ◌∙◌}
use Rattle.dsl_value.specs.Pairs.{dict_of}
use Rattle.dsl_value.specs.PlainStores.{plain_store}
use Rattle.eval_meaning.specs.Frames.{first_locals}
use Rattle.eval_meaning.specs.States.{item}
use Rattle.eval_work.specs.Kept.{IsTold, PairsNamed}
use Rattle.eval_work.specs.Works.{plain_item}
use Rattle.eval_work.proofs.Later.{later_later, pairs_later, told_later}
use Rattle.eval_work.proofs.Named.{all_named}
use Rattle.commit_meaning.specs.Starts.{fresh}
use Rattle.item_body.specs.Bodies.{under_names}
use Rattle.item_body.proofs.Beginning.{at_body}
use Rattle.item_body.proofs.body.begin_under.Goals as goal

pub begin-work-requires-clause-bound : goal.begin-work-requires-clause-bound
begin-work-requires-clause-bound c =
    let s = c.new_this.new.store in
    let bound = pairs_later c.args.bound.store s c.args.bound.names.items c.in_ok-this.ensures.later c.requires.usable.named in
    all_named (length s.cells) (length s.functions) c.deref.result.now [] c.in_ok-by_name.field-0 c.in_ok-by_name.ensures tt (subst (PairsNamed s) (sym c.deref.ensures.value) bound)

pub enter_frame-requires-clause-captured : goal.enter_frame-requires-clause-captured
enter_frame-requires-clause-captured c =
    let first = c.args.view.now.store.now in
    let s = c.new_this.new.store in
    let later = later_later first c.args.bound.store s c.requires.usable.later c.in_ok-this.ensures.later in
    let captured = pairs_later first s c.args.item.now.captured.items later c.requires.runnable.captured in
    subst (λ x. PairsNamed x c.deref-2.result.now) (sym c.begin-work.ensures.store) (subst (PairsNamed s) (sym c.deref-2.ensures.value) captured)

pub enter_frame-requires-clause-bound : goal.enter_frame-requires-clause-bound
enter_frame-requires-clause-bound c =
    let s = c.new_this.new.store in
    let bound = pairs_later c.args.bound.store s c.args.bound.names.items c.in_ok-this.ensures.later c.requires.usable.named in
    subst (λ x. PairsNamed x c.deref-3.result.now) (sym c.begin-work.ensures.store) (subst (PairsNamed s) (sym c.deref-3.ensures.value) bound)

pub returns-clause-left : goal.returns-clause-left
returns-clause-left c = λ ns b.
    let i = plain_item c.args.item.now in
    let s = c.new_this.new.store in
    let names = c.in_ok-by_name.field-0 in
    at_body c.args.view.now (under_names ns i) c.args.view.now.store.now c.args.bound.store s c.args.bound.names.items names (first_locals c.deref-2.result.now c.deref-3.result.now) c.in_ok-this.this c.begin-work.result
    c.enter_frame.new.work
    refl
    b.store
    b.pairs
    c.in_ok-this.ensures.store
    c.in_ok-this.ensures.value
    (c.in_ok-by_name.ensures ∙ ap (λ ps. dict_of ps []) c.deref.ensures.value)
    (ap (λ ps. first_locals ps c.deref-3.result.now) c.deref-2.ensures.value ∙ ap (first_locals i.captured) c.deref-3.ensures.value)
    (c.begin-work.ensures.state ∙ ap (λ k. fresh (plain_store s) (item k names) c.new.result.items) c.in_ok-clone.ensures.cases ∙ ap (fresh (plain_store s) (item i.kind names)) c.new.ensures.items)
    c.in_ok-enter_frame.ensures.frame

pub returns-clause-ready : goal.returns-clause-ready
returns-clause-ready c =
    let v = c.args.view.now in
    let s = c.new_this.new.store in
    let frame = c.in_ok-enter_frame.ensures.frame in
    let later = later_later v.store.now c.args.bound.store s c.requires.usable.later c.in_ok-this.ensures.later in
    record {
      fit = c.in_ok-enter_frame.ensures.fit;
      told = subst (λ w. IsTold v w.store) (sym frame) (subst (IsTold v) (sym c.begin-work.ensures.store) (told_later v v.store.now s later c.requires.runnable.view.told));
      depth = ap (λ w. w.depth) frame ∙ c.begin-work.ensures.depth;
    }
