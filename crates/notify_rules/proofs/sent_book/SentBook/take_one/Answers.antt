use Rattle.std.proofs.Common.{◌≡◌, List, length, map, get_or, set, Some, None, sym, ap, ◌∙◌, arith, subst, length-set}
use Rattle.std.proofs.lemmas.List.Elements.{All-get_or}
use Rattle.site_model.specs.Sound.{AreDistinct}
use Rattle.notify_rules.specs.Sent.{user_of, is_note, taken, IsAt}
use Rattle.notify_rules.specs.declared.sent_note.SentNote.{SentNote}
use Rattle.notify_rules.proofs.Lists.{at_within}
use Rattle.notify_rules.proofs.Noting.{noted_at, noted_nowhere}
use Rattle.notify_rules.proofs.sent_book.SentBook.take_one.Goals as goal

pub returns-in-None-clause-notes : goal.returns-in-None-clause-notes
returns-in-None-clause-notes c = λ d named sent once distinct.
    let e : c.as_slice.result.now ≡ c.args.self.now.notes = cc in
    sym (noted_nowhere c.args.moment d c.args.self.now.notes c.args.notification named (subst (λ (xs : List SentNote). IsAt (is_note c.args.notification) xs None) e c.in-None.ensures))

pub index_mut-requires : goal.index_mut-requires
index_mut-requires c = omega (arith, at_within (is_note c.args.notification) c.as_slice.result.now c.in-Some.place c.in-Some.ensures, c.as_slice.ensures.len)

pub returns-in-Some-clause-within : goal.returns-in-Some-clause-within
returns-in-Some-clause-within c =
    omega (arith, at_within (is_note c.args.notification) c.as_slice.result.now c.in-Some.place c.in-Some.ensures, ap length c.as_slice.ensures.value, length-set {A = SentNote})

pub returns-in-Some-clause-notes : goal.returns-in-Some-clause-notes
returns-in-Some-clause-notes c = λ d named sent once distinct.
    let rs = c.args.self.now.notes in
    let p = c.in-Some.place in
    let r = c.index_mut.result.now in
    let e : c.self.inside.notes.items ≡ rs = cc in
    let f : c.as_slice.result.now ≡ rs = cc in
    let at : IsAt (is_note c.args.notification) rs (Some p) = subst (λ (xs : List SentNote). IsAt (is_note c.args.notification) xs (Some p)) f c.in-Some.ensures in
    let here : r ≡ get_or rs p r = c.index_mut.ensures.value ∙ ap (λ (xs : List SentNote). get_or xs p r) e in
    let alone : AreDistinct (map user_of r.listeners) =
    subst (λ (x : SentNote). AreDistinct (map user_of x.listeners)) (sym here) (All-get_or (λ (x : SentNote). AreDistinct (map user_of x.listeners)) rs p r (at_within (is_note c.args.notification) rs p at) distinct) in
    let made = c.take.ensures alone ∙ ap (taken c.args.moment c.args.users.now) here in
    ap (λ (xs : List SentNote). set xs p c.take.new.self) e ∙ noted_at c.args.moment d rs p c.args.notification r c.take.new.self c.args.users.now named once at sent made
