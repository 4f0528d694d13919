use Rattle.std.proofs.Common.{◌≡◌, List, length, get_or, set, Some, None, true, sym, ap, ◌∙◌, arith, subst, length-set}
use Rattle.notify_rules.specs.Sent.{is_user, IsAt}
use Rattle.notify_rules.specs.declared.listeners.Listener.{Listener}
use Rattle.notify_rules.proofs.Lists.{at_within}
use Rattle.notify_rules.proofs.Telling.{listener, told_at, told_nowhere}
use Rattle.notify_rules.proofs.listeners.Listeners.tell_one.Goals as goal

pub returns-in-None-clause-told : goal.returns-in-None-clause-told
returns-in-None-clause-told c = λ once.
    let e : c.as_slice.result.now ≡ c.args.self.now = cc in
    sym (told_nowhere c.args.self.now c.args.user (subst (λ (xs : List Listener). IsAt (is_user c.args.user) xs None) e c.in-None.ensures))

pub index_mut-requires : goal.index_mut-requires
index_mut-requires c = omega (arith, at_within (is_user c.args.user) c.as_slice.result.now c.in-Some.place c.in-Some.ensures, c.as_slice.ensures.len)

pub overflow_add-result : goal.overflow_add-result
overflow_add-result c = omega (arith, at_within (is_user c.args.user) c.as_slice.result.now c.in-Some.place c.in-Some.ensures, c.as_slice.ensures.len)

pub returns-in-Some-clause-within : goal.returns-in-Some-clause-within
returns-in-Some-clause-within c =
    omega (arith, at_within (is_user c.args.user) c.as_slice.result.now c.in-Some.place c.in-Some.ensures, ap length c.as_slice.ensures.value, length-set {A = Listener})

pub returns-in-Some-clause-told : goal.returns-in-Some-clause-told
returns-in-Some-clause-told c = λ once.
    let ls = c.args.self.now in
    let p = c.in-Some.place in
    let d = c.index_mut.result.now in
    let e : c.self.inside.items.items ≡ ls = cc in
    let f : c.as_slice.result.now ≡ ls = cc in
    let at : IsAt (is_user c.args.user) ls (Some p) = subst (λ (xs : List Listener). IsAt (is_user c.args.user) xs (Some p)) f c.in-Some.ensures in
    let is : listener d.user true ≡ listener (get_or ls p d).user true =
    ap (λ (l : Listener). listener l.user true) (c.index_mut.ensures.value ∙ ap (λ (xs : List Listener). get_or xs p d) e) in
    ap (λ (xs : List Listener). set xs p (listener d.user true)) e ∙ told_at ls c.args.user p d (listener d.user true) once at is
