-- A name that has a place is taken.
use Rattle.std.proofs.Common.{true, false, cond, [], ◌∷◌, ◌++◌, sym, ap, ◌∙◌, append-nil}
use Rattle.std.specs.Borrow.{Bor}
use Rattle.std.proofs.lemmas.List.{map-append}
use Rattle.site_model.specs.Names.{place_of}
use Rattle.site_model.specs.PlainSite.{object_view}
use Rattle.site_model.specs.declared.object.Object.{Object}
use Rattle.object_lists.specs.Listed.{lent_view}
use Rattle.object_lists.proofs.ListedLaws.{is_taken}
use Rattle.object_lists.proofs.listed.Listed.add.Goals as goal

pub returns-then-is_some-clause-names : goal.returns-then-is_some-clause-names
returns-then-is_some-clause-names c =
    let names = c.args.self.now.names in
    let name = c.args.object.now.name in
    sym (ap (λ b. cond b names (names ++ name ∷ []))
    (is_taken name names c.find.result c.is_some.result true (c.find.ensures.value ∙ ap (λ n. place_of n names) c.as_str.ensures) c.is_some.ensures c.if-is_some.true))

pub returns-then-is_some-clause-objects : goal.returns-then-is_some-clause-objects
returns-then-is_some-clause-objects c =
    let names = c.args.self.now.names in
    let name = c.args.object.now.name in
    let before = lent_view c.args.self.now.objects.items in
    sym (append-nil before)
    ∙ sym (ap (λ b. before ++ cond b [] (object_view c.args.object.now ∷ []))
    (is_taken name names c.find.result c.is_some.result true (c.find.ensures.value ∙ ap (λ n. place_of n names) c.as_str.ensures) c.is_some.ensures c.if-is_some.true))

pub returns-clause-objects : goal.returns-clause-objects
returns-clause-objects c =
    let names = c.args.self.now.names in
    let name = c.args.object.now.name in
    let before = lent_view c.args.self.now.objects.items in
    ap lent_view c.in_ok-push.ensures.items
    ∙ map-append (λ (o : Bor Object). object_view o.now) c.args.self.now.objects.items (c.args.object ∷ [])
    ∙ sym (ap (λ b. before ++ cond b [] (object_view c.args.object.now ∷ []))
    (is_taken name names c.find.result c.is_some.result false (c.find.ensures.value ∙ ap (λ n. place_of n names) c.as_str.ensures) c.is_some.ensures c.if-is_some.false))
