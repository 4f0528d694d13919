use Rattle.std.proofs.Common.{◌≡◌, sym, ap, refl, subst, ◌∙◌, [], ◌∷◌, ◌++◌, Some}
use Rattle.atomic_table.specs.Table.{opening}
use Rattle.std.specs.Prelude.{Option, List}
use Rattle.post_turn.specs.declared.turns.About.{About}
use Rattle.post_turn.specs.declared.body.Body.{Body}
use Rattle.post_turn.specs.Turns.{Kept, everyone}
use Rattle.post_turn.proofs.Opens.{opens}
use Rattle.post_turn.proofs.post.Post.open.Goals as goal

pub new-requires-2 : goal.new-requires-2
new-requires-2 g c =
    let body : Body g.row.M-State.Denot g.row.M-Entry.Denot = record { state = c.args.start; history = c.new.result } in
    let same = c.of-key.ensures in
    let few = c.ranges.callers.fits in
    let slots : c.push.new.self.items ≡ Some body ∷ [] = c.in_ok-push.ensures.items ∙ ap (λ xs. xs ++ Some body ∷ []) c.new-slots.ensures.items in
    subst
    (λ (z : About g.row.M.Denot g.row.M-State.Denot × List (Option (Body g.row.M-State.Denot g.row.M-Entry.Denot))). Kept g.M.Machine.fit g.M.Machine.after g.M.Machine.caller_of z.0.machine z.0.start z.0.callers (opening (0 ∷ 0 ∷ []) z.1 (everyone z.0.machine z.0.start z.0.callers)))
    (λ i. (sym same i, sym slots i))
    (opens g.M.Machine.fit g.M.Machine.after g.M.Machine.caller_of c.args.machine c.args.start c.args.callers body c.new.ensures.items refl c.requires.1 few)
