-- The instance that is added is at the target, and shares what is given.
use Rattle.std.proofs.Common.{◌≡◌, ◌++◌, ◌∷◌, [], Option, ◌∙◌, subst}
use Rattle.std.proofs.lemmas.List.Elements.{All-push, All-same}
use Rattle.std.specs.Prelude.{IfSome}
use Rattle.apply_rules.specs.Sharing.{IsLike}
use Rattle.apply_rules.specs.declared.instance.Instance.{Instance}
use Rattle.apply_rules.proofs.evaluation.keep.Goals as goal

pub returns-in_ok-push-in-Some-clause-like : goal.returns-in_ok-push-in-Some-clause-like
returns-in_ok-push-in-Some-clause-like c =
    let h = c.args.share.now in
    let made = c.args.made.now.items in
    let i = c.in_ok-instance-in-Some.instance in
    let before : c.in-Some.instance.target ≡ h.target = subst (λ (o : Option Instance). IfSome o (λ j. j.target ≡ h.target)) c.in-Some.is c.requires.target in
    let like : IsLike h i = record { target = c.in_ok-instance-in-Some.ensures.target ∙ before; shared = c.in_ok-instance-in-Some.ensures.shared } in
    All-same (IsLike h) c.push.new.self.items (made ++ i ∷ []) c.in_ok-push-in-Some.ensures.items (All-push (IsLike h) made i c.requires.like like)
