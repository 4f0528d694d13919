use Rattle.std.proofs.Common.{ap, ◌∙◌, Some, None}
use Rattle.std.proofs.lemmas.List.{set-set}
use Rattle.wheel_links.specs.Members.{insert}
use Rattle.wheel_links.proofs.wheel.Wheel.move_to.Goals as goal

pub returns-clause-moved : goal.returns-clause-moved
returns-clause-moved g c =
    c.put_in.ensures.placed ∙ ap (λ ms. insert ms c.args.id c.args.moment) c.take_out.ensures.removed ∙ set-set c.args.self.now c.args.id None (Some c.args.moment)
