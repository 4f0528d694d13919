use Rattle.std.proofs.Common.{ap, ◌∙◌}
use Rattle.commit_waves.specs.Plain.{plain_world}
use Rattle.commit_waves.proofs.waves.run_wave.Goals as goal

pub returns-clause-world : goal.returns-clause-world
returns-clause-world g c = λ none. ap (λ os. plain_world os c.make.new.groups.items) c.in_ok-add_objects.ensures ∙ c.in_ok-made.ensures.world none
