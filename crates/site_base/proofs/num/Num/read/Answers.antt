use Rattle.std.proofs.Common.{◌∙◌, ap}
use Rattle.site_base.specs.Reading.{number_read}
use Rattle.site_base.proofs.Spelled.{spells_read, spelled_if}
use Rattle.site_base.proofs.num.Num.read.Goals as goal

pub returns-clause-spelled : goal.returns-clause-spelled
returns-clause-spelled c = spelled_if c.args.text.now c.read_number.result (c.read_number.ensures ∙ ap number_read c.as_bytes.ensures.value)

pub returns-clause-only : goal.returns-clause-only
returns-clause-only c =
    λ n small spelled. c.read_number.ensures ∙ ap number_read c.as_bytes.ensures.value ∙ spells_read c.args.text.now n small spelled
