use Rattle.dsl_grammar.specs.Files.{file_outcome}
use Rattle.conf_sources.proofs.Outcomes.{deep_was}
use Rattle.conf_sources.proofs.reading.parsed.Goals as goal

pub returns-in-Err-TooDeep : goal.returns-in-Err-TooDeep
returns-in-Err-TooDeep c =
    rw (deep_was (file_outcome c.args.tokens.now) c.in-Err-TooDeep.field-0 c.in-Err-TooDeep.place c.in-Err-TooDeep.field-0-is c.in-Err-TooDeep.ensures.value) c.broken-in-Err-TooDeep.ensures
