use Rattle.site_conf.proofs.FaultLaws.{faults_are}
use Rattle.site_conf.proofs.laws.each_diagnostic_is_of_a_fault.Goals as goal

pub returns : goal.returns
returns c = faults_are (λ file bytes ts e. (c.what_is_read_are_the_tokens.ensures.read file bytes ts e, c.what_is_read_are_the_tokens.ensures.whole file bytes ts e)) c.what_is_read_are_the_tokens.ensures.stopped c.files_have_one_outcome.ensures
